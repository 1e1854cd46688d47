use Rattle.std.proofs.Common.{◌≤◌, length, ap, arith}
use Rattle.std.proofs.lemmas.List.{length-map}
use Rattle.std.specs.Arc.{arc_value}
use Rattle.tf_segment.specs.Segments.{shared}
use Rattle.tf_segment.proofs.Places.{of_segments}
use Rattle.tf_segment.proofs.run.Run.of_segments.Goals as goal

pub invariant_of-result : goal.invariant_of-result
invariant_of-result c =
    let few : c.args.count ≤ length (shared c.args.segments.now) = omega (arith, length-map c.args.segments.now (λ s. arc_value s), c.requires.few) in
    (of_segments (shared c.args.segments.now) c.requires.full (shared c.in_ok-first_shares.field-0) (shared c.new.result) c.args.count c.args.len few c.requires.enough
    c.in_ok-first_shares.ensures (ap shared c.new.ensures)).0

pub returns : goal.returns
returns c =
    let few : c.args.count ≤ length (shared c.args.segments.now) = omega (arith, length-map c.args.segments.now (λ s. arc_value s), c.requires.few) in
    (of_segments (shared c.args.segments.now) c.requires.full (shared c.in_ok-first_shares.field-0) (shared c.new.result) c.args.count c.args.len few c.requires.enough
    c.in_ok-first_shares.ensures (ap shared c.new.ensures)).1
