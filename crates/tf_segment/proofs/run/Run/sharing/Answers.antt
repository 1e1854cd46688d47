use Rattle.std.proofs.Common.{◌≡◌, ◌*◌, ◌≤◌, IfOk, length, subst, arith}
use Rattle.std.proofs.lemmas.List.{length-map}
use Rattle.std.specs.Arc.{arc_value}
use Rattle.tf_segment.specs.Segments.{shared}
use Rattle.tf_segment.proofs.Places.{no_tail}
use Rattle.tf_segment.proofs.run.Run.sharing.Goals as goal

pub returns-then-count-segments : goal.returns-then-count-segments
returns-then-count-segments c =
    let segments = shared c.args.segments.now in
    let enough : c.args.len ≤ length segments * 1024 = omega (arith, length-map c.args.segments.now (λ s. arc_value s), c.segments_for-count.ensures.enough, c.if-count-segments.true) in
    subst (λ docs. IfOk c.of_segments.result (λ run. run ≡ docs)) (no_tail segments (shared c.args.tail.now) c.args.len c.requires.full enough) c.of_segments.ensures
