use Rattle.std.proofs.Common.{◌*◌, ◌-◌, length, take, sym, ap, ◌∙◌, arith}
use Rattle.std.proofs.lemmas.List.{length-map}
use Rattle.std.specs.Arc.{arc_value}
use Rattle.tf_segment.specs.Segments.{shared}
use Rattle.tf_segment.proofs.Places.{with_tail, length_all}
use Rattle.tf_segment.proofs.run.Run.with_tail.Goals as goal

pub first_shares-requires-2 : goal.first_shares-requires-2
first_shares-requires-2 c =
    let all = length_all (shared c.args.segments.now) (shared c.args.tail.now) c.requires.full in
    omega (arith, all, c.requires.within, length-map c.args.tail.now (λ d. arc_value d), length-map c.args.segments.now (λ s. arc_value s))

pub invariant_of-result : goal.invariant_of-result
invariant_of-result c =
    let segments = shared c.args.segments.now in
    let tail = shared c.args.tail.now in
    let all = length_all segments tail c.requires.full in
    let many = length-map c.args.segments.now (λ s. arc_value s) in
    (with_tail segments c.requires.full (shared c.in_ok-first_shares.field-0) (shared c.in_ok-first_shares-2.field-0) tail (c.args.len - length c.args.segments.now * 1024) c.args.len
    (omega (arith, many, c.requires.more)) (omega (arith, all, many, c.requires.within)) (c.in_ok-first_shares.ensures ∙ ap (λ n. take n segments) (sym many)) c.in_ok-first_shares-2.ensures).0

pub returns : goal.returns
returns c =
    let segments = shared c.args.segments.now in
    let tail = shared c.args.tail.now in
    let all = length_all segments tail c.requires.full in
    let many = length-map c.args.segments.now (λ s. arc_value s) in
    (with_tail segments c.requires.full (shared c.in_ok-first_shares.field-0) (shared c.in_ok-first_shares-2.field-0) tail (c.args.len - length c.args.segments.now * 1024) c.args.len
    (omega (arith, many, c.requires.more)) (omega (arith, all, many, c.requires.within)) (c.in_ok-first_shares.ensures ∙ ap (λ n. take n segments) (sym many)) c.in_ok-first_shares-2.ensures).1
