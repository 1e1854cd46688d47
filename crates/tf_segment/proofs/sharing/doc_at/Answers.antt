use Rattle.std.proofs.Common.{rules, ◌≡◌, ◌+◌, ◌*◌, ◌<◌, ◌-◌, ◌/◌, ◌%◌, [], length, get_or, sym, ap, ◌∙◌, arith}
use Rattle.std.proofs.lemmas.List.{length-map, get_or-map}
use Rattle.std.specs.Arc.{arc_value}
use Rattle.tf_segment.specs.Segments.{all_of, shared}
use Rattle.tf_segment.proofs.Places.{in_segment, in_tail, length_all}
use Rattle.tf_segment.proofs.sharing.doc_at.Goals as goal

pub doc-requires : goal.doc-requires
doc-requires c =
    let segments = c.args.segments.now in
    let number = c.args.at / 1024 in
    let many : length (shared segments) ≡ length segments = length-map segments (λ s. arc_value s) in
    let one : get_or (shared segments) number [] ≡ c.deref.result.now =
    get_or-map (λ s. arc_value s) segments number c.index-segments-number.result [] c.if-number-segments.true
    ∙ ap (λ s. arc_value s) (sym c.index-segments-number.is) ∙ sym c.deref.ensures in
    let full : length (get_or (shared segments) number []) ≡ 1024 = c.requires.full number [] (omega (arith, many, c.if-number-segments.true)) in
    let long : length c.deref.result.now ≡ 1024 = ap length (sym one) ∙ full in
    omega (arith, long)

pub bounds-tail-at : goal.bounds-tail-at
bounds-tail-at c =
    let all = length_all (shared c.args.segments.now) (shared c.args.tail.now) c.requires.full in
    omega (arith, all, c.requires.within, length-map c.args.tail.now (λ d. arc_value d), length-map c.args.segments.now (λ s. arc_value s))

pub offset_bounds-tail-at : goal.offset_bounds-tail-at
offset_bounds-tail-at c =
    let all = length_all (shared c.args.segments.now) (shared c.args.tail.now) c.requires.full in
    let lt : c.args.at - length c.args.segments.now * 1024 < length c.args.tail.now = omega (arith, all, c.requires.within, length-map c.args.tail.now (λ d. arc_value d), length-map c.args.segments.now (λ s. arc_value s)) in
    search rules

pub returns-then-number-segments : goal.returns-then-number-segments
returns-then-number-segments c =
    let segments = c.args.segments.now in
    let number = c.args.at / 1024 in
    let place = c.args.at % 1024 in
    let doc = c.doc.result.now in
    let many : length (shared segments) ≡ length segments = length-map segments (λ s. arc_value s) in
    let one : get_or (shared segments) number [] ≡ c.deref.result.now =
    get_or-map (λ s. arc_value s) segments number c.index-segments-number.result [] c.if-number-segments.true
    ∙ ap (λ s. arc_value s) (sym c.index-segments-number.is) ∙ sym c.deref.ensures in
    let at : number * 1024 + place ≡ c.args.at = omega arith in
    c.doc.ensures ∙ ap (λ docs. get_or docs place doc) (sym one)
    ∙ sym (in_segment (shared segments) (shared c.args.tail.now) number place doc c.requires.full (omega (arith, many, c.if-number-segments.true)) (omega arith))
    ∙ ap (λ n. get_or (all_of (shared segments) (shared c.args.tail.now)) n doc) at

pub returns-else-number-segments : goal.returns-else-number-segments
returns-else-number-segments c =
    let segments = c.args.segments.now in
    let tail = c.args.tail.now in
    let place = c.args.at - length segments * 1024 in
    let doc = c.deref-else-number-segments.result.now in
    let all = length_all (shared segments) (shared tail) c.requires.full in
    let lt : place < length tail = omega (arith, all, c.requires.within, length-map tail (λ d. arc_value d), length-map segments (λ s. arc_value s)) in
    let at : length (shared segments) * 1024 + place ≡ c.args.at = omega (arith, length-map segments (λ s. arc_value s), c.if-number-segments.false) in
    c.deref-else-number-segments.ensures ∙ ap (λ d. arc_value d) c.index-tail-at.is
    ∙ sym (get_or-map (λ d. arc_value d) tail place c.index-tail-at.result doc lt)
    ∙ sym (in_tail (shared segments) (shared tail) place doc c.requires.full)
    ∙ ap (λ n. get_or (all_of (shared segments) (shared tail)) n doc) at
