-- What aggregations keep of two lists.
use Rattle.std.proofs.Common.{◌≡◌, ℕ, suc, ◌+◌, ◌<◌, List, [], ◌∷◌, ◌++◌, length, map, take, drop, get_or, slice_set, All, refl, sym, ap, subst, ◌∙◌, arith, rules, length-append, min}
use Rattle.std.proofs.lemmas.List.{take_more, take_more_set, drop-set-lt, get_or-drop, drop-drop, length-take}
use Rattle.std.proofs.lemmas.List.Elements.{filter_map-append, All-push, All-map}
use Rattle.std.proofs.lemmas.Int.{ints}
use Rattle.std.specs.Prelude.{Option, Some, None}
use Rattle.std.specs.List.{filter_map}
use Rattle.std.proofs.Math.IntN.{+ℤ_idr}
use Rattle.tf_model.specs.declared.value.Value.{Value}
use Rattle.tf_model.specs.declared.doc.Doc.{Doc}
use Rattle.tf_model.specs.declared.config.Agg.{Agg}
use Rattle.tf_model.specs.declared.config.AggKind.{AggKind}
use Rattle.tf_model.specs.declared.config.AggKind.TheVariants.{Sum, Min, Max, ValueCount}
use Rattle.tf_model.specs.Values.{value_of}
use Rattle.tf_model.specs.Rows.{field_values, number_in}
use Rattle.tf_model.proofs.FoldLaws.{total-append, least-append, greatest-append}
use Rattle.tf_fold.specs.declared.part.Part.{Part}
use Rattle.tf_fold.specs.declared.part.Part.TheVariants as part
use Rattle.tf_fold.specs.Bounds.{IsPartWithin}
use Rattle.tf_fold.specs.Parts.{part_over, parts_over, part_found, part_in, joined, all_joined}

-- one aggregation over both lists
joined_over : (kind : AggKind) (vs ws : List Value) → joined (part_over kind vs) (part_over kind ws) ≡ part_over kind (vs ++ ws)
joined_over Sum vs ws = ap part.Sum (sym (total-append vs ws))
joined_over Min vs ws = ap part.Least (sym (least-append vs ws))
joined_over Max vs ws = ap part.Greatest (sym (greatest-append vs ws))
joined_over ValueCount vs ws = ap part.Count (sym (length-append vs ws))

-- the parts of both lists
pub parts_of_both : (aggs : List Agg) (docs more : List Doc) → all_joined (parts_over aggs docs) (parts_over aggs more) ≡ parts_over aggs (docs ++ more)
parts_of_both [] docs more = refl
parts_of_both (agg ∷ aggs) docs more =
    let one = joined_over agg.kind (field_values agg.field docs) (field_values agg.field more) ∙ ap (part_over agg.kind) (sym (filter_map-append (λ d. value_of d agg.field) docs more)) in
    let rest = parts_of_both aggs docs more in
    λ i. one i ∷ rest i

-- one aggregation over one value
of_one : (kind : AggKind) (found : Option Value) → part_found kind found ≡ part_over kind (filter_map (λ (v : Option Value). v) (found ∷ []))
of_one Sum None = refl
of_one Sum (Some v) = ap part.Sum (sym (+ℤ_idr (number_in v)))
of_one Min None = refl
of_one Min (Some v) = refl
of_one Max None = refl
of_one Max (Some v) = refl
of_one ValueCount None = refl
of_one ValueCount (Some v) = refl

-- the parts of one document
pub parts_of_one : (aggs : List Agg) (d : Doc) → map (part_in d) aggs ≡ parts_over aggs (d ∷ [])
parts_of_one [] d = refl
parts_of_one (agg ∷ aggs) d = let one = of_one agg.kind (value_of d agg.field) in let rest = parts_of_one aggs d in λ i. one i ∷ rest i

-- the parts of one document more
pub parts_of_more : (aggs : List Agg) (docs : List Doc) (d : Doc) → all_joined (parts_over aggs docs) (map (part_in d) aggs) ≡ parts_over aggs (docs ++ d ∷ [])
parts_of_more aggs docs d = ap (all_joined (parts_over aggs docs)) (parts_of_one aggs d) ∙ parts_of_both aggs docs (d ∷ [])

as_many_joined : (ps qs : List Part) → length (all_joined ps qs) ≡ length ps
as_many_joined [] qs = refl
as_many_joined (p ∷ ps) [] = refl
as_many_joined (p ∷ ps) (q ∷ qs) = ap suc (as_many_joined ps qs)

-- joining leaves as many parts
pub as_many_after : (ps qs : List Part) {new : List Part} → new ≡ all_joined ps qs → length new ≡ length ps
as_many_after ps qs is = ap length is ∙ as_many_joined ps qs

-- joining from the end
join_push : (xs ys : List Part) (x y : Part) → length xs ≡ length ys → all_joined (xs ++ x ∷ []) (ys ++ y ∷ []) ≡ all_joined xs ys ++ joined x y ∷ []
join_push [] [] x y e = refl
join_push [] (z ∷ ys) x y e = absurd (omega arith)
join_push (z ∷ xs) [] x y e = absurd (omega arith)
join_push (w ∷ xs) (z ∷ ys) x y e = let rest = join_push xs ys x y (omega arith) in λ i. joined w z ∷ rest i

-- two lists that are the same from a place on are the same at it
same_at : (ps olds : List Part) (i : ℕ) (d : Part) → drop i ps ≡ drop i olds → get_or ps i d ≡ get_or olds i d
same_at ps olds i d rest =
    let there : get_or (drop i ps) 0 d ≡ get_or (drop i olds) 0 d = ap (λ xs. get_or xs 0 d) rest in
    let here : get_or (drop i ps) 0 d ≡ get_or ps (i + 0) d = get_or-drop i ps 0 d in
    let old : get_or (drop i olds) 0 d ≡ get_or olds (i + 0) d = get_or-drop i olds 0 d in
    let zero_more : i + 0 ≡ i = omega arith in
    ap (λ n. get_or ps n d) (sym zero_more) ∙ sym here ∙ there ∙ old ∙ ap (λ n. get_or olds n d) zero_more

-- what a part that is not yet joined was at first keeps its bounds
pub within_at : (P : Part → Type 0) (ps olds : List Part) (i : ℕ) (p : Part) → All P olds → drop i ps ≡ drop i olds → i < length olds → p ≡ get_or ps i p → P p
within_at P ps olds i p all rest lt is = subst P (sym (is ∙ same_at ps olds i p rest)) (all i p lt)

-- one part more is joined
pub joined_more : (ps olds qs : List Part) (i : ℕ) (p q : Part) → i < length ps → length ps ≡ length olds → length olds ≡ length qs
    → p ≡ get_or ps i p → q ≡ get_or qs i q → take i ps ≡ all_joined (take i olds) (take i qs) → drop i ps ≡ drop i olds
    → take (i + 1) (slice_set ps i (joined p q)) ≡ all_joined (take (i + 1) olds) (take (i + 1) qs)
joined_more ps olds qs i p q lt same all is_p is_q joined_so_far rest =
    let lt_old : i < length olds = omega (arith, lt, same) in
    let lt_q : i < length qs = omega (arith, lt_old, all) in
    let old : take (i + 1) olds ≡ take i olds ++ p ∷ [] = take_more olds i p lt_old ∙ ap (λ x. take i olds ++ x ∷ []) (sym (is_p ∙ same_at ps olds i p rest)) in
    let more : take (i + 1) qs ≡ take i qs ++ q ∷ [] = take_more qs i q lt_q ∙ ap (λ x. take i qs ++ x ∷ []) (sym is_q) in
    let as_long : length (take i olds) ≡ length (take i qs) = length-take i olds ∙ ap (min i) all ∙ sym (length-take i qs) in
    take_more_set ps i (joined p q) lt
    ∙ ap (λ xs. xs ++ joined p q ∷ []) joined_so_far
    ∙ sym (join_push (take i olds) (take i qs) p q as_long)
    ∙ (λ j. all_joined (sym old j) (sym more j))

-- the parts after it stay
pub rest_more : (ps olds : List Part) (i : ℕ) (r : Part) → drop i ps ≡ drop i olds → drop (i + 1) (slice_set ps i r) ≡ drop (i + 1) olds
rest_more ps olds i r rest =
    let lt : i < i + 1 = omega arith in
    drop-set-lt (i + 1) ps i r lt ∙ one_less ps ∙ ap (drop 1) rest ∙ sym (one_less olds)
  where
    one_less : (xs : List Part) → drop (i + 1) xs ≡ drop 1 (drop i xs)
    one_less xs = sym (drop-drop 1 i xs)

-- the bounds of the parts that are joined
pub within_more : (P : Part → Type 0) (ps : List Part) (i : ℕ) (r : Part) → i < length ps → All P (take i ps) → P r → All P (take (i + 1) (slice_set ps i r))
within_more P ps i r lt all one = subst (All P) (sym (take_more_set ps i r lt)) (All-push P (take i ps) r all one)

-- the part of no values
none_within_at : (kind : AggKind) → IsPartWithin 0 (part_over kind [])
none_within_at Sum = (search (rules, ints), search (rules, ints))
none_within_at Min = tt
none_within_at Max = tt
none_within_at ValueCount = omega arith

-- the parts of no documents
pub none_within : (aggs : List Agg) → All (IsPartWithin 0) (parts_over aggs [])
none_within aggs = All-map (IsPartWithin 0) (λ (agg : Agg). part_over agg.kind []) aggs (λ k d lt. none_within_at (get_or aggs k d).kind)
