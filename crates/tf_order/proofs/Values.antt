-- What is made of values in any order.
use Rattle.std.proofs.Common.{◌≡◌, pos, ◌+ℤ◌, if◌then◌else◌, List, [], ◌∷◌, length, Some, None, IsPermutation, refl, sym, ap, ◌∙◌}
use Rattle.std.proofs.Math.IntN.{+ℤ_assoc, +ℤ_comm}
use Rattle.std.proofs.lemmas.List.Sorted.{length_permutation}
use Rattle.std.specs.Option.{unwrap_or}
use Rattle.std.specs.Ordering.{min_by_ordering, max_by_ordering, ordering_reverse}
use Rattle.std.specs.declared.cmp.Ordering.{Ordering}
use Rattle.std.specs.declared.cmp.Ordering.TheVariants.{Less, Equal, Greater}
use Rattle.tf_model.specs.declared.value.Value.{Value}
use Rattle.tf_model.specs.declared.value.Value.TheVariants as value
use Rattle.tf_model.specs.declared.config.AggKind.{AggKind}
use Rattle.tf_model.specs.declared.config.AggKind.TheVariants.{Sum, Min, Max, ValueCount}
use Rattle.tf_model.specs.Order.{value_cmp, value_cmp_total}
use Rattle.tf_model.specs.Rows.{number_in, total, lesser, greater, of_both, least, greatest, sum_value, fits_i64, aggregated, wide_sum}
use Rattle.tf_model.proofs.FoldLaws.{least-append, greatest-append}
use Rattle.tf_model.proofs.OrderLaws.{value_cmp_exact}
use Rattle.tf_order.proofs.Flips.{same_by_flips}

pub total_alike : (vs ws : List Value) → IsPermutation vs ws → total vs ≡ total ws
total_alike =
    same_by_flips total (λ v vs ws same. ap (λ n. number_in v +ℤ n) same)
    (λ v w vs. sym (+ℤ_assoc (number_in v) (number_in w) (total vs)) ∙ ap (λ n. n +ℤ total vs) (+ℤ_comm (number_in v) (number_in w)) ∙ +ℤ_assoc (number_in w) (number_in v) (total vs))

lesser_at : (v w : Value) (o : Ordering) → value_cmp v w ≡ o → min_by_ordering o v w ≡ min_by_ordering (ordering_reverse o) w v
lesser_at v w Less e = refl
lesser_at v w Equal e = value_cmp_exact v w e
lesser_at v w Greater e = refl

lesser_flipped : (v w : Value) → lesser v w ≡ lesser w v
lesser_flipped v w = lesser_at v w (value_cmp v w) refl ∙ ap (λ o. min_by_ordering o w v) (sym (value_cmp_total.antisymm w v))

greater_at : (v w : Value) (o : Ordering) → value_cmp v w ≡ o → max_by_ordering o v w ≡ max_by_ordering (ordering_reverse o) w v
greater_at v w Less e = refl
greater_at v w Equal e = sym (value_cmp_exact v w e)
greater_at v w Greater e = refl

greater_flipped : (v w : Value) → greater v w ≡ greater w v
greater_flipped v w = greater_at v w (value_cmp v w) refl ∙ ap (λ o. max_by_ordering o w v) (sym (value_cmp_total.antisymm w v))

pub least_alike : (vs ws : List Value) → IsPermutation vs ws → least vs ≡ least ws
least_alike =
    same_by_flips least (λ v vs ws same. ap (of_both lesser (Some v)) same)
    (λ v w vs. least-append (v ∷ w ∷ []) vs ∙ ap (λ x. of_both lesser (Some x) (least vs)) (lesser_flipped v w) ∙ sym (least-append (w ∷ v ∷ []) vs))

pub greatest_alike : (vs ws : List Value) → IsPermutation vs ws → greatest vs ≡ greatest ws
greatest_alike =
    same_by_flips greatest (λ v vs ws same. ap (of_both greater (Some v)) same)
    (λ v w vs. greatest-append (v ∷ w ∷ []) vs ∙ ap (λ x. of_both greater (Some x) (greatest vs)) (greater_flipped v w) ∙ sym (greatest-append (w ∷ v ∷ []) vs))

pub length_alike : {X : Type 0} (xs ys : List X) → IsPermutation xs ys → length xs ≡ length ys
length_alike xs ys moved = sym (length_permutation xs ys moved)

-- an aggregation's value
pub aggregated_alike : (kind : AggKind) (vs ws : List Value) → IsPermutation vs ws → aggregated kind vs ≡ aggregated kind ws
aggregated_alike Sum vs ws moved = ap sum_value (total_alike vs ws moved)
aggregated_alike Min vs ws moved = ap (λ o. Some (unwrap_or o value.Null)) (least_alike vs ws moved)
aggregated_alike Max vs ws moved = ap (λ o. Some (unwrap_or o value.Null)) (greatest_alike vs ws moved)
aggregated_alike ValueCount vs ws moved = ap (λ n. Some (value.Int (pos n))) (length_alike vs ws moved)

-- a sum outside its range
pub wide_sum_alike : (kind : AggKind) (vs ws : List Value) → IsPermutation vs ws → wide_sum kind vs ≡ wide_sum kind ws
wide_sum_alike Sum vs ws moved = ap (λ n. if fits_i64 n then None else Some n) (total_alike vs ws moved)
wide_sum_alike Min vs ws moved = refl
wide_sum_alike Max vs ws moved = refl
wide_sum_alike ValueCount vs ws moved = refl
