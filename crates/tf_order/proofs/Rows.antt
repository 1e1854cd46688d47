-- The documents that count, their keys and their rows, in any order of the documents.
use Rattle.std.proofs.Common.{◌≡◌, ℕ, List, [], ◌∷◌, IsPermutation, refl, ap}
use Rattle.std.proofs.lemmas.List.Sorted.{list_any-IsPermutation, All-permutation}
use Rattle.std.specs.Option.{option_map, option_and_then}
use Rattle.std.specs.Prelude.{filter}
use Rattle.tf_model.specs.declared.value.Key.{Key}
use Rattle.tf_model.specs.declared.doc.Doc.{Doc}
use Rattle.tf_model.specs.declared.config.Config.{Config}
use Rattle.tf_model.specs.declared.config.Agg.{Agg}
use Rattle.tf_model.specs.declared.entry.Row.TheVariants as row
use Rattle.tf_model.specs.Changed.{changed, changed_above, is_after}
use Rattle.tf_model.specs.Conditions.{Fits}
use Rattle.tf_model.specs.Counted.{counted, counts, is_in_window, window}
use Rattle.tf_model.specs.Keys.{all_keys, has_key, keys_of}
use Rattle.tf_model.specs.Rows.{all_aggregated, aggs_of, field_values, first_wide, or_else, pivot_row, sum_range, sum_range_at, with_key}
use Rattle.tf_model.specs.Values.{value_of}
use Rattle.tf_order.proofs.Keys.{sorted_alike}
use Rattle.tf_order.proofs.Lists.{IsPermutation-filter, IsPermutation-filter_map, IsPermutation-flat_map}
use Rattle.tf_order.proofs.Values.{aggregated_alike, greatest_alike, least_alike, length_alike, total_alike, wide_sum_alike}
use Rattle.tf_order.specs.Laws.{CountedInAnyOrder, WindowsInAnyOrder, FitsInAnyOrder, KeysInAnyOrder, ChangedInAnyOrder, PivotRowsInAnyOrder, SumRangesInAnyOrder, ValuesInAnyOrder}

pub counted_in_any_order : CountedInAnyOrder
unfolding counted
counted_in_any_order c bound docs others moved = IsPermutation-filter (counts c bound) docs others moved

pub windows_in_any_order : WindowsInAnyOrder
unfolding window
windows_in_any_order c low high docs others moved = record {
  documents = IsPermutation-filter (is_in_window c low high) docs others moved;
  any = list_any-IsPermutation (is_in_window c low high) docs others moved;
}

pub fits_in_any_order : FitsInAnyOrder
fits_in_any_order c docs others moved fit = All-permutation (Fits c) docs others moved fit

pub keys_in_any_order : KeysInAnyOrder
unfolding all_keys
keys_in_any_order c docs others moved = sorted_alike _ _ (IsPermutation-flat_map (keys_of c) docs others moved)

pub changed_in_any_order : ChangedInAnyOrder
unfolding changed_above changed
changed_in_any_order c low high after docs others moved = ap (filter (is_after after)) (keys_in_any_order c (window c low high docs) (window c low high others) (windows_in_any_order c low high docs others moved).documents)

pub values_in_any_order : ValuesInAnyOrder
values_in_any_order vs ws moved = record {
  count = length_alike vs ws moved;
  sum = total_alike vs ws moved;
  least_value = least_alike vs ws moved;
  greatest_value = greatest_alike vs ws moved;
}

with_key_in_any_order : (c : Config) (k : Key) (docs others : List Doc) → IsPermutation docs others → IsPermutation (with_key c k docs) (with_key c k others)
unfolding with_key
with_key_in_any_order c k docs others moved = IsPermutation-filter (has_key c k) docs others moved

field_values_in_any_order : (field : List ℕ) (docs others : List Doc) → IsPermutation docs others → IsPermutation (field_values field docs) (field_values field others)
field_values_in_any_order field docs others moved = IsPermutation-filter_map (λ d. value_of d field) docs others moved

aggregations_in_any_order : (aggs : List Agg) (docs others : List Doc) → IsPermutation docs others → all_aggregated aggs docs ≡ all_aggregated aggs others
aggregations_in_any_order [] docs others moved = refl
aggregations_in_any_order (agg ∷ aggs) docs others moved =
    let first = aggregated_alike agg.kind (field_values agg.field docs) (field_values agg.field others) (field_values_in_any_order agg.field docs others moved) in
    let rest = aggregations_in_any_order aggs docs others moved in
    λ i. option_and_then (λ v. option_map (λ vs. v ∷ vs) (rest i)) (first i)

pub pivot_rows_in_any_order : PivotRowsInAnyOrder
unfolding pivot_row
pivot_rows_in_any_order c k docs others moved =
    ap (option_map (row.Pivot k)) (aggregations_in_any_order (aggs_of c.shape) (with_key c k docs) (with_key c k others) (with_key_in_any_order c k docs others moved))

wide_in_any_order : (k : Key) (aggs : List Agg) (docs others : List Doc) → IsPermutation docs others → first_wide k aggs docs ≡ first_wide k aggs others
wide_in_any_order k [] docs others moved = refl
wide_in_any_order k (agg ∷ aggs) docs others moved =
    let first = wide_sum_alike agg.kind (field_values agg.field docs) (field_values agg.field others) (field_values_in_any_order agg.field docs others moved) in
    let rest = wide_in_any_order k aggs docs others moved in
    λ i. or_else (option_map (sum_range_at k agg) (first i)) (rest i)

pub sum_ranges_in_any_order : SumRangesInAnyOrder
unfolding sum_range
sum_ranges_in_any_order c k docs others moved = wide_in_any_order k (aggs_of c.shape) (with_key c k docs) (with_key c k others) (with_key_in_any_order c k docs others moved)
