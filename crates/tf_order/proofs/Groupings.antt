-- The grouping from scratch, in any order of the documents.
use Rattle.std.proofs.Common.{◌≡◌, ℕ, ℤ, Bool, true, false, not, List, Option, Some, None, IsPermutation, filter, filter_map, refl, sym, ap, ◌∙◌, true≢false}
use Rattle.std.proofs.lemmas.List.Elements.{All-filter}
use Rattle.std.specs.Prelude.{IsTrue, if◌then◌else◌}
use Rattle.std.specs.Option.{option_and_then}
use Rattle.tf_model.specs.declared.doc.Doc.{Doc}
use Rattle.tf_model.specs.declared.config.Config.{Config}
use Rattle.tf_model.specs.declared.config.Retention.{Retention}
use Rattle.tf_model.specs.declared.config.Shape.{Shape}
use Rattle.tf_model.specs.declared.config.Shape.TheVariants as shape
use Rattle.tf_model.specs.declared.value.Key.{Key}
use Rattle.tf_model.specs.declared.entry.Row.{Row}
use Rattle.tf_model.specs.Counted.{counted, counts}
use Rattle.tf_model.specs.Latest.{latest_row}
use Rattle.tf_model.specs.Retention.{date_of, is_past, named_doc, retained, retained_by, row_value, stays}
use Rattle.tf_model.specs.Rows.{pivot_row}
use Rattle.tf_model.specs.Scratch.{grouping, is_pivot, row_of, scratch}
use Rattle.tf_model.specs.Values.{value_of}
use Rattle.tf_order.specs.Laws.{PivotsInAnyOrder, GroupingsInAnyOrder}
use Rattle.tf_order.specs.Names.{has_name_of}
use Rattle.tf_order.specs.Shards.{is_among}
use Rattle.tf_order.proofs.Names.{IsDistinct-filter, latest_rows_in_any_order, named_doc_in_any_order}
use Rattle.tf_order.proofs.Rows.{counted_in_any_order, keys_in_any_order, pivot_rows_in_any_order}

-- ---- what retention looks at
row_value_alike : (s : Shape) (docs others : List Doc) → ((r : Row) → is_pivot s ≡ false → named_doc docs r ≡ named_doc others r) → (r : Row) (field : List ℕ) → row_value s docs r field ≡ row_value s others r field
row_value_alike (shape.Pivot groups aggs) docs others alike r field = refl
row_value_alike (shape.Latest unique_key sort) docs others alike r field = ap (option_and_then (λ d. value_of d field)) (alike r refl)

retained_alike : (o : Option Retention) (s : Shape) (docs others : List Doc) → ((r : Row) → is_pivot s ≡ false → named_doc docs r ≡ named_doc others r) → (r : Row) → retained_by o s docs r ≡ retained_by o s others r
retained_alike None s docs others alike r = refl
retained_alike (Some retention) s docs others alike r = ap (option_and_then date_of) (row_value_alike s docs others alike r retention.field)

module _ (c : Config) (docs others : List Doc) (alike : (r : Row) → is_pivot c.shape ≡ false → named_doc docs r ≡ named_doc others r) where
  stays_alike : (cutoff : Option ℤ) (r : Row) → stays c docs cutoff r ≡ stays c others cutoff r
  unfolding stays retained
  stays_alike None r = refl
  stays_alike (Some cutoff) r = ap (λ o. not (is_past o cutoff)) (retained_alike c.retention c.shape docs others alike r)

-- ---- rows
module _ {A B : Type 0} (f g : A → B) (alike : (a : A) → f a ≡ g a) where
  as_one : f ≡ g
  as_one = λ i a. alike a i

module _ (sources : List ℕ) (c : Config) (docs others : List Doc) (moved : IsPermutation docs others) (latest_alike : (k : Key) → is_pivot c.shape ≡ false → latest_row sources c k docs ≡ latest_row sources c k others) where
  row_alike : (k : Key) → row_of sources c docs k ≡ row_of sources c others k
  unfolding row_of
  row_alike k = by (is_pivot c.shape) refl
    where
      by : (b : Bool) → is_pivot c.shape ≡ b → (if b then pivot_row c k docs else latest_row sources c k docs) ≡ (if b then pivot_row c k others else latest_row sources c k others)
      by true e = pivot_rows_in_any_order c k docs others moved
      by false e = latest_alike k e

  grouping_alike : grouping sources c docs ≡ grouping sources c others
  unfolding grouping
  grouping_alike = λ i. filter_map (as_one (row_of sources c docs) (row_of sources c others) row_alike i) (keys_in_any_order c docs others moved i)

-- ---- the grouping from scratch
pub pivots_in_any_order : PivotsInAnyOrder
unfolding scratch
pivots_in_any_order sources c bound cutoff docs others moved pivot =
    let kept = as_one (stays c docs cutoff) (stays c others cutoff) (stays_alike c docs others (λ r latest. absurd (true≢false (sym pivot ∙ latest))) cutoff) in
    let rows = grouping_alike sources c (counted c bound docs) (counted c bound others) (counted_in_any_order c bound docs others moved) (λ k latest. absurd (true≢false (sym pivot ∙ latest))) in
    λ i. filter (kept i) (rows i)

pub groupings_in_any_order : GroupingsInAnyOrder
unfolding scratch counted
groupings_in_any_order sources c bound cutoff docs others moved among once =
    let kept = as_one (stays c docs cutoff) (stays c others cutoff) (stays_alike c docs others (λ r latest. named_doc_in_any_order docs others moved once r) cutoff) in
    let counting = counted_in_any_order c bound docs others moved in
    let rows = grouping_alike sources c (counted c bound docs) (counted c bound others) counting
    (λ k latest. latest_rows_in_any_order sources c k (counted c bound docs) (counted c bound others) counting
    (All-filter (counts c bound) (λ d. IsTrue (is_among sources d)) docs among) (IsDistinct-filter has_name_of (counts c bound) docs once)) in
    λ i. filter (kept i) (rows i)
