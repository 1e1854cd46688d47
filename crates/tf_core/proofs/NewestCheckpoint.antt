-- The newest checkpoint of a transform: what is left to do, the next page, and the sum for which it fails.
use Rattle.std.proofs.Common.{◌≡◌, ℕ, ◌<◌, Bool, true, false, List, [], ◌∷◌, length, take, Option, Some, None, refl, sym, ap, ◌∙◌, arith}
use Rattle.std.specs.Prelude.{ℤ, pos, is_none, is_some, if◌then◌else◌, unwrap_or, option_map, option_and_then}
use Rattle.std.specs.List.{find}
use Rattle.tf_model.specs.declared.config.Agg.{Agg}
use Rattle.tf_model.specs.declared.config.AggKind.{AggKind}
use Rattle.tf_model.specs.declared.config.AggKind.TheVariants.{Sum, Min, Max, ValueCount}
use Rattle.tf_model.specs.declared.config.Config.{Config}
use Rattle.tf_model.specs.declared.doc.Doc.{Doc}
use Rattle.tf_model.specs.declared.entry.Row.TheVariants as row
use Rattle.tf_model.specs.declared.entry.SumRange.{SumRange}
use Rattle.tf_model.specs.declared.value.Key.{Key}
use Rattle.tf_model.specs.declared.value.Value.{Value}
use Rattle.tf_model.specs.declared.value.Value.TheVariants as value
use Rattle.tf_model.specs.Changed.{changed_above}
use Rattle.tf_model.specs.Counted.{counted}
use Rattle.tf_model.specs.Rows.{aggregated, aggs_of, all_aggregated, field_values, first_wide as first_wide_agg, fits_i64, greatest, least, or_else, pivot_row, sum_range, sum_range_at, total, wide_sum, with_key}
use Rattle.tf_model.specs.Scratch.{is_pivot, row_of}
use Rattle.tf_model.proofs.RangeLaws.{range_key}
use Rattle.tf_history.specs.Grouping as grouping
use Rattle.tf_history.specs.Legality.{failing, next_page, row_now, sum_now, to_do}
use Rattle.tf_history.specs.Lives.{Checkpoint, Life, counted_last, from_sources, last_bound, read_last}
use Rattle.tf_history.proofs.MeaningLaw.{meanings_agree}
use Rattle.tf_core.specs.declared.transform.Transform.{Transform}
use Rattle.tf_core.specs.Allowing.{failure, first_wide, keys_left, keys_next, read_by, wide_sum_at}
use Rattle.tf_core.specs.Summary.{IsSummary, bound_before}

-- ---- a key has its row, or a sum that is outside i64
row_or_sum : (k : Key) (aggs : List Agg) (docs : List Doc) → is_none (all_aggregated aggs docs) ≡ is_some (first_wide_agg k aggs docs)
row_or_sum k [] docs = refl
row_or_sum k (a ∷ aggs) docs = by a.kind (row_or_sum k aggs docs)
  where
    put : (v : Value) (o : Option (List Value)) (p : Option SumRange) → is_none o ≡ is_some p → is_none (option_map (λ (vs : List Value). v ∷ vs) o) ≡ is_some p
    put v None p e = e
    put v (Some vs) p e = e

    summed : (b : Bool) (n : ℤ) → is_none (all_aggregated aggs docs) ≡ is_some (first_wide_agg k aggs docs)
        → is_none (option_and_then (λ v. option_map (λ vs. v ∷ vs) (all_aggregated aggs docs)) (if b then Some (value.Int n) else None))
        ≡ is_some (or_else (option_map (sum_range_at k a) (if b then None else Some n)) (first_wide_agg k aggs docs))
    summed true n later = put (value.Int n) (all_aggregated aggs docs) (first_wide_agg k aggs docs) later
    summed false n later = refl

    by : (kind : AggKind) → is_none (all_aggregated aggs docs) ≡ is_some (first_wide_agg k aggs docs)
        → is_none (option_and_then (λ v. option_map (λ vs. v ∷ vs) (all_aggregated aggs docs)) (aggregated kind (field_values a.field docs)))
        ≡ is_some (or_else (option_map (sum_range_at k a) (wide_sum kind (field_values a.field docs))) (first_wide_agg k aggs docs))
    by Sum later = summed (fits_i64 (total (field_values a.field docs))) (total (field_values a.field docs)) later
    by Min later = put (unwrap_or (least (field_values a.field docs)) value.Null) (all_aggregated aggs docs) (first_wide_agg k aggs docs) later
    by Max later = put (unwrap_or (greatest (field_values a.field docs)) value.Null) (all_aggregated aggs docs) (first_wide_agg k aggs docs) later
    by ValueCount later = put (value.Int (pos (length (field_values a.field docs)))) (all_aggregated aggs docs) (first_wide_agg k aggs docs) later

pub no_row : (c : Config) (k : Key) (docs : List Doc) → is_none (pivot_row c k docs) ≡ is_some (sum_range c k docs)
unfolding pivot_row sum_range
no_row c k docs = mapped (all_aggregated (aggs_of c.shape) (with_key c k docs)) ∙ row_or_sum k (aggs_of c.shape) (with_key c k docs)
  where
    mapped : (o : Option (List Value)) → is_none (option_map (row.Pivot k) o) ≡ is_none o
    mapped None = refl
    mapped (Some vs) = refl

pub pivoted : (sources : List ℕ) (c : Config) (docs : List Doc) (k : Key) → is_pivot c.shape ≡ true → row_of sources c docs k ≡ pivot_row c k docs
unfolding row_of
pivoted sources c docs k pivot = rw pivot refl

-- ---- the first key with a sum
abbrev pub key_of : SumRange → Key
key_of found = found.key

module _ (t : Transform) (docs : List Doc) where
  sum_key : (k : Key) (found : SumRange) → wide_sum_at t docs k ≡ Some found → found.key ≡ k
  sum_key k found e = range_key t.config k (counted t.config t.bound (read_by t docs)) found e

  first_key : (keys : List Key) → find (λ k. is_some (wide_sum_at t docs k)) keys ≡ option_map key_of (first_wide t docs keys)
  first_key [] = refl
  first_key (k ∷ keys) = by (wide_sum_at t docs k) refl (first_key keys)
    where
      by : (o : Option SumRange) → wide_sum_at t docs k ≡ o → find (λ k. is_some (wide_sum_at t docs k)) keys ≡ option_map key_of (first_wide t docs keys)
          → (if is_some o then Some k else find (λ k. is_some (wide_sum_at t docs k)) keys) ≡ option_map key_of (or_else o (first_wide t docs keys))
      by None is rest = rest
      by (Some found) is rest = ap Some (sym (sum_key k found is))

  pub first_is : (keys : List Key) (found : SumRange) → first_wide t docs keys ≡ Some found → wide_sum_at t docs found.key ≡ Some found
  first_is [] found e = absurd (let z : ◌≡◌ {A = Option SumRange} None (Some found) = e in cc)
  first_is (k ∷ keys) found e = by (wide_sum_at t docs k) refl (first_is keys found) e
    where
      by : (o : Option SumRange) → wide_sum_at t docs k ≡ o → (first_wide t docs keys ≡ Some found → wide_sum_at t docs found.key ≡ Some found) → or_else o (first_wide t docs keys) ≡ Some found → wide_sum_at t docs found.key ≡ Some found
      by None is rest f = rest f
      by (Some other) is rest f =
          let same : wide_sum_at t docs k ≡ Some found = is ∙ f in
          ap (wide_sum_at t docs) (sum_key k found same) ∙ same

-- ---- the newest checkpoint
record Newest (l : Life) : Type 0 where
  is : Checkpoint
  before : List Checkpoint
  both : l.checkpoints ≡ is ∷ before

newest_by : (l : Life) (cs : List Checkpoint) → l.checkpoints ≡ cs → 0 < length cs → Newest l
newest_by l [] e some = absurd (omega (arith, some))
newest_by l (b ∷ before) e some = record { is = b; before = before; both = e }

module _ (docs : List Doc) (t : Transform) (l : Life) (sum : IsSummary docs t l) (pivot : is_pivot t.config.shape ≡ true) (some : 0 < length l.checkpoints) where
  newest : Newest l
  newest = newest_by l l.checkpoints refl some

  reads : newest.is.read ≡ read_by t docs
  reads = ap read_last (sym newest.both) ∙ (sum.read ∙ ap (λ m. from_sources m (take t.read docs)) sum.meaning_is)

  high_is : newest.is.bound ≡ t.bound
  high_is = ap last_bound (sym newest.both) ∙ sym sum.bound

  low_is : last_bound newest.before ≡ t.low
  low_is = ap bound_before (sym newest.both) ∙ sym sum.low

  pub left_is : to_do l ≡ keys_left t docs
  left_is =
      (meanings_agree t.sources t.config).to_do_is l newest.is newest.before sum.meaning_is newest.both
      ∙ (λ i. changed_above t.config (low_is i) (high_is i) (sym sum.position i) (reads i))

  pub next_is : next_page l ≡ keys_next t docs
  next_is = λ i. take (ap (λ m. m.page_size) sum.meaning_is i) (left_is i)

  -- the documents that count at it
  abbrev pub counted_now : List Doc
  counted_now = counted t.config t.bound (read_by t docs)

  counted_is : counted_last l.meaning l.checkpoints ≡ counted_now
  counted_is =
      ap (λ cs. counted_last l.meaning cs) newest.both
      ∙ ((λ i. grouping.counted (sum.meaning_is i) (high_is i) (reads i))
      ∙ (meanings_agree t.sources t.config).counted_is t.bound (read_by t docs))

  pub rows_now : (k : Key) → row_now l k ≡ pivot_row t.config k counted_now
  rows_now k =
      (λ i. grouping.row_of (sum.meaning_is i) (counted_is i) k)
      ∙ ((meanings_agree t.sources t.config).row_is counted_now k ∙ pivoted t.sources t.config counted_now k pivot)

  pub sums_now : (k : Key) → sum_now l k ≡ wide_sum_at t docs k
  sums_now k = (λ i. grouping.sum_range (sum.meaning_is i) (counted_is i) k) ∙ (meanings_agree t.sources t.config).sum_range_is counted_now k

  same_find : (f g : Key → Bool) → ((k : Key) → f k ≡ g k) → (keys : List Key) → find f keys ≡ find g keys
  same_find f g same [] = refl
  same_find f g same (k ∷ keys) = λ i. if same k i then Some k else same_find f g same keys i

  -- the key for which it fails
  pub failing_is : failing l ≡ option_map key_of (failure t docs)
  failing_is =
      ap (find (λ k. is_none (row_now l k))) next_is
      ∙ (same_find (λ k. is_none (row_now l k)) (λ k. is_some (wide_sum_at t docs k)) (λ k. ap is_none (rows_now k) ∙ no_row t.config k counted_now) (keys_next t docs)
      ∙ first_key t docs (keys_next t docs))

  -- the sum that it tells
  pub failure_is : (found : SumRange) → failure t docs ≡ Some found → sum_now l found.key ≡ Some found
  failure_is found e = sums_now found.key ∙ first_is t docs (keys_next t docs) found e
