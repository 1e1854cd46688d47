-- The rows of a page are of the configuration's shape, and a sum that is told has its bounds.
use Rattle.std.proofs.Common.{◌≡◌, ℕ, suc, ◌*◌, ◌≤◌, ◌<◌, ◌^◌, Bool, true, false, List, [], ◌∷◌, length, map, filter, Option, Some, None, refl, sym, ap, subst, arith}
use Rattle.std.specs.Prelude.{ℤ, pos, negsuc, ◌-ℤ◌, ◌≤ℤ◌, int_le, if◌then◌else◌, unwrap_or, option_map, option_and_then}
use Rattle.std.specs.List.{AllByRecursion, cons_option}
use Rattle.std.specs.Ordering.{min_by_ordering, max_by_ordering}
use Rattle.std.specs.declared.cmp.Ordering.{Ordering}
use Rattle.std.specs.declared.cmp.Ordering.TheVariants.{Less, Equal, Greater}
use Rattle.std.proofs.lemmas.Int.{ints}
use Rattle.std.proofs.lemmas.List.Elements.{recursion_from_All}
use Rattle.std.proofs.lemmas.Option.{same_Some}
use Rattle.tf_model.specs.declared.config.Agg.{Agg}
use Rattle.tf_model.specs.declared.config.AggKind.{AggKind}
use Rattle.tf_model.specs.declared.config.AggKind.TheVariants.{Sum, Min, Max, ValueCount}
use Rattle.tf_model.specs.declared.config.Config.{Config}
use Rattle.tf_model.specs.declared.config.Shape.{Shape}
use Rattle.tf_model.specs.declared.config.Shape.TheVariants.{Pivot, Latest}
use Rattle.tf_model.specs.declared.doc.Doc.{Doc}
use Rattle.tf_model.specs.declared.entry.Row.{Row}
use Rattle.tf_model.specs.declared.entry.Row.TheVariants as row
use Rattle.tf_model.specs.declared.entry.SumRange.{SumRange}
use Rattle.tf_model.specs.declared.value.Key.{Key}
use Rattle.tf_model.specs.declared.value.Value.{Value}
use Rattle.tf_model.specs.declared.value.Value.TheVariants as value
use Rattle.tf_model.specs.Conditions.{FitsAgg, IsBetween}
use Rattle.tf_model.specs.Keys.{groups_of, has_key}
use Rattle.tf_model.specs.Order.{value_cmp}
use Rattle.tf_model.specs.Rows.{aggregated, aggs_of, all_aggregated, field_values, first_wide, fits_i64, greatest, least, number_in, of_both, or_else, pivot_row, sum_range, sum_range_at, total, wide_sum, with_key}
use Rattle.tf_model.specs.Scratch.{is_pivot}
use Rattle.tf_model.specs.Values.{value_of}
use Rattle.tf_history.specs.LegalEntries.{IsPart, IsRowOf, IsRowValue}
use Rattle.tf_core.specs.Texts.{IsPartOf, IsRowFor, IsRowWith, IsShort, IsShortConfig, IsShortRow, IsValueOf}
use Rattle.tf_core.proofs.KeyParts.{IsDocOf, IsKeyBy, all_kept}
use Rattle.tf_core.proofs.Sums.{HasNumber, few_filter, total_within}
use Rattle.tf_core.proofs.Truths.{both, int_at_most}

-- ---- the least and the greatest of values
module _ (Q : Value → Type 0) where
  lesser_is : (o : Ordering) (v w : Value) → Q v → Q w → Q (min_by_ordering o v w)
  lesser_is Less v w a b = a
  lesser_is Equal v w a b = a
  lesser_is Greater v w a b = b

  greater_is : (o : Ordering) (v w : Value) → Q v → Q w → Q (max_by_ordering o v w)
  greater_is Less v w a b = b
  greater_is Equal v w a b = b
  greater_is Greater v w a b = a

  of_both_is : (f : Value → Value → Value) → ((v w : Value) → Q v → Q w → Q (f v w)) → (v : Value) (o : Option Value) → Q v → ((w : Value) → o ≡ Some w → Q w)
      → (w : Value) → of_both f (Some v) o ≡ Some w → Q w
  of_both_is f keeps v None here rest w e = subst Q (same_Some v w e) here
  of_both_is f keeps v (Some x) here rest w e = subst Q (same_Some (f v x) w e) (keeps v x here (rest x refl))

  least_is : (vs : List Value) → AllByRecursion Q vs → (w : Value) → least vs ≡ Some w → Q w
  least_is [] all w e = absurd (let z : ◌≡◌ {A = Option Value} None (Some w) = e in cc)
  least_is (v ∷ vs) all w e = of_both_is (λ a b. min_by_ordering (value_cmp a b) a b) (λ a b. lesser_is (value_cmp a b) a b) v (least vs) all.0 (least_is vs all.1) w e

  greatest_is : (vs : List Value) → AllByRecursion Q vs → (w : Value) → greatest vs ≡ Some w → Q w
  greatest_is [] all w e = absurd (let z : ◌≡◌ {A = Option Value} None (Some w) = e in cc)
  greatest_is (v ∷ vs) all w e = of_both_is (λ a b. max_by_ordering (value_cmp a b) a b) (λ a b. greater_is (value_cmp a b) a b) v (greatest vs) all.0 (greatest_is vs all.1) w e

  or_nothing : (o : Option Value) → Q value.Null → ((w : Value) → o ≡ Some w → Q w) → Q (unwrap_or o value.Null)
  or_nothing None none some = none
  or_nothing (Some w) none some = some w refl

one_more : (n : ℤ) → n ≤ℤ pos 9223372036854775807 → n ≤ℤ pos 9223372036854775808
one_more n a = omega (arith, ints, a)

-- ---- the value of an aggregation
abbrev IsLong : ℤ → Type 0
IsLong n = IsBetween (negsuc 9223372036854775807) (pos 9223372036854775807) n

in_bounds : (n : ℤ) → fits_i64 n ≡ true → IsLong n
in_bounds n e = let parts = both (int_le (negsuc 9223372036854775807) n) (int_le n (pos 9223372036854775807)) e in (int_at_most _ _ parts.0, int_at_most _ _ parts.1)

summed : (n : ℤ) (b : Bool) (v : Value) → fits_i64 n ≡ b → (if b then Some (value.Int n) else None) ≡ Some v → IsRowValue v
summed n true v fit e = subst IsRowValue (same_Some (value.Int n) v e) (in_bounds n fit)
summed n false v fit e = absurd (let z : ◌≡◌ {A = Option Value} None (Some v) = e in cc)

module _ (P : List ℕ → Type 0) (c : Config) where
  shown : (v : Value) → IsValueOf P v → FitsAgg Min (Some v) → IsRowValue v
  shown value.Null h fit = tt
  shown (value.Bool b) h fit = tt
  shown (value.Int n) h fit = h
  shown (value.Date ms) h fit = h
  shown (value.Str u) h fit = absurd fit

  -- the documents have these values, and fit an aggregation
  abbrev Fit : Agg → List Doc → Type 0
  Fit a docs = AllByRecursion (λ d. FitsAgg a.kind (value_of d a.field)) docs

  abbrev Known : List Doc → Type 0
  Known docs = AllByRecursion (IsDocOf P c) docs

  values_shown : (a : Agg) (docs : List Doc) → ((o : Option Value) → FitsAgg a.kind o → FitsAgg Min o) → Known docs → Fit a docs → AllByRecursion IsRowValue (field_values a.field docs)
  values_shown a [] no_text known fit = tt
  values_shown a (d ∷ docs) no_text known fit = by (value_of d a.field) refl (no_text (value_of d a.field) fit.0) (values_shown a docs no_text known.1 fit.1)
    where
      by : (o : Option Value) → value_of d a.field ≡ o → FitsAgg Min o → AllByRecursion IsRowValue (field_values a.field docs) → AllByRecursion IsRowValue (cons_option o (field_values a.field docs))
      by None is here rest = rest
      by (Some v) is here rest = (shown v (known.0.0 a.field v is) here, rest)

  few_values : (field : List ℕ) (docs : List Doc) → length (field_values field docs) ≤ length docs
  few_values field [] = omega arith
  few_values field (d ∷ docs) = by (value_of d field) (few_values field docs)
    where
      by : (o : Option Value) → length (field_values field docs) ≤ length docs → length (cons_option o (field_values field docs)) ≤ suc (length docs)
      by None rest = omega (arith, rest)
      by (Some v) rest = omega (arith, rest)

  value_is : (a : Agg) (docs : List Doc) (v : Value) (kind : AggKind) → a.kind ≡ kind → Known docs → Fit a docs → length docs < 2 ^ 63 → aggregated kind (field_values a.field docs) ≡ Some v → IsRowValue v
  value_is a docs v Sum is known fit few e = summed (total (field_values a.field docs)) (fits_i64 (total (field_values a.field docs))) v refl e
  value_is a docs v Min is known fit few e =
      let all = values_shown a docs (λ o h. subst (λ k. FitsAgg k o) is h) known fit in
      subst IsRowValue (same_Some (unwrap_or (least (field_values a.field docs)) value.Null) v e) (or_nothing IsRowValue (least (field_values a.field docs)) tt (least_is IsRowValue (field_values a.field docs) all))
  value_is a docs v Max is known fit few e =
      let all = values_shown a docs (λ o h. as_min o (subst (λ k. FitsAgg k o) is h)) known fit in
      subst IsRowValue (same_Some (unwrap_or (greatest (field_values a.field docs)) value.Null) v e) (or_nothing IsRowValue (greatest (field_values a.field docs)) tt (greatest_is IsRowValue (field_values a.field docs) all))
    where
      as_min : (o : Option Value) → FitsAgg Max o → FitsAgg Min o
      as_min o h = h
  value_is a docs v ValueCount is known fit few e =
      subst IsRowValue (same_Some (value.Int (pos (length (field_values a.field docs)))) v e) (counted (length (field_values a.field docs)) (let less = few_values a.field docs in omega (arith, few, less)))
    where
      counted : (n : ℕ) → n < 2 ^ 63 → IsLong (pos n)
      counted n less = (omega (arith, ints, less), omega (arith, ints, less))

  -- ---- the values of a row
  abbrev AllFitAggs : List Agg → List Doc → Type 0
  AllFitAggs aggs docs = AllByRecursion (λ a. Fit a docs) aggs

  abbrev AreRowValues : ℕ → List Value → Type 0
  AreRowValues count values = (length values ≡ count) × AllByRecursion IsRowValue values

  values_are : (aggs : List Agg) (docs : List Doc) (values : List Value) → Known docs → AllFitAggs aggs docs → length docs < 2 ^ 63 → all_aggregated aggs docs ≡ Some values → AreRowValues (length aggs) values
  values_are [] docs values known fit few e = subst (AreRowValues 0) (same_Some [] values e) (refl, tt)
  values_are (a ∷ aggs) docs values known fit few e = by (aggregated a.kind (field_values a.field docs)) refl (λ vs there. values_are aggs docs vs known fit.1 few there) e
    where
      rest : (v : Value) (o : Option (List Value)) → IsRowValue v → all_aggregated aggs docs ≡ o → ((vs : List Value) → all_aggregated aggs docs ≡ Some vs → AreRowValues (length aggs) vs) → option_map (λ (vs : List Value). v ∷ vs) o ≡ Some values → AreRowValues (suc (length aggs)) values
      rest v None is there again f = absurd (let z : ◌≡◌ {A = Option (List Value)} None (Some values) = f in cc)
      rest v (Some vs) is there again f =
          let later = again vs there in
          subst (AreRowValues (suc (length aggs))) (same_Some (v ∷ vs) values f) (ap suc later.0, (is, later.1))

      by : (o : Option Value) → aggregated a.kind (field_values a.field docs) ≡ o → ((vs : List Value) → all_aggregated aggs docs ≡ Some vs → AreRowValues (length aggs) vs) → option_and_then (λ v. option_map (λ vs. v ∷ vs) (all_aggregated aggs docs)) o ≡ Some values
          → AreRowValues (suc (length aggs)) values
      by None is again f = absurd (let z : ◌≡◌ {A = Option (List Value)} None (Some values) = f in cc)
      by (Some v) is again f = rest v (all_aggregated aggs docs) (value_is a docs v a.kind refl known fit.0 few is) refl again f

  -- each document fits each aggregation
  aggs_fit : (aggs : List Agg) (docs : List Doc) → AllByRecursion (λ d. AllByRecursion (λ (a : Agg). FitsAgg a.kind (value_of d a.field)) aggs) docs → AllFitAggs aggs docs
  aggs_fit [] docs all = tt
  aggs_fit (a ∷ aggs) docs all = (firsts docs all, aggs_fit aggs docs (others docs all))
    where
      firsts : (docs : List Doc) → AllByRecursion (λ d. AllByRecursion (λ (a : Agg). FitsAgg a.kind (value_of d a.field)) (a ∷ aggs)) docs → Fit a docs
      firsts [] all = tt
      firsts (d ∷ docs) all = (all.0.0, firsts docs all.1)

      others : (docs : List Doc) → AllByRecursion (λ d. AllByRecursion (λ (a : Agg). FitsAgg a.kind (value_of d a.field)) (a ∷ aggs)) docs
          → AllByRecursion (λ d. AllByRecursion (λ (a : Agg). FitsAgg a.kind (value_of d a.field)) aggs) docs
      others [] all = tt
      others (d ∷ docs) all = (all.0.1, others docs all.1)

  fit_all : (docs : List Doc) → Known docs → AllFitAggs (aggs_of c.shape) docs
  fit_all docs known = aggs_fit (aggs_of c.shape) docs (each docs known)
    where
      each : (docs : List Doc) → Known docs → AllByRecursion (λ d. AllByRecursion (λ (a : Agg). FitsAgg a.kind (value_of d a.field)) (aggs_of c.shape)) docs
      each [] known = tt
      each (d ∷ docs) known = (recursion_from_All (λ (a : Agg). FitsAgg a.kind (value_of d a.field)) (aggs_of c.shape) known.0.1.aggs, each docs known.1)

  -- ---- rows
  row_is : (k : Key) (docs : List Doc) (r : Row) → Known docs → length docs < 2 ^ 63 → IsKeyBy P c k → pivot_row c k docs ≡ Some r → IsRowFor P c r
  unfolding pivot_row with_key
  row_is k docs r known few key e =
      by (filter (has_key c k) docs) (all_kept (IsDocOf P c) (has_key c k) docs known) (let less = few_filter (has_key c k) docs in omega (arith, less, few))
      (all_aggregated (aggs_of c.shape) (filter (has_key c k) docs)) refl e
    where
      by : (kept : List Doc) → Known kept → length kept < 2 ^ 63 → (o : Option (List Value)) → all_aggregated (aggs_of c.shape) kept ≡ o → option_map (row.Pivot k) o ≡ Some r → IsRowFor P c r
      by kept known_kept fewer None is f = absurd (let z : ◌≡◌ {A = Option Row} None (Some r) = f in cc)
      by kept known_kept fewer (Some values) is f =
          let values_fit = values_are (aggs_of c.shape) kept values known_kept (fit_all kept known_kept) fewer is in
          subst (IsRowFor P c) (same_Some (row.Pivot k values) r f) (key, values_fit.0, values_fit.1)

  pub rows_are : (keys : List Key) (docs : List Doc) (rows : List Row) → Known docs → length docs < 2 ^ 63 → AllByRecursion (IsKeyBy P c) keys → map Some rows ≡ map (λ k. pivot_row c k docs) keys
      → AllByRecursion (IsRowFor P c) rows
  rows_are [] docs [] known few all made = tt
  rows_are [] docs (r ∷ rows) known few all made = absurd (cc)
  rows_are (k ∷ keys) docs [] known few all made = absurd (cc)
  rows_are (k ∷ keys) docs (r ∷ rows) known few all made =
      let here : pivot_row c k docs ≡ Some r = cc in
      let rest : map Some rows ≡ map (λ k. pivot_row c k docs) keys = cc in
      (row_is k docs r known few all.0 here, rows_are keys docs rows known few all.1 rest)

  -- ---- a sum that is told
  number_within : (field : List ℕ) (docs : List Doc) → Known docs → AllByRecursion (HasNumber field) docs
  number_within field [] known = tt
  number_within field (d ∷ docs) known = ((λ v is. number v (known.0.0 field v is)), number_within field docs known.1)
    where
      number : (v : Value) → IsValueOf P v → IsBetween (negsuc 9223372036854775807) (pos 9223372036854775808) (number_in v)
      number value.Null h = (omega (arith, ints), omega (arith, ints))
      number (value.Bool b) h = (omega (arith, ints), omega (arith, ints))
      number (value.Int n) h = (h.0, one_more n h.1)
      number (value.Date ms) h = (omega (arith, ints), omega (arith, ints))
      number (value.Str u) h = (omega (arith, ints), omega (arith, ints))

  -- a number of 128 bits
  abbrev pub IsWide : ℤ → Type 0
  IsWide n = IsBetween (negsuc 170141183460469231731687303715884105727) (pos 170141183460469231731687303715884105727) n

  total_wide : (n : ℤ) (count : ℕ) → count < 2 ^ 63 → (pos 0 -ℤ pos (9223372036854775808 * count)) ≤ℤ n → n ≤ℤ pos (9223372036854775808 * count) → IsWide n
  total_wide n count few low high = (omega (arith, ints, few, low), omega (arith, ints, few, high))

  told_wide : (a : Agg) (docs : List Doc) (n : ℤ) (kind : AggKind) → Known docs → length docs < 2 ^ 63 → wide_sum kind (field_values a.field docs) ≡ Some n → IsWide n
  told_wide a docs n Sum known few e = by (fits_i64 (total (field_values a.field docs))) e
    where
      by : (b : Bool) → (if b then None else Some (total (field_values a.field docs))) ≡ Some n → IsWide n
      by true f = absurd (let z : ◌≡◌ {A = Option ℤ} None (Some n) = f in cc)
      by false f =
          let within = total_within a.field docs (number_within a.field docs known) in
          subst IsWide (same_Some (total (field_values a.field docs)) n f) (total_wide (total (field_values a.field docs)) (length docs) few within.0 within.1)
  told_wide a docs n Min known few e = absurd (let z : ◌≡◌ {A = Option ℤ} None (Some n) = e in cc)
  told_wide a docs n Max known few e = absurd (let z : ◌≡◌ {A = Option ℤ} None (Some n) = e in cc)
  told_wide a docs n ValueCount known few e = absurd (let z : ◌≡◌ {A = Option ℤ} None (Some n) = e in cc)

  -- the name is that of an aggregation
  abbrev IsTold : (List ℕ → Type 0) → SumRange → Type 0
  IsTold Q found = Q found.name × IsWide found.value

  first_told : (Q : List ℕ → Type 0) (k : Key) (aggs : List Agg) (docs : List Doc) (found : SumRange) → AllByRecursion (λ (a : Agg). Q a.name) aggs → Known docs → length docs < 2 ^ 63
      → first_wide k aggs docs ≡ Some found → IsTold Q found
  first_told Q k [] docs found names known few e = absurd (let z : ◌≡◌ {A = Option SumRange} None (Some found) = e in cc)
  first_told Q k (a ∷ aggs) docs found names known few e = by (wide_sum a.kind (field_values a.field docs)) refl (first_told Q k aggs docs found names.1 known few) e
    where
      by : (o : Option ℤ) → wide_sum a.kind (field_values a.field docs) ≡ o → (first_wide k aggs docs ≡ Some found → IsTold Q found) → or_else (option_map (sum_range_at k a) o) (first_wide k aggs docs) ≡ Some found → IsTold Q found
      by None is again f = again f
      by (Some n) is again f = subst (IsTold Q) (same_Some (sum_range_at k a n) found f) (names.0, told_wide a docs n a.kind known few is)

  pub sum_is_told : (Q : List ℕ → Type 0) (k : Key) (docs : List Doc) (found : SumRange) → AllByRecursion (λ (a : Agg). Q a.name) (aggs_of c.shape) → Known docs → length docs < 2 ^ 63
      → sum_range c k docs ≡ Some found → IsTold Q found
  unfolding sum_range with_key
  sum_is_told Q k docs found names known few e =
      first_told Q k (aggs_of c.shape) (filter (has_key c k) docs) found names (all_kept (IsDocOf P c) (has_key c k) docs known) (let less = few_filter (has_key c k) docs in omega (arith, less, few)) e

-- ---- legal rows, and short ones
part_of_key : (v : Value) → IsPartOf (λ u. Unit {0}) v → IsPart v
part_of_key value.Null h = tt
part_of_key (value.Bool b) h = tt
part_of_key (value.Int n) h = tt
part_of_key (value.Date ms) h = h
part_of_key (value.Str u) h = tt

all_parts : (vs : List Value) → AllByRecursion (IsPartOf (λ u. Unit {0})) vs → AllByRecursion IsPart vs
all_parts [] all = tt
all_parts (v ∷ vs) all = (part_of_key v all.0, all_parts vs all.1)

row_of_shape : (s : Shape) (docs : List Doc) (r : Row) → is_pivot s ≡ true → IsRowWith (λ u. Unit {0}) (length (groups_of s)) (length (aggs_of s)) r → IsRowOf s docs r
row_of_shape (Pivot groups aggs) docs (row.Pivot k values) e h = record { parts = h.0.0; part_dates = all_parts k.parts h.0.1; values_are = h.1; fits = h.2 }
row_of_shape (Pivot groups aggs) docs (row.Latest k index shard seq) e h = absurd h
row_of_shape (Latest unique_key sort) docs r e h = absurd (let z : false ≡ true = e in cc)

pub rows_of_shape : (s : Shape) (docs : List Doc) (rows : List Row) → is_pivot s ≡ true → AllByRecursion (IsRowWith (λ u. Unit {0}) (length (groups_of s)) (length (aggs_of s))) rows
    → AllByRecursion (IsRowOf s docs) rows
rows_of_shape s docs [] e all = tt
rows_of_shape s docs (r ∷ rows) e all = (row_of_shape s docs r e all.0, rows_of_shape s docs rows e all.1)

short_row : (c : Config) (r : Row) → IsShortConfig c → IsRowFor IsShort c r → IsShortRow r
short_row c (row.Pivot k values) short h = (subst (λ n. n < 2 ^ 32) (sym h.0.0) short.groups, h.0.1, subst (λ n. n < 2 ^ 32) (sym h.1) short.aggs, h.2)
short_row c (row.Latest k index shard seq) short h = absurd h

pub short_rows : (c : Config) (rows : List Row) → IsShortConfig c → AllByRecursion (IsRowFor IsShort c) rows → AllByRecursion IsShortRow rows
short_rows c [] short all = tt
short_rows c (r ∷ rows) short all = (short_row c r short all.0, short_rows c rows short all.1)
