-- The parts of keys, by the values that documents have.
use Rattle.std.proofs.Common.{◌≡◌, ℕ, suc, ◌≤◌, ◌<◌, ◌^◌, ◌%◌, Bool, true, false, cond, List, [], ◌∷◌, ◌++◌, length, filter, Option, Some, None, refl, ap, subst, arith}
use Rattle.std.specs.Prelude.{ℤ, pos, negsuc, ◌-ℤ◌, ◌≤ℤ◌, int_lt, if◌then◌else◌, option_map, option_and_then}
use Rattle.std.specs.Int.{int_max, int_rem_euclid}
use Rattle.std.specs.List.{AllByRecursion, flat_map, fold}
use Rattle.std.specs.BTreeSet.{insert_key}
use Rattle.std.specs.Ordering.{match_ordering}
use Rattle.std.specs.declared.cmp.Ordering.TheVariants.{Less, Equal, Greater}
use Rattle.std.proofs.lemmas.Int.{ints}
use Rattle.std.proofs.lemmas.List.Elements.{recursion_from_All}
use Rattle.std.proofs.lemmas.Nat.{mod_below}
use Rattle.std.proofs.lemmas.Option.{same_Some}
use Rattle.tf_model.specs.declared.config.Config.{Config}
use Rattle.tf_model.specs.declared.config.Group.{Group}
use Rattle.tf_model.specs.declared.config.GroupKind.{GroupKind}
use Rattle.tf_model.specs.declared.config.GroupKind.TheVariants.{Terms, Histogram, DateHistogram}
use Rattle.tf_model.specs.declared.config.Shape.{Shape}
use Rattle.tf_model.specs.declared.config.Shape.TheVariants.{Pivot, Latest}
use Rattle.tf_model.specs.declared.doc.Doc.{Doc}
use Rattle.tf_model.specs.declared.value.Key.{Key}
use Rattle.tf_model.specs.declared.value.Value.{Value}
use Rattle.tf_model.specs.declared.value.Value.TheVariants as value
use Rattle.tf_model.specs.Changed.{changed, changed_above, is_after}
use Rattle.tf_model.specs.Conditions.{Fits, FitsGroup, IsBetween, IsDate, IsGroupInRange, IsInRange}
use Rattle.tf_model.specs.Counted.{window, is_in_window}
use Rattle.tf_model.specs.Keys.{all_keys, floor_to, grouped, groups_of, key_by, key_from, key_of, keys_of, least_date, listed, missing_part, part_from, part_of, parts_of}
use Rattle.tf_model.specs.Order.{key_cmp}
use Rattle.tf_model.specs.Scratch.{is_pivot}
use Rattle.tf_model.specs.Values.{value_of}
use Rattle.tf_core.specs.Texts.{HasValues, IsKeyOf, IsPartOf, IsValueOf}

-- ---- a part
abbrev IsRem : ℕ → ℤ → Type 0
IsRem interval r = (pos 0 ≤ℤ r) × (r ≤ℤ pos interval)

mod_within : (a n : ℕ) → 1 ≤ n → a % n ≤ n
mod_within a n some = let below : a % n < n = mod_below a n (omega (arith, some)) in omega (arith, below)

rem_within : (n : ℤ) (interval : ℕ) → 1 ≤ interval → IsRem interval (int_rem_euclid n (pos interval))
rem_within (pos a) interval some = let within = mod_within a interval some in (omega (arith, ints), omega (arith, ints, within))
rem_within (negsuc a) interval some = (omega (arith, ints), omega (arith, ints))

floor_number : (n : ℤ) (interval : ℕ) → 1 ≤ interval → interval < 2 ^ 63 → IsBetween (negsuc 9223372036854775807) (pos 9223372036854775807) n
    → IsBetween (negsuc 18446744073709551615) (pos 9223372036854775807) (floor_to n (pos interval))
unfolding floor_to
floor_number n interval some few h = let r = rem_within n interval some in (low n (int_rem_euclid n (pos interval)) interval few r.1 h.0, high n (int_rem_euclid n (pos interval)) r.0 h.1)
  where
    low : (n r : ℤ) (interval : ℕ) → interval < 2 ^ 63 → r ≤ℤ pos interval → negsuc 9223372036854775807 ≤ℤ n → negsuc 18446744073709551615 ≤ℤ (n -ℤ r)
    low n r interval few a b = omega (arith, ints, few, a, b)

    high : (n r : ℤ) → pos 0 ≤ℤ r → n ≤ℤ pos 9223372036854775807 → (n -ℤ r) ≤ℤ pos 9223372036854775807
    high n r a b = omega (arith, ints, a, b)

rem_least : (n step : ℤ) → pos 0 ≤ℤ int_rem_euclid n step
rem_least (pos a) step = omega (arith, ints)
rem_least (negsuc a) step = omega (arith, ints)

later_date : (ms floor : ℤ) → floor ≤ℤ ms → IsDate ms → IsDate (int_max least_date floor)
later_date ms floor below h = by (int_lt floor least_date) refl
  where
    by : (b : Bool) → int_lt floor least_date ≡ b → IsDate (cond b least_date floor)
    by true e = (omega (arith, ints), omega (arith, ints))
    by false e = (at_least floor e, at_most floor ms below h.1)
      where
        at_least : (n : ℤ) → int_lt n least_date ≡ false → least_date ≤ℤ n
        at_least n e = grind (arith, ints)

        at_most : (n m : ℤ) → n ≤ℤ m → m ≤ℤ pos 253402300799999 → n ≤ℤ pos 253402300799999
        at_most n m a b = omega (arith, ints, a, b)

floor_date : (ms step : ℤ) → IsDate ms → IsDate (int_max least_date (floor_to ms step))
unfolding floor_to
floor_date ms step h = later_date ms (ms -ℤ int_rem_euclid ms step) (below ms (int_rem_euclid ms step) (rem_least ms step)) h
  where
    below : (n r : ℤ) → pos 0 ≤ℤ r → (n -ℤ r) ≤ℤ n
    below n r a = omega (arith, ints, a)

module _ (P : List ℕ → Type 0) where
  term_part : (v : Value) → IsValueOf P v → IsPartOf P (grouped Terms v)
  term_part value.Null h = tt
  term_part (value.Bool b) h = tt
  term_part (value.Int n) h = (wider n h.0, h.1)
    where
      wider : (n : ℤ) → negsuc 9223372036854775807 ≤ℤ n → negsuc 18446744073709551615 ≤ℤ n
      wider n a = omega (arith, ints, a)
  term_part (value.Date ms) h = h
  term_part (value.Str u) h = h

  grouped_part : (kind : GroupKind) (v : Value) → IsGroupInRange kind → FitsGroup kind (Some v) → IsValueOf P v → IsPartOf P (grouped kind v)
  grouped_part Terms v range fit h = term_part v h
  grouped_part (Histogram interval) (value.Int n) range fit h = floor_number n interval range.0 range.1 h
  grouped_part (Histogram interval) value.Null range fit h = absurd fit
  grouped_part (Histogram interval) (value.Bool b) range fit h = absurd fit
  grouped_part (Histogram interval) (value.Date ms) range fit h = absurd fit
  grouped_part (Histogram interval) (value.Str u) range fit h = absurd fit
  grouped_part (DateHistogram step) (value.Date ms) range fit h = floor_date ms step h
  grouped_part (DateHistogram step) value.Null range fit h = absurd fit
  grouped_part (DateHistogram step) (value.Bool b) range fit h = absurd fit
  grouped_part (DateHistogram step) (value.Int n) range fit h = absurd fit
  grouped_part (DateHistogram step) (value.Str u) range fit h = absurd fit

  missing_is : (bucket : Bool) (v : Value) → missing_part bucket ≡ Some v → IsPartOf P v
  missing_is true v e = subst (IsPartOf P) (same_Some value.Null v e) tt
  missing_is false v e = absurd (let z : ◌≡◌ {A = Option Value} None (Some v) = e in cc)

  part_is : (g : Group) (o : Option Value) (v : Value) → IsGroupInRange g.kind → FitsGroup g.kind o → ((w : Value) → o ≡ Some w → IsValueOf P w) → part_from g o ≡ Some v → IsPartOf P v
  part_is g None v range fit known e = missing_is g.missing_bucket v e
  part_is g (Some w) v range fit known e = subst (IsPartOf P) (same_Some (grouped g.kind w) v e) (grouped_part g.kind w range fit (known w refl))

  -- ---- the parts of a document
  abbrev ArePartsOf : ℕ → List Value → Type 0
  ArePartsOf count parts = (length parts ≡ count) × AllByRecursion (IsPartOf P) parts

  parts_are : (d : Doc) (groups : List Group) (parts : List Value) → HasValues P d → AllByRecursion (λ (g : Group). IsGroupInRange g.kind) groups
      → AllByRecursion (λ (g : Group). FitsGroup g.kind (value_of d g.field)) groups → parts_of d groups ≡ Some parts → ArePartsOf (length groups) parts
  parts_are d [] parts known range fit e = subst (ArePartsOf 0) (same_Some [] parts e) (refl, tt)
  parts_are d (g ∷ groups) parts known range fit e = by (part_of d g) refl (λ vs there. parts_are d groups vs known range.1 fit.1 there) e
    where
      rest : (v : Value) (o : Option (List Value)) → IsPartOf P v → parts_of d groups ≡ o → ((vs : List Value) → parts_of d groups ≡ Some vs → ArePartsOf (length groups) vs) → option_map (λ (vs : List Value). v ∷ vs) o ≡ Some parts → ArePartsOf (suc (length groups)) parts
      rest v None is there again f = absurd (let z : ◌≡◌ {A = Option (List Value)} None (Some parts) = f in cc)
      rest v (Some vs) is there again f =
          let later = again vs there in
          subst (ArePartsOf (suc (length groups))) (same_Some (v ∷ vs) parts f) (ap suc later.0, (is, later.1))

      by : (o : Option Value) → part_of d g ≡ o → ((vs : List Value) → parts_of d groups ≡ Some vs → ArePartsOf (length groups) vs) → option_and_then (λ part. option_map (λ parts. part ∷ parts) (parts_of d groups)) o ≡ Some parts → ArePartsOf (suc (length groups)) parts
      by None is again f = absurd (let z : ◌≡◌ {A = Option (List Value)} None (Some parts) = f in cc)
      by (Some v) is again f = rest v (parts_of d groups) (part_is g (value_of d g.field) v range.0 fit.0 (λ w there. known g.field w there) is) refl again f

  -- a document that fits a configuration, with such values
  abbrev pub IsDocOf : Config → Doc → Type 0
  IsDocOf c d = HasValues P d × Fits c d

  abbrev pub IsKeyBy : Config → Key → Type 0
  IsKeyBy c = IsKeyOf P (length (groups_of c.shape))

  key_is : (c : Config) (d : Doc) → is_pivot c.shape ≡ true → IsInRange c → IsDocOf c d → AllByRecursion (IsKeyBy c) (keys_of c d)
  unfolding keys_of key_of
  key_is c d pivot range is =
      by c.shape pivot (recursion_from_All (λ (g : Group). IsGroupInRange g.kind) (groups_of c.shape) range.groups)
      (recursion_from_All (λ (g : Group). FitsGroup g.kind (value_of d g.field)) (groups_of c.shape) is.1.groups)
    where
      one : (count : ℕ) (o : Option (List Value)) → ((parts : List Value) → o ≡ Some parts → ArePartsOf count parts) → AllByRecursion (IsKeyOf P count) (listed (option_map key_from o))
      one count None f = tt
      one count (Some parts) f = (f parts refl, tt)

      by : (s : Shape) → is_pivot s ≡ true → AllByRecursion (λ (g : Group). IsGroupInRange g.kind) (groups_of s)
          → AllByRecursion (λ (g : Group). FitsGroup g.kind (value_of d g.field)) (groups_of s) → AllByRecursion (IsKeyOf P (length (groups_of s))) (listed (key_by s d))
      by (Pivot groups aggs) e ranges fit = one (length groups) (parts_of d groups) (λ parts there. parts_are d groups parts is.0 ranges fit there)
      by (Latest unique_key sort) e ranges fit = absurd (let z : false ≡ true = e in cc)

-- ---- the keys of a page
-- a key that is put among others adds itself at most
all_add : (P : Key → Type 0) (ks : List Key) (k : Key) → AllByRecursion P ks → P k → AllByRecursion P (insert_key key_cmp ks k)
all_add P [] k all p = (p, tt)
all_add P (j ∷ ks) k all p = elim (key_cmp k j) as (λ r. AllByRecursion P (match_ordering r (k ∷ j ∷ ks) (j ∷ ks) (j ∷ insert_key key_cmp ks k))) [
  | Less ↦ (p, all)
  | Equal ↦ all
  | Greater ↦ (all.0, all_add P ks k all.1 p)
]

all_folded : (P : Key → Type 0) (ks before : List Key) → AllByRecursion P ks → AllByRecursion P before → AllByRecursion P (fold (insert_key key_cmp) before ks)
all_folded P [] before all known = known
all_folded P (k ∷ ks) before all known = all_folded P ks (insert_key key_cmp before k) all.1 (all_add P before k known all.0)

all_joined : {X : Type 0} (P : X → Type 0) (xs ys : List X) → AllByRecursion P xs → AllByRecursion P ys → AllByRecursion P (xs ++ ys)
all_joined P [] ys a b = b
all_joined P (x ∷ xs) ys a b = (a.0, all_joined P xs ys a.1 b)

pub all_kept : {X : Type 0} (P : X → Type 0) (p : X → Bool) (xs : List X) → AllByRecursion P xs → AllByRecursion P (filter p xs)
all_kept P p [] all = tt
all_kept P p (x ∷ xs) all = elim (p x) as (λ b. AllByRecursion P (if b then x ∷ filter p xs else filter p xs)) [
  | true ↦ (all.0, all_kept P p xs all.1)
  | false ↦ all_kept P p xs all.1
]

module _ (P : List ℕ → Type 0) (c : Config) (pivot : is_pivot c.shape ≡ true) (range : IsInRange c) where
  doc_keys : (docs : List Doc) → AllByRecursion (IsDocOf P c) docs → AllByRecursion (IsKeyBy P c) (flat_map (keys_of c) docs)
  doc_keys [] all = tt
  doc_keys (d ∷ docs) all = all_joined (IsKeyBy P c) (keys_of c d) (flat_map (keys_of c) docs) (key_is P c d pivot range all.0) (doc_keys docs all.1)

  -- the changed keys of a checkpoint
  pub changed_keys : (low bound : Option ℤ) (position : Option Key) (docs : List Doc) → AllByRecursion (IsDocOf P c) docs → AllByRecursion (IsKeyBy P c) (changed_above c low bound position docs)
  unfolding changed_above changed all_keys window
  changed_keys low bound position docs all =
      all_kept (IsKeyBy P c) (is_after position) (changed c low bound docs)
      (all_folded (IsKeyBy P c) (flat_map (keys_of c) (window c low bound docs)) []
      (doc_keys (window c low bound docs) (all_kept (IsDocOf P c) (λ d. is_in_window c low bound d) docs all)) tt)
