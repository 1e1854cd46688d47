-- Sums of numbers in i64.
use Rattle.std.proofs.Common.{◌≡◌, ℕ, ℤ, suc, ◌*◌, ◌≤◌, Bool, true, false, List, [], ◌∷◌, length, filter, Option, Some, None, refl, arith}
use Rattle.std.specs.Prelude.{pos, negsuc, ◌+ℤ◌, ◌-ℤ◌, ◌≤ℤ◌, if◌then◌else◌}
use Rattle.std.specs.List.{AllByRecursion, cons_option}
use Rattle.std.proofs.lemmas.Int.{ints}
use Rattle.tf_model.specs.declared.doc.Doc.{Doc}
use Rattle.tf_model.specs.declared.value.Value.{Value}
use Rattle.tf_model.specs.Conditions.{IsBetween}
use Rattle.tf_model.specs.Rows.{total, field_values, number_in}
use Rattle.tf_model.specs.Values.{value_of}

-- a number is at least -2^63 and at most 2^63
abbrev pub IsWithin : ℤ → Type 0
IsWithin n = IsBetween (negsuc 9223372036854775807) (pos 9223372036854775808) n

-- so is what the value of a field counts for in a sum
abbrev pub HasNumber : List ℕ → Doc → Type 0
HasNumber field d = (v : Value) → value_of d field ≡ Some v → IsWithin (number_in v)

abbrev IsTotal : ℕ → ℤ → Type 0
IsTotal count n = ((pos 0 -ℤ pos (9223372036854775808 * count)) ≤ℤ n) × (n ≤ℤ pos (9223372036854775808 * count))

more : (a n : ℤ) (count : ℕ) → IsWithin a → IsTotal count n → IsTotal (suc count) (a +ℤ n)
more a n count here rest = (lower a n count here.0 rest.0, upper a n count here.1 rest.1)
  where
    lower : (a n : ℤ) (k : ℕ) → negsuc 9223372036854775807 ≤ℤ a → (pos 0 -ℤ pos (9223372036854775808 * k)) ≤ℤ n → (pos 0 -ℤ pos (9223372036854775808 * suc k)) ≤ℤ (a +ℤ n)
    lower a n k h r = omega (arith, ints, h, r)

    upper : (a n : ℤ) (k : ℕ) → a ≤ℤ pos 9223372036854775808 → n ≤ℤ pos (9223372036854775808 * k) → (a +ℤ n) ≤ℤ pos (9223372036854775808 * suc k)
    upper a n k h r = omega (arith, ints, h, r)

wider : (n : ℤ) (count : ℕ) → IsTotal count n → IsTotal (suc count) n
wider n count h = (lower n count h.0, upper n count h.1)
  where
    lower : (n : ℤ) (k : ℕ) → (pos 0 -ℤ pos (9223372036854775808 * k)) ≤ℤ n → (pos 0 -ℤ pos (9223372036854775808 * suc k)) ≤ℤ n
    lower n k h = omega (arith, ints, h)

    upper : (n : ℤ) (k : ℕ) → n ≤ℤ pos (9223372036854775808 * k) → n ≤ℤ pos (9223372036854775808 * suc k)
    upper n k h = omega (arith, ints, h)

-- the sum of a field of some documents, by how many they are
pub total_within : (field : List ℕ) (docs : List Doc) → AllByRecursion (HasNumber field) docs → IsTotal (length docs) (total (field_values field docs))
total_within field [] all = (omega (arith, ints), omega (arith, ints))
total_within field (d ∷ docs) all = by (value_of d field) (λ v is. all.0 v is) (total_within field docs all.1)
  where
    by : (o : Option Value) → ((v : Value) → o ≡ Some v → IsWithin (number_in v)) → IsTotal (length docs) (total (field_values field docs))
        → IsTotal (suc (length docs)) (total (cons_option o (field_values field docs)))
    by None here rest = wider (total (field_values field docs)) (length docs) rest
    by (Some v) here rest = more (number_in v) (total (field_values field docs)) (length docs) (here v refl) rest

pub few_filter : (p : Doc → Bool) (docs : List Doc) → length (filter p docs) ≤ length docs
few_filter p [] = omega arith
few_filter p (d ∷ docs) = elim (p d) as (λ b. length (if b then d ∷ filter p docs else filter p docs) ≤ length (d ∷ docs)) [
  | true ↦ let rest = few_filter p docs in omega arith
  | false ↦ let rest = few_filter p docs in omega arith
]
