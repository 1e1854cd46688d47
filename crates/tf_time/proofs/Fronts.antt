-- The digits that a text begins with.
use Rattle.std.proofs.Common.{ℕ, zero, suc, ◌-◌, ◌*◌, ◌<◌, ◌≤◌, Bool, true, false, List, [], ◌∷◌, length, get_or, take, ◌+◌, ◌^◌, ◌≡◌, refl, ap, add-one, arith}
use Rattle.std.proofs.Math.Nat.{pow-suc}
use Rattle.std.specs.Char.{is_ascii_digit}
use Rattle.std.proofs.lemmas.Bool.Decides.{nat_tests}
use Rattle.tf_time.specs.Reader.{leading_digits}

pub leading_digits_le : (s : List ℕ) → leading_digits s ≤ length s
leading_digits_le [] = omega arith
leading_digits_le (c ∷ s) = let h = leading_digits_le s in grind arith

pub digit_in_front : (s : List ℕ) (k : ℕ) → k < leading_digits s → (48 ≤ get_or s k 0) × (get_or s k 0 < 58)
digit_in_front [] k h = absurd (omega arith)
digit_in_front (c ∷ s) zero h = grind (arith, nat_tests)
digit_in_front (c ∷ s) (suc k) h = digit_in_front s k (grind arith)

front_by : (b : Bool) (c : ℕ) (s : List ℕ) → is_ascii_digit c ≡ b → leading_digits (take (leading_digits s) s) ≡ length (take (leading_digits s) s)
    → leading_digits (take (leading_digits (c ∷ s)) (c ∷ s)) ≡ length (take (leading_digits (c ∷ s)) (c ∷ s))
front_by true c s e later = rw (e, add-one) (rw e (omega arith))
front_by false c s e later = rw e

pub leading_digits_front : (s : List ℕ) → leading_digits (take (leading_digits s) s) ≡ length (take (leading_digits s) s)
leading_digits_front [] = refl
leading_digits_front (c ∷ s) = front_by _ c s refl (leading_digits_front s)

pub ten_to : (i k n : ℕ) → i + k ≡ n → 10 ^ i ≤ 10 ^ n
ten_to i zero n e = let same : i ≡ n = omega arith in omega (arith, ap (λ x. 10 ^ x) same)
ten_to i (suc k) n e =
    let next : n ≡ suc (i + k) = omega arith in
    omega (arith, ten_to i k (i + k) refl, pow-suc 10 (i + k), ap (λ x. 10 ^ x) next)

-- up to fifteen digits
pub ten_to_few : (i : ℕ) → i ≤ 15 → 10 ^ i ≤ 10 ^ 15
ten_to_few i h = ten_to i (15 - i) 15 (omega arith)

pub one_more : (v d i : ℕ) → v < 10 ^ i → d < 10 → 10 * v + d < 10 ^ (i + 1)
one_more v d i h k = rw add-one (omega (arith, pow-suc 10 i))
