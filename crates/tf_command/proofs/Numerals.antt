-- The text of a whole number is no longer than the numeral that it was read from.
use Rattle.std.proofs.Common.{◌≡◌, ℕ, zero, suc, ◌+◌, ◌-◌, ◌≤◌, ◌<◌, ◌^◌, Bool, true, false, not, cond, ◌==◌, ◌&&◌, nat_lt, nat_le, List, [], ◌∷◌, ◌++◌, length, take, Some, None, decimal, refl, sym, ap, subst, ◌∙◌, arith, append-nil}
use Rattle.std.proofs.lemmas.Bool.{and_parts, true≢false}
use Rattle.std.proofs.lemmas.Fmt.{length-decimal-le}
use Rattle.std.proofs.lemmas.Int.Digits.{digits_value-lt}
use Rattle.std.proofs.lemmas.List.{length-take-le}
use Rattle.std.proofs.lemmas.List.Sums.{prefix_len-le-length}
use Rattle.std.specs.Char.{digit_value, is_ascii_digit}
use Rattle.std.specs.Fmt.{signed_decimal}
use Rattle.std.specs.List.{prefix_len}
use Rattle.std.specs.Str.Parse.{AllDigits, digits_value}
use Rattle.fast_float.specs.Text.{scan, digits_of, with_sign}
use Rattle.serde_json.specs.Data.{Num, unsigned, negative}
use Rattle.serde_json.specs.Read.{number_of, number_from, float_of, is_integer}
use Rattle.serde_json.specs.Written.{number_text}
use Rattle.tf_command.proofs.Options.{by_either, tested}

digit_is : (c : ℕ) → is_ascii_digit c ≡ true → digit_value c < 10
digit_is c h = grind arith

one_more : (b : Bool) (x n : ℕ) (xs : List ℕ) → is_ascii_digit x ≡ b → AllDigits 10 (take n xs) → AllDigits 10 (take (cond b (1 + n) 0) (x ∷ xs))
one_more true x n xs h all =
    let next : suc n ≡ 1 + n = omega arith in
    subst (λ k. AllDigits 10 (take k (x ∷ xs))) next (digit_is x h, all)
one_more false x n xs h all = tt

front_digits : (s : List ℕ) → AllDigits 10 (take (prefix_len is_ascii_digit s) s)
front_digits [] = tt
front_digits (x ∷ xs) = one_more (is_ascii_digit x) x (prefix_len is_ascii_digit xs) xs refl (front_digits xs)

whole_is : (s : List ℕ) → (scan s).whole ≡ take (prefix_len is_ascii_digit s) s
unfolding scan
whole_is s =
    let n = prefix_len is_ascii_digit s in
    let same : (0 + n) - 0 ≡ n = omega arith in ap (λ k. take k s) same

empty_by : (b : Bool) (x : List ℕ) → b ≡ false → cond b x [] ≡ []
empty_by true x e = absurd (true≢false e)
empty_by false x e = refl

no_fraction : (s : List ℕ) → (scan s).point ≡ false → (scan s).fraction ≡ []
unfolding scan
no_fraction s e = empty_by (scan s).point _ e

not_true : (b : Bool) → not b ≡ true → b ≡ false
not_true true h = sym h
not_true false h = refl

above_zero : (n : ℕ) → nat_lt 0 n ≡ true → 0 < n
above_zero n h = grind arith

integer_room : (s : List ℕ) → is_integer (scan s) ≡ true → digits_of (scan s) < 2 ^ 64 → length (decimal (digits_of (scan s))) ≤ length s
integer_room s h small =
    let p = scan s in
    let parts = and_parts (nat_lt 0 (length p.whole) && not p.point) (length p.exponent == 0) h in
    let first = and_parts (nat_lt 0 (length p.whole)) (not p.point) parts.0 in
    let n = prefix_len is_ascii_digit s in
    let none = no_fraction s (not_true p.point first.1) in
    let digits : p.whole ++ p.fraction ≡ take n s = ap (λ f. p.whole ++ f) none ∙ append-nil p.whole ∙ whole_is s in
    let value : digits_of p ≡ digits_value 10 (take n s) = ap (digits_value 10) digits in
    let below : digits_of p < 10 ^ length (take n s) = subst (λ v. v < 10 ^ length (take n s)) (sym value) (digits_value-lt 10 (take n s) (front_digits s)) in
    let some : 0 < length (take n s) = subst (λ w. 0 < length w) (whole_is s) (above_zero (length p.whole) first.0) in
    omega (arith, length-decimal-le (length (take n s)) (digits_of p) some below small, length-take-le n s, prefix_len-le-length is_ascii_digit s)

float_room : (b : Bool) (n x : Num) → length (number_text x) ≡ 0 → cond b (Some x) None ≡ Some n → length (number_text n) ≤ 0
float_room b n x none e =
    let p = tested b (Some x) n e in
    let same : x ≡ n = cc in
    omega (arith, none, ap (λ y. length (number_text y)) same)

below_of : (n m : ℕ) → nat_lt n m ≡ true → n < m
below_of n m h = grind arith

natural_room : (s : List ℕ) (n : Num) → number_from false (scan s) ≡ Some n → length (number_text n) ≤ length s
natural_room s n e =
    let p = scan s in
    let whole = is_integer p && nat_lt (digits_of p) (2 ^ 64) in
    by_either whole
    (λ yes.
    let read : Some (unsigned (digits_of p)) ≡ Some n = sym (ap (λ b. cond b (Some (unsigned (digits_of p))) (float_of false p)) yes) ∙ e in
    let same : unsigned (digits_of p) ≡ n = cc in
    let parts = and_parts (is_integer p) (nat_lt (digits_of p) (2 ^ 64)) yes in
    omega (arith, ap (λ y. length (number_text y)) same, integer_room s parts.0 (below_of (digits_of p) (2 ^ 64) parts.1)))
    (λ no.
    let read : float_of false p ≡ Some n = sym (ap (λ b. cond b (Some (unsigned (digits_of p))) (float_of false p)) no) ∙ e in
    omega (arith, float_room _ n _ refl read))

minus_text : (d : ℕ) → length (signed_decimal (with_sign true d)) ≤ 1 + length (decimal d)
minus_text zero = omega arith
minus_text (suc d) = omega arith

within_of : (d : ℕ) → nat_le d (2 ^ 63) ≡ true → d < 2 ^ 64
within_of d h = grind arith

negative_room : (s : List ℕ) (n : Num) → number_from true (scan s) ≡ Some n → length (number_text n) ≤ suc (length s)
negative_room s n e =
    let p = scan s in
    let d = digits_of p in
    let some = is_integer p && nat_lt 0 d in
    by_either (some && nat_le d (2 ^ 63))
    (λ yes.
    let read : Some (negative (with_sign true d)) ≡ Some n = sym (ap (λ b. cond b (Some (negative (with_sign true d))) (float_of true p)) yes) ∙ e in
    let same : negative (with_sign true d) ≡ n = cc in
    let parts = and_parts some (nat_le d (2 ^ 63)) yes in
    let first = and_parts (is_integer p) (nat_lt 0 d) parts.0 in
    let small : d < 2 ^ 64 = within_of d parts.1 in
    omega (arith, ap (λ y. length (number_text y)) same, minus_text d, integer_room s first.0 small))
    (λ no.
    let read : float_of true p ≡ Some n = sym (ap (λ b. cond b (Some (negative (with_sign true d))) (float_of true p)) no) ∙ e in
    omega (arith, float_room _ n _ refl read))

pub number_room : (s : List ℕ) (n : Num) → number_of s ≡ Some n → length (number_text n) ≤ length s
unfolding number_of
number_room [] n e = natural_room [] n e
number_room (x ∷ xs) n e =
    by_either (x == 45)
    (λ yes. negative_room xs n (sym (ap (λ b. cond b (number_from true (scan xs)) (number_from false (scan (x ∷ xs)))) yes) ∙ e))
    (λ no. natural_room (x ∷ xs) n (sym (ap (λ b. cond b (number_from true (scan xs)) (number_from false (scan (x ∷ xs)))) no) ∙ e))
