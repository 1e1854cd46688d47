-- What a format with a width writes of a small number.
use Rattle.std.proofs.Common.{◌≡◌, ℕ, ◌+◌, ◌-◌, ◌/◌, ◌%◌, ◌^◌, ◌<◌, ◌≤◌, inl, inr, [], ◌∷◌, ◌++◌, false, decimal, ap, ap₂, ◌∙◌, arith}
use Rattle.std.proofs.lemmas.Bool.{cases_order}
use Rattle.std.proofs.lemmas.Fmt.{decimal_digit, decimal_step}
use Rattle.std.specs.Fmt.{padded_integral, char_count, format_spec, styled_decimal}
use Rattle.tf_time.specs.Parts.{two, three, four, civil_text}

by_size : {P : Type 0} (n k : ℕ) → (n < k → P) → (k ≤ n → P) → P
by_size n k low high =
    elim (cases_order n k) [
      | inl same ↦ high (omega arith)
      | inr (inl lt) ↦ low lt
      | inr (inr gt) ↦ high (omega arith)
    ]

decimal_two : (n : ℕ) → 10 ≤ n → n < 100 → decimal n ≡ (48 + n / 10) ∷ (48 + n % 10) ∷ []
decimal_two n low high = decimal_step n low (omega arith) ∙ ap (λ ds. ds ++ (48 + n % 10) ∷ []) (decimal_digit (n / 10) (omega arith))

decimal_three : (n : ℕ) → 100 ≤ n → n < 1000 → decimal n ≡ (48 + n / 100) ∷ (48 + n / 10 % 10) ∷ (48 + n % 10) ∷ []
decimal_three n low high =
    decimal_step n (omega arith) (omega arith) ∙ ap (λ ds. ds ++ (48 + n % 10) ∷ []) (decimal_two (n / 10) (omega arith) (omega arith))
    ∙ ap (λ d. (48 + d) ∷ (48 + n / 10 % 10) ∷ (48 + n % 10) ∷ []) (omega arith)

decimal_four : (n : ℕ) → 1000 ≤ n → n < 10_000 → decimal n ≡ (48 + n / 1000) ∷ (48 + n / 100 % 10) ∷ (48 + n / 10 % 10) ∷ (48 + n % 10) ∷ []
decimal_four n low high =
    decimal_step n (omega arith) (omega arith) ∙ ap (λ ds. ds ++ (48 + n % 10) ∷ []) (decimal_three (n / 10) (omega arith) (omega arith))
    ∙ ap₂ (λ d e. (48 + d) ∷ (48 + e) ∷ (48 + n / 10 % 10) ∷ (48 + n % 10) ∷ []) (omega arith) (omega arith)

padded_two : (n : ℕ) → n < 100 → padded_integral (format_spec 32 0 4 2 (2 ^ 64 - 1)) false [] (decimal n) ≡ two n
unfolding padded_integral char_count
padded_two n small = by_size n 10
    (λ low. let a : n / 10 ≡ 0 = omega arith in let b : n % 10 ≡ n = omega arith in rw (decimal_digit n low, a, b))
    (λ high. rw (decimal_two n high small))

padded_three : (n : ℕ) → n < 1000 → padded_integral (format_spec 32 0 4 3 (2 ^ 64 - 1)) false [] (decimal n) ≡ three n
unfolding padded_integral char_count
padded_three n small = by_size n 10
    (λ low.
    let a : n / 100 ≡ 0 = omega arith in
    let b : n % 100 / 10 ≡ 0 = omega arith in
    let d : n % 100 % 10 ≡ n = omega arith in
    rw (decimal_digit n low, a, b, d))
    (λ high. by_size n 100
    (λ low.
    let a : n / 100 ≡ 0 = omega arith in
    let b : n % 100 ≡ n = omega arith in
    rw (decimal_two n high low, a, b))
    (λ higher.
    let b : n % 100 / 10 ≡ n / 10 % 10 = omega arith in
    let d : n % 100 % 10 ≡ n % 10 = omega arith in
    rw (decimal_three n higher small, b, d)))

padded_four : (n : ℕ) → n < 10_000 → padded_integral (format_spec 32 0 4 4 (2 ^ 64 - 1)) false [] (decimal n) ≡ four n
unfolding padded_integral char_count
padded_four n small = by_size n 10
    (λ low.
    let a : n / 100 / 10 ≡ 0 = omega arith in
    let b : n / 100 % 10 ≡ 0 = omega arith in
    let d : n % 100 / 10 ≡ 0 = omega arith in
    let e : n % 100 % 10 ≡ n = omega arith in
    rw (decimal_digit n low, a, b, d, e))
    (λ high. by_size n 100
    (λ low.
    let a : n / 100 / 10 ≡ 0 = omega arith in
    let b : n / 100 % 10 ≡ 0 = omega arith in
    let d : n % 100 ≡ n = omega arith in
    rw (decimal_two n high low, a, b, d))
    (λ higher. by_size n 1000
    (λ low.
    let a : n / 100 / 10 ≡ 0 = omega arith in
    let b : n / 100 % 10 ≡ n / 100 = omega arith in
    let d : n % 100 / 10 ≡ n / 10 % 10 = omega arith in
    let e : n % 100 % 10 ≡ n % 10 = omega arith in
    rw (decimal_three n higher low, a, b, d, e))
    (λ highest.
    let a : n / 100 / 10 ≡ n / 1000 = omega arith in
    let d : n % 100 / 10 ≡ n / 10 % 10 = omega arith in
    let e : n % 100 % 10 ≡ n % 10 = omega arith in
    rw (decimal_four n highest small, a, d, e))))

pub shown_two : (n : ℕ) → n < 100 → styled_decimal (format_spec 32 0 4 2 (2 ^ 64 - 1)) n ≡ two n
shown_two n small = padded_two n small

pub shown_three : (n : ℕ) → n < 1000 → styled_decimal (format_spec 32 0 4 3 (2 ^ 64 - 1)) n ≡ three n
shown_three n small = padded_three n small

pub shown_four : (n : ℕ) → n < 10_000 → styled_decimal (format_spec 32 0 4 4 (2 ^ 64 - 1)) n ≡ four n
shown_four n small = padded_four n small

pub civil_shown : (year month day : ℕ) → year < 10_000 → month < 100 → day < 100
    → styled_decimal (format_spec 32 0 4 4 (2 ^ 64 - 1)) year ++ 45 ∷ (styled_decimal (format_spec 32 0 4 2 (2 ^ 64 - 1)) month ++ 45 ∷ styled_decimal (format_spec 32 0 4 2 (2 ^ 64 - 1)) day)
    ≡ civil_text (year, month, day)
civil_shown year month day a b d = rw (shown_four year a, shown_two month b, shown_two day d)

pub clock_shown : (hour minute second part : ℕ) → hour < 100 → minute < 100 → second < 100 → part < 1000
    → styled_decimal (format_spec 32 0 4 2 (2 ^ 64 - 1)) hour ++ 58 ∷ (styled_decimal (format_spec 32 0 4 2 (2 ^ 64 - 1)) minute ++ 58 ∷ (styled_decimal (format_spec 32 0 4 2 (2 ^ 64 - 1)) second ++ 46 ∷ styled_decimal (format_spec 32 0 4 3 (2 ^ 64 - 1)) part))
    ≡ two hour ++ 58 ∷ two minute ++ 58 ∷ two second ++ 46 ∷ three part
clock_shown hour minute second part a b d e = rw (shown_two hour a, shown_two minute b, shown_two second d, shown_three part e)
