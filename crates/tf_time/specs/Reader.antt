-- Readers: what stands at the front of a text, and the rest.
use Rattle.std.specs.Prelude.{ℕ, ◌+◌, ◌-◌, ◌*◌, ◌==◌, List, [], ◌∷◌, Option, Some, None, option_map, if◌then◌else◌}
use Rattle.std.specs.Char.{is_ascii_digit}
use Rattle.std.specs.Borrow.{Bor}

-- what was read and the rest, none where the front has not the form
abbrev pub Read : Type 0 → Type 0
Read A = Option (A × List ℕ)

-- one reader after another
infixl 10 ◌>>=◌
abbrev pub ◌>>=◌ : {A B : Type 0} → Option A → (A → Option B) → Option B
(Some a) >>= f = f a
None >>= f = None

-- what the code answers, with the rest as its bytes
abbrev pub seen : {A : Type 0} → Option (A × Bor (List ℕ)) → Read A
seen r = option_map (λ p. (p.0, p.1.now)) r

-- the same where only a rest is answered
abbrev pub seen_rest : Option (Bor (List ℕ)) → Option (List ℕ)
seen_rest r = option_map (λ p. p.now) r

-- the rest behind a byte
abbrev pub byte : ℕ → List ℕ → Option (List ℕ)
byte c [] = None
byte c (x ∷ rest) = if x == c then Some rest else None

-- the number of a digit, of two and of four
abbrev pub one_digit : List ℕ → Read ℕ
one_digit [] = None
one_digit (c ∷ rest) = if is_ascii_digit c then Some (c - 48, rest) else None

abbrev pub two_digits : List ℕ → Read ℕ
two_digits text = do
  a ← one_digit text
  b ← one_digit a.1
  Some (10 * a.0 + b.0, b.1)

abbrev pub four_digits : List ℕ → Read ℕ
four_digits text = do
  a ← two_digits text
  b ← two_digits a.1
  Some (100 * a.0 + b.0, b.1)

-- how many digits the text begins with
abbrev pub leading_digits : List ℕ → ℕ
leading_digits [] = 0
leading_digits (c ∷ rest) = if is_ascii_digit c then leading_digits rest + 1 else 0
