-- What stands beside an ASCII byte of a text, and a text whose escapes are a text.
use Rattle.std.proofs.Common.{◌≡◌, ℕ, zero, suc, ◌+◌, ◌<◌, ◌≤◌, Bool, true, ◌&&◌, nat_lt, List, [], ◌∷◌, ◌++◌, flat_map, length, drop, get_or, IsUtf8, inl, inr, refl, sym, ap, ◌∙◌, subst, arith, append_assoc, append-nil, length-append, ltb-true}
use Rattle.std.proofs.lemmas.Bool.{and_parts, cases_lt, cases_eq}
use Rattle.std.proofs.lemmas.List.{take-append-le, take_all}
use Rattle.std.proofs.lemmas.List.Prefix.{front_rest}
use Rattle.std.proofs.lemmas.Str.{IsUtf8-append, IsUtf8-nil, IsUtf8-encode, IsUtf8-drop, IsUtf8-take, IsCharBoundary-after_ascii, IsCharBoundary-at_seam, encode_ascii, inside_one, length-le-encodes}
use lib.Utf8.{scalars, encode, encodes, low_scalar}
use Rattle.json.specs.Print.{escape_byte}
use Rattle.json.proofs.Printed.Strings.{escape_byte_plain}
use Rattle.tf_model.specs.Print.{escaped}

ascii_then : (x : ℕ) (xs : List ℕ) → x < 128 → IsUtf8 xs → IsUtf8 (x ∷ xs)
ascii_then x xs small u = IsUtf8-append (x ∷ []) xs (subst IsUtf8 (encode_ascii x small) (IsUtf8-encode x (low_scalar x (omega arith)))) u

byte_at : (a b : List ℕ) (x : ℕ) → get_or (a ++ x ∷ b) (length a) 0 ≡ x
byte_at [] b x = refl
byte_at (y ∷ a) b x = byte_at a b x

-- the text behind an ASCII byte
pub behind_ascii : (a b : List ℕ) (x : ℕ) → x < 128 → IsUtf8 (a ++ x ∷ b) → IsUtf8 b
behind_ascii a b x small u =
    let text : List ℕ = a ++ x ∷ b in
    let cut : text ≡ (a ++ x ∷ []) ++ b = sym (append_assoc a (x ∷ []) b) in
    let past : length (a ++ x ∷ []) ≡ length a + 1 = length-append a (x ∷ []) in
    subst IsUtf8 (ap (λ n. drop n text) (sym past) ∙ front_rest text (a ++ x ∷ []) b cut)
    (IsUtf8-drop text (length a + 1) u (IsCharBoundary-after_ascii text (length a) u (omega (arith, length-append a (x ∷ b))) (subst (λ n. n < 128) (sym (byte_at a b x)) small)))

-- the text before an ASCII byte
pub before_ascii : (a b : List ℕ) (x : ℕ) → x < 128 → IsUtf8 (a ++ x ∷ b) → IsUtf8 a
before_ascii a b x small u =
    let text : List ℕ = a ++ x ∷ b in
    let seam = IsCharBoundary-at_seam text a (x ∷ b) refl (ascii_then x b small (behind_ascii a b x small u)) in
    subst IsUtf8 (take-append-le (length a) a (x ∷ b) (omega arith) ∙ take_all (length a) a (omega arith)) (IsUtf8-take text (length a) u seam)

-- ---- escapes
abbrev are_ascii : List ℕ → Bool
are_ascii [] = true
are_ascii (x ∷ xs) = nat_lt x 128 && are_ascii xs

-- whether a byte's escape is ASCII, and has a byte
abbrev is_low : ℕ → Bool
is_low x = are_ascii (escaped x) && nat_lt 0 (length (escaped x))

abbrev lows_below : ℕ → Bool
lows_below zero = true
lows_below (suc n) = is_low n && lows_below n

low_at : (n : ℕ) → lows_below n ≡ true → (x : ℕ) → x < n → is_low x ≡ true
low_at zero e x h = absurd (omega arith)
low_at (suc n) e x h =
    let p = and_parts _ _ e in
    elim (cases_eq x n) [ inl same ↦ subst (λ y. is_low y ≡ true) (sym same) p.0 | inr other ↦ low_at n p.1 x (omega arith) ]

all_low : lows_below 128 ≡ true
unfolding escaped
all_low = refl

plain : (x : ℕ) → 128 ≤ x → escaped x ≡ x ∷ []
unfolding escaped escape_byte
plain x high = escape_byte_plain x (λ e. omega arith) (λ e. omega arith) (omega arith)

-- a text without the ASCII bytes at its front
strip : (xs rest : List ℕ) → are_ascii xs ≡ true → IsUtf8 (xs ++ rest) → IsUtf8 rest
strip [] rest e u = u
strip (x ∷ xs) rest e u = let p = and_parts _ _ e in strip xs rest p.1 (behind_ascii [] (xs ++ rest) x (ltb-true _ _ p.0) u)

low_first : (xs rest : List ℕ) (h : ℕ) (t : List ℕ) → are_ascii xs ≡ true → 0 < length xs → 128 ≤ h → xs ++ rest ≡ h ∷ t → ⊥
low_first [] rest h t e some high same = omega arith
low_first (x ∷ xs) rest h t e some high same =
    let small : x < 128 = ltb-true x 128 (and_parts _ _ e).0 in
    let is : x ≡ h = cc in
    omega (arith, small, is, high)

abbrev AreHigh : List ℕ → Type 0
AreHigh xs = (k : ℕ) → k < length xs → 128 ≤ get_or xs k 0

-- high bytes at the front of an escaped text stand for themselves
record HasFront (hs u rest : List ℕ) : Type 0 where
  pub more : List ℕ
  pub is : u ≡ hs ++ more
  pub rest_is : rest ≡ flat_map escaped more

high_front : (hs u rest : List ℕ) → AreHigh hs → hs ++ rest ≡ flat_map escaped u → HasFront hs u rest
high_front [] u rest high e = record { more = u; is = refl; rest_is = e }
high_front (h ∷ hs) [] rest high e = absurd (cc)
high_front (h ∷ hs) (y ∷ u) rest high e = elim (cases_lt y 128) [
  | inl small ↦
      let low = and_parts _ _ (low_at 128 all_low y small) in
      absurd (low_first (escaped y) (flat_map escaped u) h (hs ++ rest) low.0 (ltb-true _ _ low.1) (high 0 (omega arith)) (sym e))
  | inr big ↦
      let all : h ∷ (hs ++ rest) ≡ y ∷ flat_map escaped u = e ∙ ap (λ l. l ++ flat_map escaped u) (plain y big) in
      let same : h ≡ y = cc in
      let others : hs ++ rest ≡ flat_map escaped u = cc in
      let m = high_front hs u rest (λ k below. high (suc k) (omega arith)) others in
      record { more = m.more; is = (λ i. sym same i ∷ m.is i); rest_is = m.rest_is }
]

high_char : (c : ℕ) → 128 ≤ c → AreHigh (encode c)
high_char c big k below = elim (cases_lt (get_or (encode c) k 0) 128) [
  | inl low ↦ absurd (omega (arith, inside_one c [] (encode c) k (sym (append-nil _)) below low))
  | inr h ↦ h
]

some_bytes : (c : ℕ) → 0 < length (encode c)
some_bytes c = omega (arith, length-le-encodes (c ∷ []), length-append (encode c) [])

-- a text whose first character has high bytes
by_char : (n : ℕ) (again : (v : List ℕ) → length v ≤ n → IsUtf8 (flat_map escaped v) → IsUtf8 v) (x : ℕ) (u : List ℕ) → length u ≤ n → 128 ≤ x
    → (cs : List ℕ) → scalars cs ≡ true → encodes cs ≡ flat_map escaped (x ∷ u) → IsUtf8 (x ∷ u)
by_char n again x u few big [] ok e = absurd (let none : ◌≡◌ {A = List ℕ} [] (x ∷ flat_map escaped u) = e ∙ ap (λ l. l ++ flat_map escaped u) (plain x big) in cc)
by_char n again x u few big (c ∷ cs) ok e = elim (cases_lt c 128) [
  | inl small ↦
      let all : c ∷ encodes cs ≡ x ∷ flat_map escaped u = ap (λ l. l ++ encodes cs) (sym (encode_ascii c small)) ∙ (e ∙ ap (λ l. l ++ flat_map escaped u) (plain x big)) in
      let same : c ≡ x = cc in
      absurd (omega (arith, same, small, big))
  | inr high ↦
      let m = high_front (encode c) (x ∷ u) (encodes cs) (high_char c high) e in
      let fewer : length m.more ≤ n = omega (arith, ap length m.is, length-append (encode c) m.more, some_bytes c, few) in
      subst IsUtf8 (sym m.is) (IsUtf8-append (encode c) m.more (IsUtf8-encode c (and_parts _ _ ok).0) (again m.more fewer (cs, ((and_parts _ _ ok).1, m.rest_is))))
]

unescaped : (n : ℕ) (u : List ℕ) → length u ≤ n → IsUtf8 (flat_map escaped u) → IsUtf8 u
unescaped n [] few t = IsUtf8-nil
unescaped zero (x ∷ u) few t = absurd (omega arith)
unescaped (suc n) (x ∷ u) few t = elim (cases_lt x 128) [
  | inl small ↦ ascii_then x u small (unescaped n u (omega arith) (strip (escaped x) (flat_map escaped u) (and_parts _ _ (low_at 128 all_low x small)).0 t))
  | inr big ↦ by_char n (unescaped n) x u (omega arith) big t.0 t.1.0 t.1.1
]

-- a text whose escapes are a text
pub text_of_escapes : (u : List ℕ) → IsUtf8 (flat_map escaped u) → IsUtf8 u
text_of_escapes u t = unescaped (length u) u (omega arith) t

some_escape : (x : ℕ) → 0 < length (escaped x)
some_escape x = elim (cases_lt x 128) [
  | inl small ↦ ltb-true _ _ (and_parts _ _ (low_at 128 all_low x small)).1
  | inr big ↦ omega (arith, ap length (plain x big))
]

-- escapes are no shorter than their text
pub escapes_longer : (u : List ℕ) → length u ≤ length (flat_map escaped u)
escapes_longer [] = omega arith
escapes_longer (x ∷ u) = omega (arith, some_escape x, escapes_longer u, length-append (escaped x) (flat_map escaped u))
