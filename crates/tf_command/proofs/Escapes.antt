-- What a string's content is written as is no longer than what it was read from.
use Rattle.std.proofs.Common.{◌≡◌, ℕ, ◌+◌, ◌/◌, ◌%◌, ◌≤◌, ◌<◌, Bool, true, false, cond, ◌&&◌, ◌||◌, ◌==◌, nat_lt, List, [], ◌∷◌, length, Option, Some, None, option_and_then, refl, sym, ap, subst, ◌∙◌, arith, ◌⊎◌, inl, inr, length-append}
use Rattle.std.proofs.lemmas.Bool.{false≢true, eqb-true, and_parts, or_cases, ne_eqb, le-ltb}
use Rattle.std.proofs.lemmas.Grind.{flat_map-append}
use Rattle.std.specs.Prelude.{⊤}
use Rattle.std.specs.Char.{digit_char, is_digit, encode_utf8}
use Rattle.json.specs.Text.{code_unit, short_escape, is_high_surrogate, is_low_surrogate, surrogate_pair, Within, plain, after_backslash, after_u, after_high, prepend, content}
use Rattle.json.specs.Word.{is_operator, is_space}
use Rattle.json.specs.Lex.{quote, backslash, operator, space, other, Mode, in_string, in_escape}
use Rattle.json.specs.Align.{span_byte, span}
use Rattle.json.specs.Print.{escape_letter, escape_byte, escape}

-- ---- what stands for a byte

by_tests : (a b : Bool) (x y : List ℕ) (n : ℕ) → length x ≤ n → length y ≤ n → 1 ≤ n → (z : ℕ) → length (cond a x (cond b y (z ∷ []))) ≤ n
by_tests true b x y n p q r z = p
by_tests false true x y n p q r z = q
by_tests false false x y n p q r z = r

byte_size : (x : ℕ) → length (escape_byte x) ≤ 6
unfolding escape_byte
byte_size x = by_tests (nat_lt 0 (escape_letter x)) (nat_lt x 32) (92 ∷ escape_letter x ∷ []) (92 ∷ 117 ∷ 48 ∷ 48 ∷ digit_char (x / 16) ∷ digit_char (x % 16) ∷ []) 6 (omega arith) (omega arith) (omega arith) x

plain_size : (x : ℕ) → (x == 34) ≡ false → (x == 92) ≡ false → 32 ≤ x → length (escape_byte x) ≤ 1
unfolding escape_byte
plain_size x q b above =
    let none : escape_letter x ≡ 0 =
    (λ i. cond (q i || b i) x (cond (ne_eqb x 8 (λ e. omega arith) i) 98 (cond (ne_eqb x 12 (λ e. omega arith) i) 102 (cond (ne_eqb x 10 (λ e. omega arith) i) 110
    (cond (ne_eqb x 13 (λ e. omega arith) i) 114 (cond (ne_eqb x 9 (λ e. omega arith) i) 116 0)))))) in
    let same : escape_byte x ≡ x ∷ [] =
    ap (λ l. cond (nat_lt 0 l) (92 ∷ l ∷ []) (cond (nat_lt x 32) (92 ∷ 117 ∷ 48 ∷ 48 ∷ digit_char (x / 16) ∷ digit_char (x % 16) ∷ []) (x ∷ []))) none
    ∙ ap (λ c. cond c (92 ∷ 117 ∷ 48 ∷ 48 ∷ digit_char (x / 16) ∷ digit_char (x % 16) ∷ []) (x ∷ [])) (le-ltb x 32 above) in
    omega (arith, ap length same)

high_size : (x : ℕ) → 128 ≤ x → length (escape_byte x) ≤ 1
high_size x above = plain_size x (ne_eqb x 34 (λ e. omega arith)) (ne_eqb x 92 (λ e. omega arith)) (omega arith)

first_size : (x : ℕ) (xs : List ℕ) → length (escape (x ∷ xs)) ≡ length (escape_byte x) + length (escape xs)
first_size x xs = length-append (escape_byte x) (escape xs)

-- ---- the bytes of a character

utf8_by : (a b c : Bool) (u : ℕ) (x y z w p q r s k : ℕ) → 128 ≤ x → 128 ≤ y → 128 ≤ z → 128 ≤ w → 128 ≤ p → 128 ≤ q → 128 ≤ r → 128 ≤ s → 128 ≤ k
    → length (escape (cond a (u ∷ []) (cond b (x ∷ y ∷ []) (cond c (z ∷ w ∷ p ∷ []) (q ∷ r ∷ s ∷ k ∷ []))))) ≤ 6
utf8_by true b c u x y z w p q r s k hx hy hz hw hp hq hr hs hk = omega (arith, first_size u [], byte_size u)
utf8_by false true c u x y z w p q r s k hx hy hz hw hp hq hr hs hk = omega (arith, first_size x (y ∷ []), first_size y [], high_size x hx, high_size y hy)
utf8_by false false true u x y z w p q r s k hx hy hz hw hp hq hr hs hk =
    omega (arith, first_size z (w ∷ p ∷ []), first_size w (p ∷ []), first_size p [], high_size z hz, high_size w hw, high_size p hp)
utf8_by false false false u x y z w p q r s k hx hy hz hw hp hq hr hs hk =
    omega (arith, first_size q (r ∷ s ∷ k ∷ []), first_size r (s ∷ k ∷ []), first_size s (k ∷ []), first_size k [], high_size q hq, high_size r hr, high_size s hs, high_size k hk)

utf8_size : (u : ℕ) → length (escape (encode_utf8 u)) ≤ 6
unfolding encode_utf8
utf8_size u =
    utf8_by (nat_lt u 128) (nat_lt u 2048) (nat_lt u 65536) u (192 + u / 64) (128 + u % 64) (224 + u / 4096) (128 + u / 64 % 64) (128 + u % 64)
    (240 + u / 262144) (128 + u / 4096 % 64) (128 + u / 64 % 64) (128 + u % 64)
    (omega arith) (omega arith) (omega arith) (omega arith) (omega arith) (omega arith) (omega arith) (omega arith) (omega arith)

-- ---- what a backslash and a letter stand for

short_by : (x c : ℕ) (a b f n r t : Bool) → (a ≡ true → length (escape_byte x) ≤ 2)
    → cond a (Some x) (cond b (Some 8) (cond f (Some 12) (cond n (Some 10) (cond r (Some 13) (cond t (Some 9) None))))) ≡ Some c → length (escape_byte c) ≤ 2
unfolding escape_byte
short_by x c true b f n r t h e = let same : x ≡ c = cc in subst (λ y. length (escape_byte y) ≤ 2) same (h refl)
short_by x c false true f n r t h e = let same : 8 ≡ c = cc in subst (λ y. length (escape_byte y) ≤ 2) same (omega arith)
short_by x c false false true n r t h e = let same : 12 ≡ c = cc in subst (λ y. length (escape_byte y) ≤ 2) same (omega arith)
short_by x c false false false true r t h e = let same : 10 ≡ c = cc in subst (λ y. length (escape_byte y) ≤ 2) same (omega arith)
short_by x c false false false false true t h e = let same : 13 ≡ c = cc in subst (λ y. length (escape_byte y) ≤ 2) same (omega arith)
short_by x c false false false false false true h e = let same : 9 ≡ c = cc in subst (λ y. length (escape_byte y) ≤ 2) same (omega arith)
short_by x c false false false false false false h e = absurd (cc)

as_it_is : (x : ℕ) → ((x == 34) || (x == 92) || (x == 47)) ≡ true → length (escape_byte x) ≤ 2
unfolding escape_byte
as_it_is x h = three (or_cases ((x == 34) || (x == 92)) (x == 47) h)
  where
    small : (c : ℕ) → length (escape_byte c) ≤ 2 → (x == c) ≡ true → length (escape_byte x) ≤ 2
    small c ok e = subst (λ y. length (escape_byte y) ≤ 2) (sym (eqb-true x c e)) ok

    two : ((x == 34) ≡ true) ⊎ ((x == 92) ≡ true) → length (escape_byte x) ≤ 2
    two (inl e) = small 34 (omega arith) e
    two (inr e) = small 92 (omega arith) e

    three : (((x == 34) || (x == 92)) ≡ true) ⊎ ((x == 47) ≡ true) → length (escape_byte x) ≤ 2
    three (inl e) = two (or_cases (x == 34) (x == 92) e)
    three (inr e) = small 47 (omega arith) e

short_size : (x c : ℕ) → short_escape x ≡ Some c → length (escape_byte c) ≤ 2
unfolding short_escape
short_size x c e = short_by x c ((x == 34) || (x == 92) || (x == 47)) (x == 98) (x == 102) (x == 110) (x == 114) (x == 116) (as_it_is x) e

-- ---- where a string ends

passes : (o s : Bool) (k : Mode → ℕ) → span_byte in_string (cond o operator (cond s space other)) k ≡ 1 + k in_string
passes true s k = refl
passes false true k = refl
passes false false k = refl

span_plain : (x : ℕ) (xs : List ℕ) → (x == 34) ≡ false → (x == 92) ≡ false → span in_string (x ∷ xs) ≡ 1 + span in_string xs
unfolding span
span_plain x xs q b =
    (λ i. span_byte in_string (cond (q i) quote (cond (b i) backslash (cond (is_operator x) operator (cond (is_space x) space other)))) (λ n. span n xs)) ∙ passes (is_operator x) (is_space x) (λ n. span n xs)

span_quote : (x : ℕ) (xs : List ℕ) → (x == 34) ≡ true → span in_string (x ∷ xs) ≡ 1
unfolding span
span_quote x xs q = ap (λ y. span in_string (y ∷ xs)) (eqb-true x 34 q)

span_backslash : (x : ℕ) (xs : List ℕ) → (x == 92) ≡ true → span in_string (x ∷ xs) ≡ 1 + span in_escape xs
unfolding span
span_backslash x xs b = ap (λ y. span in_string (y ∷ xs)) (eqb-true x 92 b)

span_escape : (x : ℕ) (xs : List ℕ) → span in_escape (x ∷ xs) ≡ 1 + span in_string xs
unfolding span
span_escape x xs = refl

not_this : (c x : ℕ) (t : Bool) → (t ≡ true → x ≡ c) → is_digit c 16 ≡ false → is_digit x 16 ≡ true → t ≡ false
not_this c x false e never h = refl
not_this c x true e never h = absurd (false≢true (sym never ∙ ap (λ y. is_digit y 16) (sym (e refl)) ∙ h))

span_hex : (x : ℕ) (xs : List ℕ) → is_digit x 16 ≡ true → span in_string (x ∷ xs) ≡ 1 + span in_string xs
span_hex x xs h = span_plain x xs (not_this 34 x (x == 34) (eqb-true x 34) refl h) (not_this 92 x (x == 92) (eqb-true x 92) refl h)

all_hex : (b : Bool) (o : Option ℕ) (u : ℕ) → cond b o None ≡ Some u → b ≡ true
all_hex true o u h = refl
all_hex false o u h = absurd (cc)

span_unit : (a b c d u : ℕ) (xs : List ℕ) → code_unit a b c d ≡ Some u → span in_string (a ∷ b ∷ c ∷ d ∷ xs) ≡ 4 + span in_string xs
unfolding code_unit
span_unit a b c d u xs h =
    let p = and_parts (is_digit a 16 && is_digit b 16 && is_digit c 16) (is_digit d 16) (all_hex _ _ u h) in
    let q = and_parts (is_digit a 16 && is_digit b 16) (is_digit c 16) p.0 in
    let r = and_parts (is_digit a 16) (is_digit b 16) q.0 in
    omega (arith, span_hex a (b ∷ c ∷ d ∷ xs) r.0, span_hex b (c ∷ d ∷ xs) r.1, span_hex c (d ∷ xs) q.1, span_hex d xs p.1)

-- ---- the content

abbrev pub IsUnder : ℕ → Option (List ℕ) → Type 0
IsUnder n None = ⊤
IsUnder n (Some s) = length (escape s) < n

both : (n : ℕ) (b : Bool) (x y : Option (List ℕ)) → (b ≡ true → IsUnder n x) → (b ≡ false → IsUnder n y) → IsUnder n (cond b x y)
both n true x y f g = f refl
both n false x y f g = g refl

then : (n : ℕ) (f : ℕ → Option (List ℕ)) (o : Option ℕ) → ((u : ℕ) → o ≡ Some u → IsUnder n (f u)) → IsUnder n (option_and_then f o)
then n f None h = tt
then n f (Some u) h = h u refl

more : (n m : ℕ) (r : Option (List ℕ)) → IsUnder m r → m ≤ n → IsUnder n r
more n m None h le = tt
more n m (Some s) h le = omega arith

longer : (n m : ℕ) (a : List ℕ) (r : Option (List ℕ)) → IsUnder m r → length (escape a) + m ≤ n → IsUnder n (prepend a r)
longer n m a None h le = tt
longer n m a (Some s) h le = omega (arith, ap length (flat_map-append escape_byte a s), length-append (escape a) (escape s))

-- the bytes before that are read with these
abbrev before : Within → ℕ
before plain = 0
before after_backslash = 1
before after_u = 2
before (after_high h) = 6

abbrev mode : Within → Mode
mode plain = in_string
mode after_backslash = in_escape
mode after_u = in_string
mode (after_high h) = in_string

not_below : (x : ℕ) → nat_lt x 32 ≡ false → 32 ≤ x
not_below x h = grind arith

pub content_room : (w : Within) (xs : List ℕ) → IsUnder (before w + span (mode w) xs) (content w xs)
unfolding content
content_room plain [] = tt
content_room plain (x ∷ xs) =
    let n = 0 + span in_string (x ∷ xs) in
    both n (x == 34) _ _ (λ q. omega (arith, span_quote x xs q)) (λ q. both n (x == 92) _ _ (λ b. more n _ _ (content_room after_backslash xs) (omega (arith, span_backslash x xs b)))
    (λ b. both n (nat_lt x 32) _ _ (λ l. tt) (λ l. longer n _ (x ∷ []) _ (content_room plain xs) (omega (arith, span_plain x xs q b, first_size x [], plain_size x q b (not_below x l))))))
content_room after_backslash [] = tt
content_room after_backslash (x ∷ xs) =
    let n = 1 + span in_escape (x ∷ xs) in
    both n (x == 117) _ _ (λ u. more n _ _ (content_room after_u xs) (omega (arith, span_escape x xs)))
    (λ u. then n _ (short_escape x) (λ c f. longer n _ (c ∷ []) _ (content_room plain xs) (omega (arith, span_escape x xs, first_size c [], short_size x c f))))
content_room after_u [] = tt
content_room after_u (a ∷ []) = tt
content_room after_u (a ∷ b ∷ []) = tt
content_room after_u (a ∷ b ∷ c ∷ []) = tt
content_room after_u (a ∷ b ∷ c ∷ d ∷ xs) =
    let n = 2 + span in_string (a ∷ b ∷ c ∷ d ∷ xs) in
    then n _ (code_unit a b c d) (λ u f. both n (is_high_surrogate u) _ _ (λ h. more n _ _ (content_room (after_high u) xs) (omega (arith, span_unit a b c d u xs f)))
    (λ h. both n (is_low_surrogate u) _ _ (λ l. tt) (λ l. longer n _ (encode_utf8 u) _ (content_room plain xs) (omega (arith, span_unit a b c d u xs f, utf8_size u)))))
content_room (after_high h) [] = tt
content_room (after_high h) (s ∷ []) = tt
content_room (after_high h) (s ∷ u ∷ []) = tt
content_room (after_high h) (s ∷ u ∷ a ∷ []) = tt
content_room (after_high h) (s ∷ u ∷ a ∷ b ∷ []) = tt
content_room (after_high h) (s ∷ u ∷ a ∷ b ∷ c ∷ []) = tt
content_room (after_high h) (s ∷ u ∷ a ∷ b ∷ c ∷ d ∷ xs) =
    let n = 6 + span in_string (s ∷ u ∷ a ∷ b ∷ c ∷ d ∷ xs) in
    both n ((s == 92) && (u == 117)) _ _ (λ e. then n _ (code_unit a b c d) (λ l f. both n (is_low_surrogate l) _ _
    (λ y. longer n _ (encode_utf8 (surrogate_pair h l)) _ (content_room plain xs)
    (omega (arith, span_backslash s (u ∷ a ∷ b ∷ c ∷ d ∷ xs) (and_parts _ _ e).0, span_escape u (a ∷ b ∷ c ∷ d ∷ xs), span_unit a b c d l xs f, utf8_size (surrogate_pair h l)))) (λ y. tt))) (λ e. tt)
