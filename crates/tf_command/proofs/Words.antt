-- A word's text is no longer than the word.
use Rattle.std.proofs.Common.{◌≡◌, ℕ, suc, ◌+◌, ◌-◌, ◌≤◌, Bool, true, false, cond, ◌&&◌, ◌||◌, ◌==◌, nat_eq, List, [], ◌∷◌, length, take, drop, Option, Some, None, option_and_then, refl, sym, ap, subst, ◌∙◌, arith, ◌⊎◌, inl, inr, length-take-le}
use Rattle.std.proofs.lemmas.Bool.{false≢true, eqb-true, and_parts, or_cases, ne_eqb}
use Rattle.std.specs.Prelude.{⊤}
use Rattle.std.specs.Char.{is_ascii_digit}
use Rattle.std.specs.Cmp.Lexicographic.{pointwise}
use Rattle.std.specs.List.{prefix_len, starts_with}
use Rattle.json.specs.Lex.{Class, quote, backslash, operator, space, other, class}
use Rattle.json.specs.Print.{token_text}
use Rattle.json.specs.Token.{Token}
use Rattle.json.specs.Ascii as ascii
use Rattle.json.specs.Word.{head, ends_word, after_digits, after_minus, after_sign, after_whole, after_fraction, after_exponent, after_number, number_before, literal, word}

-- how many bytes a word has from here on, by the class of the first
abbrev pub word_byte : Class → ℕ → ℕ
word_byte quote n = 1 + n
word_byte backslash n = 1 + n
word_byte operator n = 0
word_byte space n = 0
word_byte other n = 1 + n

abbrev pub word_len : List ℕ → ℕ
word_len [] = 0
word_len (x ∷ xs) = word_byte (class x) (word_len xs)

-- ---- what is read of a word is in the word

record Passed (t r : List ℕ) : Type 0 where
  pub longer : length r ≤ length t
  pub same_end : word_len t + length r ≡ length t + word_len r

abbrev PassedIf : List ℕ → Option (List ℕ) → Type 0
PassedIf t None = ⊤
PassedIf t (Some r) = Passed t r

stays : (t : List ℕ) → Passed t t
stays t = record { longer = omega arith; same_end = omega arith }

further : (t s r : List ℕ) → Passed t s → Passed s r → Passed t r
further t s r one two = record { longer = omega (arith, one.longer, two.longer); same_end = omega (arith, one.same_end, two.same_end) }

first_byte : (x : ℕ) (xs : List ℕ) → class x ≡ other → Passed (x ∷ xs) xs
first_byte x xs k = record { longer = omega arith; same_end = omega (arith, ap (λ c. word_byte c (word_len xs)) k) }

then : (t s : List ℕ) → Passed t s → (o : Option (List ℕ)) → PassedIf s o → PassedIf t o
then t s one None h = tt
then t s one (Some r) h = further t s r one h

and_then : (t : List ℕ) (f : List ℕ → Option (List ℕ)) (o : Option (List ℕ)) → PassedIf t o → ((s : List ℕ) → PassedIf s (f s)) → PassedIf t (option_and_then f o)
and_then t f None h k = tt
and_then t f (Some s) h k = then t s h (f s) (k s)

-- a byte that may be passed over
skips : (t : List ℕ) (b : Bool) → (b ≡ true → Passed t (drop 1 t)) → Passed t (cond b (drop 1 t) t)
skips t true h = h refl
skips t false h = stays t

one_of : (c : ℕ) → class c ≡ other → (ascii.space == c) ≡ false → (t : List ℕ) → (head t == c) ≡ true → Passed t (drop 1 t)
one_of c k no_space [] h = absurd (false≢true (sym no_space ∙ h))
one_of c k no_space (x ∷ xs) h = first_byte x xs (ap class (eqb-true x c h) ∙ k)

minus_passed : (t : List ℕ) → Passed t (after_minus t)
minus_passed t = skips t (head t == 45) (one_of 45 refl refl t)

sign_passed : (t : List ℕ) → Passed t (after_sign t)
sign_passed t = skips t ((head t == 45) || (head t == 43)) (λ h. either_sign (or_cases (head t == 45) (head t == 43) h))
  where
    either_sign : ((head t == 45) ≡ true) ⊎ ((head t == 43) ≡ true) → Passed t (drop 1 t)
    either_sign (inl e) = one_of 45 refl refl t e
    either_sign (inr e) = one_of 43 refl refl t e

digit_class : (x : ℕ) → is_ascii_digit x ≡ true → class x ≡ other
digit_class x h =
    let low : 48 ≤ x = grind arith in
    let high : x ≤ 57 = grind arith in
    (λ i. cond (ne_eqb x 34 (λ e. omega arith) i) quote (cond (ne_eqb x 92 (λ e. omega arith) i) backslash
    (cond (ne_eqb x 123 (λ e. omega arith) i || ne_eqb x 125 (λ e. omega arith) i || ne_eqb x 91 (λ e. omega arith) i || ne_eqb x 93 (λ e. omega arith) i || ne_eqb x 58 (λ e. omega arith) i || ne_eqb x 44 (λ e. omega arith) i) operator
    (cond (ne_eqb x 32 (λ e. omega arith) i || ne_eqb x 9 (λ e. omega arith) i || ne_eqb x 10 (λ e. omega arith) i || ne_eqb x 13 (λ e. omega arith) i) space other))))

run_byte : (x : ℕ) (xs : List ℕ) → Passed xs (drop (prefix_len is_ascii_digit xs) xs) → (b : Bool) → is_ascii_digit x ≡ b
    → Passed (x ∷ xs) (drop (cond b (1 + prefix_len is_ascii_digit xs) 0) (x ∷ xs))
run_byte x xs rest true e =
    let n = prefix_len is_ascii_digit xs in
    let next : suc n ≡ 1 + n = omega arith in
    subst (λ k. Passed (x ∷ xs) (drop k (x ∷ xs))) next (further (x ∷ xs) xs (drop n xs) (first_byte x xs (digit_class x e)) rest)
run_byte x xs rest false e = stays (x ∷ xs)

run_passed : (t : List ℕ) → Passed t (drop (prefix_len is_ascii_digit t) t)
run_passed [] = stays []
run_passed (x ∷ xs) = run_byte x xs (run_passed xs) (is_ascii_digit x) refl

unless : (t s : List ℕ) (b : Bool) → Passed t s → PassedIf t (cond b None (Some s))
unless t s true h = tt
unless t s false h = h

digits_passed : (t : List ℕ) → PassedIf t (after_digits t)
digits_passed t = unless t (drop (prefix_len is_ascii_digit t) t) (prefix_len is_ascii_digit t == 0) (run_passed t)

choose : (t : List ℕ) (b : Bool) (x y : Option (List ℕ)) → (b ≡ true → PassedIf t x) → PassedIf t y → PassedIf t (cond b x y)
choose t true x y h k = h refl
choose t false x y h k = k

whole_passed : (t : List ℕ) → PassedIf t (after_whole t)
whole_passed t = choose t (head t == 48) (Some (drop 1 t)) (after_digits t) (one_of 48 refl refl t) (digits_passed t)

fraction_passed : (t : List ℕ) → PassedIf t (after_fraction t)
fraction_passed t =
    choose t (head t == 46) (after_digits (drop 1 t)) (Some t) (λ h. then t (drop 1 t) (one_of 46 refl refl t h) (after_digits (drop 1 t)) (digits_passed (drop 1 t))) (stays t)

exponent_passed : (t : List ℕ) → PassedIf t (after_exponent t)
exponent_passed t = choose t ((head t == 101) || (head t == 69)) (after_digits (after_sign (drop 1 t))) (Some t) (λ h. marked (or_cases (head t == 101) (head t == 69) h)) (stays t)
  where
    behind : Passed t (drop 1 t) → PassedIf t (after_digits (after_sign (drop 1 t)))
    behind one =
        let s = after_sign (drop 1 t) in
        then t s (further t (drop 1 t) s one (sign_passed (drop 1 t))) (after_digits s) (digits_passed s)

    marked : ((head t == 101) ≡ true) ⊎ ((head t == 69) ≡ true) → PassedIf t (after_digits (after_sign (drop 1 t)))
    marked (inl e) = behind (one_of 101 refl refl t e)
    marked (inr e) = behind (one_of 69 refl refl t e)

number_passed : (t : List ℕ) → PassedIf t (after_number t)
unfolding after_number
number_passed t =
    let s = after_minus t in
    and_then t after_exponent (option_and_then after_fraction (after_whole s))
    (and_then t after_fraction (after_whole s) (then t s (minus_passed t) (after_whole s) (whole_passed s)) fraction_passed) exponent_passed

-- ---- words

abbrev Within : List ℕ → Token → Type 0
Within t token = length (token_text token) ≤ word_len t

chosen : (t : List ℕ) (b : Bool) (x : Token) → (b ≡ true → Within t x) → Within t (cond b x Token.bad)
chosen t true x h = h refl
chosen t false x h = omega arith

number_within : (t : List ℕ) (o : Option (List ℕ)) → PassedIf t o → Within t (number_before t o)
number_within t None h = omega arith
number_within t (Some r) h = chosen t (ends_word r) (Token.number (take (length t - length r) t)) (λ e. omega (arith, h.longer, h.same_end, length-take-le (length t - length r) t))

-- bytes that are of a word
abbrev AreOther : List ℕ → Type 0
AreOther [] = ⊤
AreOther (x ∷ xs) = (class x ≡ other) × AreOther xs

name_within : (name t : List ℕ) → AreOther name → pointwise nat_eq name (take (length name) t) ≡ true → length name ≤ word_len t
name_within [] t all h = omega arith
name_within (x ∷ xs) [] all h = absurd (cc)
name_within (x ∷ xs) (y ∷ ys) all h =
    let p = and_parts (nat_eq x y) (pointwise nat_eq xs (take (length xs) ys)) h in
    let same : x ≡ y = eqb-true x y p.0 in
    omega (arith, ap (λ c. word_byte c (word_len ys)) (ap class (sym same) ∙ all.0), name_within xs ys all.1 p.1)

literal_within : (name : List ℕ) (token : Token) (t : List ℕ) → AreOther name → length (token_text token) ≤ length name → Within t (literal name token t)
literal_within name token t all size =
    chosen t (starts_with nat_eq t name && ends_word (drop (length name) t)) token
    (λ h. omega (arith, size, name_within name t all (and_parts (starts_with nat_eq t name) (ends_word (drop (length name) t)) h).0))

by_head : (t : List ℕ) (b : Bool) (x y : Token) → Within t x → Within t y → Within t (cond b x y)
by_head t true x y h k = h
by_head t false x y h k = k

pub word_room : (t : List ℕ) → length (token_text (word t)) ≤ word_len t
unfolding word
word_room t =
    by_head t (head t == 116) (literal ascii.true_text (Token.boolean true) t) _ (literal_within ascii.true_text (Token.boolean true) t (refl, (refl, (refl, (refl, tt)))) (omega arith))
    (by_head t (head t == 102) (literal ascii.false_text (Token.boolean false) t) _ (literal_within ascii.false_text (Token.boolean false) t (refl, (refl, (refl, (refl, (refl, tt))))) (omega arith))
    (by_head t (head t == 110) (literal ascii.null_text Token.null t) _ (literal_within ascii.null_text Token.null t (refl, (refl, (refl, (refl, tt)))) (omega arith)) (number_within t (after_number t) (number_passed t))))
