-- The number of an index among some indices and others after them.
use Rattle.std.proofs.Common.{◌≡◌, ℕ, suc, ◌+◌, Bool, true, false, cond, not, List, [], ◌∷◌, ◌++◌, length, Option, Some, None, arith, refl, sym, ap, ◌∙◌}
use Rattle.std.specs.Prelude.{option_map, nat_lt}
use Rattle.std.specs.List.{position, position_or_len}
use Rattle.std.specs.Str.{bytes_eq}
use Rattle.tf_history.specs.Catalogue.{SourceIndex, number_of}

one_plus : (n : ℕ) → 1 + n ≡ suc n
one_plus n = omega arith

abbrev found : ℕ → ℕ → Option ℕ
found m n = cond (nat_lt m n) (Some m) None

lt_suc : (m n : ℕ) → nat_lt (suc m) (suc n) ≡ nat_lt m n
lt_suc m n = grind arith

lt_some : (n : ℕ) → nat_lt 0 (suc n) ≡ true
lt_some n = grind arith

found_suc : (m n : ℕ) → found (suc m) (suc n) ≡ option_map suc (found m n)
found_suc m n = ap (λ b. cond b (Some (suc m)) None) (lt_suc m n) ∙ elim (nat_lt m n) as (λ b. cond b (Some (suc m)) None ≡ option_map suc (cond b (Some m) None)) [ true ↦ refl | false ↦ refl ]

pub position_cons : {X : Type 0} (p : X → Bool) (x : X) (xs : List X) → position p (x ∷ xs) ≡ cond (p x) (Some 0) (option_map suc (position p xs))
position_cons p x xs = elim (p x) as (λ b. found (cond (not b) (1 + position_or_len p xs) 0) (suc (length xs)) ≡ cond b (Some 0) (option_map suc (position p xs))) [
  | true ↦ ap (λ b. cond b (Some 0) None) (lt_some (length xs))
  | false ↦ ap (λ m. found m (suc (length xs))) (one_plus (position_or_len p xs)) ∙ found_suc (position_or_len p xs) (length xs)
]

no_some : {A : Type 0} (n : ℕ) → ◌≡◌ {A = Option ℕ} None (Some n) → A
no_some n e = absurd (let z : ◌≡◌ {A = Option ℕ} None (Some n) = e in cc)

some_later : (o q : Option ℕ) (a : ℕ) → option_map suc o ≡ Some a → ((n : ℕ) → o ≡ Some n → q ≡ Some n) → option_map suc q ≡ Some a
some_later None q a f g = no_some a f
some_later (Some n) q a f g = ap (option_map suc) (g n refl) ∙ f

position_left : {X : Type 0} (p : X → Bool) (xs ys : List X) (a : ℕ) → position p xs ≡ Some a → position p (xs ++ ys) ≡ Some a
position_left p [] ys a e = no_some a e
position_left p (x ∷ xs) ys a e =
    position_cons p x (xs ++ ys)
    ∙ elim (p x) as (λ b. cond b (Some 0) (option_map suc (position p xs)) ≡ Some a → cond b (Some 0) (option_map suc (position p (xs ++ ys))) ≡ Some a) [
      | true ↦ λ f. f
      | false ↦ λ f. some_later (position p xs) (position p (xs ++ ys)) a f (position_left p xs ys)
    ] (sym (position_cons p x xs) ∙ e)

none_before : (o : Option ℕ) → option_map suc o ≡ None → o ≡ None
none_before None e = refl
none_before (Some n) e = no_some (suc n) (sym e)

plus_none : (o : Option ℕ) → o ≡ option_map (λ (n : ℕ). 0 + n) o
plus_none None = refl
plus_none (Some n) = ap Some (let e : n ≡ 0 + n = omega arith in e)

plus_suc : (m : ℕ) (o : Option ℕ) → option_map suc (option_map (λ (n : ℕ). m + n) o) ≡ option_map (λ (n : ℕ). suc m + n) o
plus_suc m None = refl
plus_suc m (Some n) = ap Some (let e : suc (m + n) ≡ suc m + n = omega arith in e)

position_right : {X : Type 0} (p : X → Bool) (xs ys : List X) → position p xs ≡ None → position p (xs ++ ys) ≡ option_map (λ (n : ℕ). length xs + n) (position p ys)
position_right p [] ys e = plus_none (position p ys)
position_right p (x ∷ xs) ys e =
    position_cons p x (xs ++ ys)
    ∙ elim (p x) as (λ b. cond b (Some 0) (option_map suc (position p xs)) ≡ None → cond b (Some 0) (option_map suc (position p (xs ++ ys))) ≡ option_map (λ (n : ℕ). suc (length xs) + n) (position p ys)) [
      | true ↦ λ f. no_some 0 (sym f)
      | false ↦ λ f. ap (option_map suc) (position_right p xs ys (none_before (position p xs) f)) ∙ plus_suc (length xs) (position p ys)
    ] (sym (position_cons p x xs) ∙ e)

abbrev is_named : List ℕ → SourceIndex → Bool
is_named name s = bytes_eq name s.name

pub number_left : (name : List ℕ) (xs ys : List SourceIndex) (a : ℕ) → number_of name xs ≡ Some a → number_of name (xs ++ ys) ≡ Some a
number_left name xs ys a e = position_left (is_named name) xs ys a e

pub number_right : (name : List ℕ) (xs ys : List SourceIndex) → number_of name xs ≡ None → number_of name (xs ++ ys) ≡ option_map (λ (n : ℕ). length xs + n) (number_of name ys)
number_right name xs ys e = position_right (is_named name) xs ys e
