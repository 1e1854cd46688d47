-- Facts on tests and filters of lists.
use Rattle.std.proofs.Common.{◌≡◌, ℕ, take, drop, reverse, Bool, true, false, cond, ◌&&◌, ◌||◌, List, [], ◌∷◌, ◌++◌, refl, sym, ap, ◌∙◌}
use Rattle.std.specs.List.{list_any, filter}
use Rattle.std.proofs.lemmas.List.{reverse-append, take-append-drop}

pub and_first : (p q : Bool) → (p && q) ≡ true → p ≡ true
and_first true q e = refl
and_first false q e = e

pub and_second : (p q : Bool) → (p && q) ≡ true → q ≡ true
and_second true q e = e
and_second false q e = absurd (let z : false ≡ true = e in cc)

pub or_swap : (a b c : Bool) → (a || (b || c)) ≡ (b || (a || c))
or_swap true true c = refl
or_swap true false c = refl
or_swap false b c = refl

pub or_false : (b : Bool) → (b || false) ≡ b
or_false true = refl
or_false false = refl

pub or_twice : (a b : Bool) → (a || (a || b)) ≡ (a || b)
or_twice true b = refl
or_twice false b = refl

pub or_group : (a b c : Bool) → ((a || b) || c) ≡ (a || (b || c))
or_group true b c = refl
or_group false b c = refl

abbrev pub is_filled : {X : Type 0} → List X → Bool
is_filled [] = false
is_filled (x ∷ xs) = true

pub any_by_filter : {X : Type 0} (p : X → Bool) (xs : List X) → list_any p xs ≡ is_filled (filter p xs)
any_by_filter p [] = refl
any_by_filter p (x ∷ xs) =
    elim (p x) as (λ b. (b || list_any p xs) ≡ is_filled (cond b (x ∷ filter p xs) (filter p xs))) [
      | true ↦ refl
      | false ↦ any_by_filter p xs
    ]

pub any_same : {X : Type 0} (p : X → Bool) (xs ys : List X) → filter p xs ≡ filter p ys → list_any p xs ≡ list_any p ys
any_same p xs ys e = any_by_filter p xs ∙ (ap is_filled e ∙ sym (any_by_filter p ys))

pub any-append : {X : Type 0} (p : X → Bool) (xs ys : List X) → list_any p (xs ++ ys) ≡ (list_any p xs || list_any p ys)
any-append p [] ys = refl
any-append p (x ∷ xs) ys = ap (λ b. p x || b) (any-append p xs ys) ∙ sym (or_group (p x) (list_any p xs) (list_any p ys))

pub filter_none : {X : Type 0} (p : X → Bool) (xs : List X) → list_any p xs ≡ false → filter p xs ≡ []
filter_none p [] e = refl
filter_none p (x ∷ xs) e =
    elim (p x) as (λ b. (b || list_any p xs) ≡ false → cond b (x ∷ filter p xs) (filter p xs) ≡ []) [
      | true ↦ λ f. cc
      | false ↦ λ f. filter_none p xs f
    ] e

-- a filter by q after a filter by p, where q is the stronger test
pub filter_after : {X : Type 0} (p q : X → Bool) → ((x : X) → q x ≡ true → p x ≡ true) → (xs : List X) → filter q (filter p xs) ≡ filter q xs
filter_after p q stronger [] = refl
filter_after p q stronger (x ∷ xs) =
    elim (p x) as (λ b. p x ≡ b → filter q (cond b (x ∷ filter p xs) (filter p xs)) ≡ cond (q x) (x ∷ filter q xs) (filter q xs)) [
      | true ↦ λ e. ap (λ ys. cond (q x) (x ∷ ys) ys) (filter_after p q stronger xs)
      | false ↦ λ e. elim (q x) as (λ b. q x ≡ b → filter q (filter p xs) ≡ cond b (x ∷ filter q xs) (filter q xs)) [
        | true ↦ λ f. absurd (let g = stronger x f in cc)
        | false ↦ λ f. filter_after p q stronger xs
      ] refl
    ] refl

pub any_filter : {X : Type 0} (p q : X → Bool) (xs : List X) → list_any p (filter q xs) ≡ true → list_any p xs ≡ true
any_filter p q [] e = e
any_filter p q (x ∷ xs) e =
    elim (q x) as (λ b. list_any p (cond b (x ∷ filter q xs) (filter q xs)) ≡ true → (p x || list_any p xs) ≡ true) [
      | true ↦ λ f. elim (p x) as (λ b. (b || list_any p (filter q xs)) ≡ true → (b || list_any p xs) ≡ true) [ true ↦ λ g. refl | false ↦ λ g. any_filter p q xs g ] f
      | false ↦ λ f. elim (p x) as (λ b. (b || list_any p xs) ≡ true) [ true ↦ refl | false ↦ any_filter p q xs f ]
    ] e

-- a list ends with its front, newest first
pub prefix : {X : Type 0} (k : ℕ) (xs : List X) → reverse xs ≡ reverse (drop k xs) ++ reverse (take k xs)
prefix k xs = ap reverse (sym (take-append-drop k xs)) ∙ reverse-append (take k xs) (drop k xs)
