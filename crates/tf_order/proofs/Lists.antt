-- Lists made of permutations.
use Rattle.std.proofs.Common.{◌≡◌, Bool, true, false, cond, ◌||◌, List, [], ◌∷◌, ◌++◌, Option, Some, None, IsPermutation, filter, filter_map, flat_map, refl, subst, append_assoc, true≢false}
use Rattle.std.proofs.lemmas.List.Sorted.{IsPermutation-refl, IsPermutation-sym, IsPermutation-trans, IsPermutation-cons, IsPermutation-append, IsPermutation-append_left, IsPermutation-append_right, IsPermutation-append_comm, IsPermutation-middle}
use Rattle.std.specs.Prelude.{⊤}
use Rattle.std.specs.List.{AllByRecursion, cons_option, list_any}
use Rattle.tf_order.proofs.Flips.{by_flips}

pub same_list : {X : Type 0} (xs ys : List X) → xs ≡ ys → IsPermutation xs ys
same_list xs ys e = subst (IsPermutation xs) e (IsPermutation-refl xs)

module _ {X : Type 0} where
  pub flipped : (x y : X) (xs : List X) → IsPermutation (x ∷ y ∷ xs) (y ∷ x ∷ xs)
  flipped x y xs = IsPermutation-middle (x ∷ []) y xs

  module _ (p : X → Bool) where
    kept_behind : (b : Bool) (x : X) (xs ys : List X) → IsPermutation xs ys → IsPermutation (cond b (x ∷ xs) xs) (cond b (x ∷ ys) ys)
    kept_behind true x xs ys moved = IsPermutation-cons x xs ys moved
    kept_behind false x xs ys moved = moved

    kept_flipped : (b c : Bool) (x y : X) (xs : List X) → IsPermutation (cond b (x ∷ cond c (y ∷ xs) xs) (cond c (y ∷ xs) xs)) (cond c (y ∷ cond b (x ∷ xs) xs) (cond b (x ∷ xs) xs))
    kept_flipped true true x y xs = flipped x y xs
    kept_flipped true false x y xs = IsPermutation-refl (x ∷ xs)
    kept_flipped false true x y xs = IsPermutation-refl (y ∷ xs)
    kept_flipped false false x y xs = IsPermutation-refl xs

    pub IsPermutation-filter : (xs ys : List X) → IsPermutation xs ys → IsPermutation (filter p xs) (filter p ys)
    IsPermutation-filter =
        by_flips (λ xs ys. IsPermutation (filter p xs) (filter p ys)) (λ xs. IsPermutation-refl (filter p xs))
        (λ xs ys zs a b. IsPermutation-trans (filter p xs) (filter p ys) (filter p zs) a b)
        (λ x xs ys moved. kept_behind (p x) x (filter p xs) (filter p ys) moved)
        (λ x y xs. kept_flipped (p x) (p y) x y (filter p xs))

module _ {X Y : Type 0} (f : X → Option Y) where
  put_behind : (o : Option Y) (xs ys : List Y) → IsPermutation xs ys → IsPermutation (cons_option o xs) (cons_option o ys)
  put_behind None xs ys moved = moved
  put_behind (Some y) xs ys moved = IsPermutation-cons y xs ys moved

  put_flipped : (o p : Option Y) (xs : List Y) → IsPermutation (cons_option o (cons_option p xs)) (cons_option p (cons_option o xs))
  put_flipped None p xs = IsPermutation-refl (cons_option p xs)
  put_flipped (Some x) None xs = IsPermutation-refl (x ∷ xs)
  put_flipped (Some x) (Some y) xs = flipped x y xs

  pub IsPermutation-filter_map : (xs ys : List X) → IsPermutation xs ys → IsPermutation (filter_map f xs) (filter_map f ys)
  IsPermutation-filter_map =
      by_flips (λ xs ys. IsPermutation (filter_map f xs) (filter_map f ys)) (λ xs. IsPermutation-refl (filter_map f xs))
      (λ xs ys zs a b. IsPermutation-trans (filter_map f xs) (filter_map f ys) (filter_map f zs) a b)
      (λ x xs ys moved. put_behind (f x) (filter_map f xs) (filter_map f ys) moved)
      (λ x y xs. put_flipped (f x) (f y) (filter_map f xs))

module _ {X Y : Type 0} (f : X → List Y) where
  joined_flipped : (xs ys zs : List Y) → IsPermutation (xs ++ (ys ++ zs)) (ys ++ (xs ++ zs))
  joined_flipped xs ys zs =
      subst (λ l. IsPermutation l (ys ++ (xs ++ zs))) (append_assoc xs ys zs)
      (subst (λ l. IsPermutation ((xs ++ ys) ++ zs) l) (append_assoc ys xs zs)
      (IsPermutation-append_left zs (xs ++ ys) (ys ++ xs) (IsPermutation-append_comm xs ys)))

  pub IsPermutation-flat_map : (xs ys : List X) → IsPermutation xs ys → IsPermutation (flat_map f xs) (flat_map f ys)
  IsPermutation-flat_map =
      by_flips (λ xs ys. IsPermutation (flat_map f xs) (flat_map f ys)) (λ xs. IsPermutation-refl (flat_map f xs))
      (λ xs ys zs a b. IsPermutation-trans (flat_map f xs) (flat_map f ys) (flat_map f zs) a b)
      (λ x xs ys moved. IsPermutation-append_right (f x) (flat_map f xs) (flat_map f ys) moved)
      (λ x y xs. joined_flipped (f x) (f y) (flat_map f xs))

-- two tests of which no element passes both: what passes one of them, and what passes the first and then what passes the second
module _ {X : Type 0} (p q : X → Bool) (apart : (x : X) → p x ≡ true → q x ≡ false) where
  either_behind : (x : X) (b c : Bool) (xs ys zs : List X) → (b ≡ true → c ≡ false) → IsPermutation xs (ys ++ zs) → IsPermutation (cond (b || c) (x ∷ xs) xs) (cond b (x ∷ ys) ys ++ cond c (x ∷ zs) zs)
  either_behind x true true xs ys zs other moved = absurd (true≢false (other refl))
  either_behind x true false xs ys zs other moved = IsPermutation-cons x xs (ys ++ zs) moved
  either_behind x false true xs ys zs other moved =
      IsPermutation-trans (x ∷ xs) (x ∷ (ys ++ zs)) (ys ++ x ∷ zs) (IsPermutation-cons x xs (ys ++ zs) moved)
      (IsPermutation-sym (ys ++ x ∷ zs) (x ∷ (ys ++ zs)) (IsPermutation-middle ys x zs))
  either_behind x false false xs ys zs other moved = moved

  pub IsPermutation-filter_either : (xs : List X) → IsPermutation (filter (λ x. p x || q x) xs) (filter p xs ++ filter q xs)
  IsPermutation-filter_either [] = IsPermutation-refl []
  IsPermutation-filter_either (x ∷ xs) =
      either_behind x (p x) (q x) (filter (λ x. p x || q x) xs) (filter p xs) (filter q xs) (apart x) (IsPermutation-filter_either xs)

-- tests of which no element passes two
abbrev pub AreApart : {J X : Type 0} → (J → X → Bool) → List J → Type 0
AreApart t [] = ⊤
AreApart {X = X} t (j ∷ js) = ((x : X) → t j x ≡ true → list_any (λ k. t k x) js ≡ false) × AreApart t js

module _ {J X : Type 0} (t : J → X → Bool) (xs : List X) where
  none_pass : (ys : List X) → filter (λ x. false) ys ≡ []
  none_pass [] = refl
  none_pass (y ∷ ys) = none_pass ys

  -- what passes one of the tests, test by test
  pub IsPermutation-filter_by_tests : (js : List J) → AreApart t js → IsPermutation (filter (λ x. list_any (λ j. t j x) js) xs) (flat_map (λ j. filter (t j) xs) js)
  IsPermutation-filter_by_tests [] apart = same_list (filter (λ x. false) xs) [] (none_pass xs)
  IsPermutation-filter_by_tests (j ∷ js) apart =
      IsPermutation-trans (filter (λ x. t j x || list_any (λ k. t k x) js) xs) (filter (t j) xs ++ filter (λ x. list_any (λ k. t k x) js) xs) (filter (t j) xs ++ flat_map (λ k. filter (t k) xs) js)
      (IsPermutation-filter_either (t j) (λ x. list_any (λ k. t k x) js) apart.0 xs)
      (IsPermutation-append_right (filter (t j) xs) (filter (λ x. list_any (λ k. t k x) js) xs) (flat_map (λ k. filter (t k) xs) js) (IsPermutation-filter_by_tests js apart.1))

-- the same elements pass two tests that agree on them
pub filter_same : {X : Type 0} (p q : X → Bool) (xs : List X) → AllByRecursion (λ x. p x ≡ q x) xs → filter p xs ≡ filter q xs
filter_same p q [] same = refl
filter_same p q (x ∷ xs) same = λ i. cond (same.0 i) (x ∷ filter_same p q xs same.1 i) (filter_same p q xs same.1 i)

-- permutations one behind the other
pub IsPermutation-flat_map_each : {J X : Type 0} (f g : J → List X) → ((j : J) → IsPermutation (f j) (g j)) → (js : List J) → IsPermutation (flat_map f js) (flat_map g js)
IsPermutation-flat_map_each f g each [] = IsPermutation-refl []
IsPermutation-flat_map_each f g each (j ∷ js) = IsPermutation-append (f j) (g j) (flat_map f js) (flat_map g js) (each j) (IsPermutation-flat_map_each f g each js)
