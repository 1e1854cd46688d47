-- What goes over from a list to the list with its first two exchanged, and keeps going over behind a front, goes over to
-- each permutation.
use Rattle.std.proofs.Common.{◌≡◌, ℕ, zero, suc, ◌<◌, List, [], ◌∷◌, length, get_or, set, swap, IsPermutation, refl, ◌∙◌, arith}
use Rattle.std.proofs.lemmas.List.Sorted.{IsPermutation-keeps}

module _ {X : Type 0} (R : List X → List X → Type 0) (same : (xs : List X) → R xs xs) (trans : (xs ys zs : List X) → R xs ys → R ys zs → R xs zs)
    (behind : (x : X) (xs ys : List X) → R xs ys → R (x ∷ xs) (x ∷ ys)) (flip : (x y : X) (xs : List X) → R (x ∷ y ∷ xs) (y ∷ x ∷ xs)) where
  -- the first in the place of another
  first_out : (x : X) (xs : List X) (j : ℕ) (d : X) → j < length xs → R (x ∷ xs) (get_or xs j d ∷ set xs j x)
  first_out x [] j d lt = absurd (omega (arith, lt))
  first_out x (y ∷ xs) zero d lt = flip x y xs
  first_out x (y ∷ xs) (suc j) d lt =
      let z = get_or xs j d in
      trans (x ∷ y ∷ xs) (y ∷ x ∷ xs) (z ∷ y ∷ set xs j x) (flip x y xs)
      (trans (y ∷ x ∷ xs) (y ∷ z ∷ set xs j x) (z ∷ y ∷ set xs j x)
      (behind y (x ∷ xs) (z ∷ set xs j x) (first_out x xs j d (omega (arith, lt))))
      (flip y z (set xs j x)))

  exchanged : (xs : List X) (i j : ℕ) (d : X) → i < length xs → j < length xs → R xs (set (set xs i (get_or xs j d)) j (get_or xs i d))
  exchanged [] i j d lt_i lt_j = absurd (omega (arith, lt_i))
  exchanged (x ∷ xs) zero zero d lt_i lt_j = same (x ∷ xs)
  exchanged (x ∷ xs) zero (suc j) d lt_i lt_j = first_out x xs j d (omega (arith, lt_j))
  exchanged (x ∷ xs) (suc i) zero d lt_i lt_j = first_out x xs i d (omega (arith, lt_i))
  exchanged (x ∷ xs) (suc i) (suc j) d lt_i lt_j = behind x xs (set (set xs i (get_or xs j d)) j (get_or xs i d)) (exchanged xs i j d (omega (arith, lt_i)) (omega (arith, lt_j)))

  swapped : (xs : List X) (i j : ℕ) → i < length xs → j < length xs → R xs (swap xs i j)
  swapped [] i j lt_i lt_j = absurd (omega (arith, lt_i))
  swapped (x ∷ xs) i j lt_i lt_j = exchanged (x ∷ xs) i j x lt_i lt_j

  pub by_flips : (xs ys : List X) → IsPermutation xs ys → R xs ys
  by_flips xs ys moved = IsPermutation-keeps xs (λ l. R xs l) (same xs) (λ l i j lt_i lt_j so_far. trans xs l (swap l i j) so_far (swapped l i j lt_i lt_j)) ys moved

-- a function that gives the same behind a front, and the same where the first two are exchanged, gives the same for permutations
pub same_by_flips : {X Y : Type 0} (f : List X → Y) → ((x : X) (xs ys : List X) → f xs ≡ f ys → f (x ∷ xs) ≡ f (x ∷ ys)) → ((x y : X) (xs : List X) → f (x ∷ y ∷ xs) ≡ f (y ∷ x ∷ xs))
    → (xs ys : List X) → IsPermutation xs ys → f xs ≡ f ys
same_by_flips f behind flip = by_flips (λ xs ys. f xs ≡ f ys) (λ xs. refl) (λ xs ys zs a b. a ∙ b) behind flip
