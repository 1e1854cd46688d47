-- An id is used where a document has a place.
use Rattle.std.proofs.Common.{◌≡◌, ◌+◌, Bool, true, false, List, [], ◌∷◌, Option, Some, refl, ap, ◌∙◌}
use Rattle.std.specs.Prelude.{ℕ, ◌||◌, is_some, if◌then◌else◌}
use Rattle.std.proofs.lemmas.Iterator.Adapters.{position_from-zero}
use Rattle.std.specs.List.{list_any, position, position_from}

used_by : (b : Bool) (i : ℕ) (rest : Option ℕ) (other : Bool) → is_some rest ≡ other → is_some (if b then Some i else rest) ≡ (b || other)
used_by true i rest other e = refl
used_by false i rest other e = e

used_from : {X : Type 0} (p : X → Bool) (i : ℕ) (xs : List X) → is_some (position_from p i xs) ≡ list_any p xs
used_from p i [] = refl
used_from p i (x ∷ xs) = used_by (p x) i (position_from p (i + 1) xs) (list_any p xs) (used_from p (i + 1) xs)

pub used_is : {X : Type 0} (p : X → Bool) (xs : List X) → is_some (position p xs) ≡ list_any p xs
used_is p xs = ap is_some (position_from-zero p xs) ∙ used_from p 0 xs
