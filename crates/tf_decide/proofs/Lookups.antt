-- What is found.
use Rattle.std.proofs.Common.{◌≡◌, Bool, true, false, cond, ◌||◌, List, [], ◌∷◌, Option, Some, None, refl}
use Rattle.std.specs.Prelude.{is_some}
use Rattle.std.specs.List.{find, list_any}
use Rattle.std.specs.Option.{option_map}

by_first : {X : Type 0} (b c : Bool) (x : X) (o : Option X) → is_some o ≡ c → is_some (cond b (Some x) o) ≡ (b || c)
by_first true c x o e = refl
by_first false c x o e = e

pub some_found : {X : Type 0} (test : X → Bool) (xs : List X) → is_some (find test xs) ≡ list_any test xs
some_found test [] = refl
some_found test (x ∷ xs) = by_first (test x) (list_any test xs) x (find test xs) (some_found test xs)

pub some_mapped : {X Y : Type 0} (f : X → Y) (o : Option X) → is_some (option_map f o) ≡ is_some o
some_mapped f None = refl
some_mapped f (Some x) = refl
