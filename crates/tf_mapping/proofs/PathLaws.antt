-- What is left of a path behind names.
use Rattle.std.proofs.Common.{◌≡◌, ℕ, Bool, true, false, cond, ◌&&◌, List, [], ◌∷◌, ◌++◌, length, take, drop, Option, Some, None, ap, ◌∙◌, refl}
use Rattle.std.specs.Prelude.{◌==◌}
use Rattle.std.specs.Str.{bytes_eq}
use Rattle.tf_mapping.specs.Scalars.{outside, inside, after, left_from, behind, next}

-- by the front of the path and what comes after it
abbrev by_front : List ℕ → List ℕ → Option (List ℕ)
by_front name path = cond (bytes_eq (take (length name) path) name) (Some (drop (length name) path)) None

or_none : (b : Bool) (first : Bool) (rest : Option (List ℕ)) → cond b (cond first rest None) None ≡ cond (b && first) rest None
or_none true first rest = refl
or_none false first rest = refl

pub after_by_front : (name path : List ℕ) → after name path ≡ by_front name path
after_by_front [] [] = refl
after_by_front [] (c ∷ path) = refl
after_by_front (n ∷ name) [] = refl
after_by_front (n ∷ name) (c ∷ path) = ap (λ rest. cond (c == n) rest None) (after_by_front name path) ∙ or_none (c == n) (bytes_eq (take (length name) path) name) (Some (drop (length name) path))

pub behind_none : (name path : List ℕ) → bytes_eq (take (length name) path) name ≡ false → behind name path ≡ outside
behind_none name path other = ap left_from (after_by_front name path ∙ ap (λ b. cond b (Some (drop (length name) path)) None) other)

pub behind_some : (name path : List ℕ) → bytes_eq (take (length name) path) name ≡ true → behind name path ≡ left_from (Some (drop (length name) path))
behind_some name path same = ap left_from (after_by_front name path ∙ ap (λ b. cond b (Some (drop (length name) path)) None) same)

pub ruleset strips = (behind_none, behind_some)

below_dot : (b : Bool) (name rest : List ℕ) → left_from (cond b (after name rest) None) ≡ next name (cond b (inside rest) outside)
below_dot true name rest = refl
below_dot false name rest = refl

below_byte : (b : Bool) (name : List ℕ) (longer shorter : Option (List ℕ)) → left_from longer ≡ next name (left_from shorter)
    → left_from (cond b longer None) ≡ next name (left_from (cond b shorter None))
below_byte true name longer shorter same = same
below_byte false name longer shorter same = refl

-- what is left behind a longer path is what is left behind its last name
pub behind_joined : (path name field : List ℕ) → behind (path ++ 46 ∷ name) field ≡ next name (behind path field)
behind_joined [] name [] = refl
behind_joined [] name (c ∷ field) = below_dot (c == 46) name field
behind_joined (n ∷ path) name [] = refl
behind_joined (n ∷ path) name (c ∷ field) = below_byte (c == n) name (after (path ++ 46 ∷ name) field) (after path field) (behind_joined path name field)
