-- A path with a name more, and the same without it.
use Rattle.std.proofs.Common.{◌≡◌, ℕ, ◌<◌, List, [], ◌∷◌, length, take, get_or, refl, ap, arith}
use Rattle.std.specs.Str.{IsCharBoundary}
use Rattle.std.proofs.lemmas.Str.{IsCharBoundary-before_ascii}
use Rattle.tf_mapping.specs.Settings.{joined}
use Rattle.tf_mapping.specs.Paths.{IsFront}

pub cut_joined : (path name : List ℕ) → take (length path) (joined path name) ≡ path
cut_joined [] name = refl
cut_joined (c ∷ path) name = ap (λ rest. c ∷ rest) (cut_joined path name)

dot_joined : (path name : List ℕ) → get_or (joined path name) (length path) 0 ≡ 46
dot_joined [] name = refl
dot_joined (c ∷ path) name = dot_joined path name

within_joined : (path name : List ℕ) → length path < length (joined path name)
within_joined [] name = omega arith
within_joined (c ∷ path) name = let shorter = within_joined path name in omega arith

pub front_joined : (path name : List ℕ) → IsFront (length path) (joined path name)
front_joined path name = record { within = within_joined path name; dot = dot_joined path name }

pub boundary_at_front : (path : List ℕ) (size : ℕ) → IsFront size path → IsCharBoundary path size
boundary_at_front path size front = IsCharBoundary-before_ascii path size front.within (let e = front.dot in omega arith)

pub ruleset cuts = (cut_joined, front_joined, boundary_at_front)
