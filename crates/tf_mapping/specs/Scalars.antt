-- The scalars of a tree, each with the path where it stands.
use Rattle.std.specs.Prelude.{ℕ, ◌==◌, List, [], ◌∷◌, ◌++◌, map, filter, flat_map, Option, Some, None, if◌then◌else◌}
use Rattle.std.specs.Str.{bytes_eq}
use Rattle.tf_model.specs.declared.tree.Tree.{Tree}
use Rattle.tf_model.specs.declared.tree.Tree.TheOpen.{Tree-F}
use Rattle.tf_model.specs.declared.tree.Tree.TheFolds.{fold-Tree}
use Rattle.tf_model.specs.declared.tree.Tree.TheVariants as tree

-- the path of a place in a tree, none at its top
abbrev pub Place : Type 0
Place = Option (List ℕ)

-- the path of a member: the path of its object and its name, joined by a dot (46)
abbrev pub path_in : Place → List ℕ → List ℕ
path_in None name = name
path_in (Some path) name = path ++ 46 ∷ name

-- the scalars of a tree that stands at a place
abbrev pub Scalars : Type 0
Scalars = Place → List (List ℕ × Tree)

-- a scalar at its path; one that is the whole tree has none
abbrev pub scalar_at : Tree → Scalars
scalar_at t None = []
scalar_at t (Some path) = (path, t) ∷ []

-- one level of a tree: null has no scalar, an array has those of its items at the same path, an object has those of
-- its members at their paths, and any other tree is a scalar
abbrev pub scalars_step : Tree-F Scalars → Scalars
scalars_step Tree-F.Null place = []
scalars_step (Tree-F.Bool b) place = scalar_at (tree.Bool b) place
scalars_step (Tree-F.Num n) place = scalar_at (tree.Num n) place
scalars_step (Tree-F.Str s) place = scalar_at (tree.Str s) place
scalars_step (Tree-F.Arr items) place = flat_map (λ item. item place) items
scalars_step (Tree-F.Obj members) place = flat_map (λ m. m.1 (Some (path_in place m.0))) members

unfoldable pub scalars_in : Tree → Scalars
scalars_in = fold-Tree Scalars scalars_step

-- the scalars at one path, in their order
abbrev pub at_path : List ℕ → List (List ℕ × Tree) → List Tree
at_path path scalars = map (λ s. s.1) (filter (λ s. bytes_eq path s.0) scalars)

-- the scalars of a document at a path
abbrev pub scalars_at : List ℕ → Tree → List Tree
scalars_at path t = at_path path (scalars_in t None)

-- The same, found by following the path into the tree: what is left of it at a place.
pub data Left : Type 0 where
  outside : Left  -- it does not lead there
  here : Left  -- it ends there
  inside : List ℕ → Left  -- it goes on so below

-- what a path has behind the bytes of a name, none where it does not begin with them
abbrev pub after : List ℕ → List ℕ → Option (List ℕ)
after [] path = Some path
after (n ∷ name) [] = None
after (n ∷ name) (c ∷ path) = if c == n then after name path else None

-- nothing more, or a dot and what goes on below
abbrev pub left_from : Option (List ℕ) → Left
left_from None = outside
left_from (Some []) = here
left_from (Some (c ∷ rest)) = if c == 46 then inside rest else outside

-- what is left of a path behind a name
abbrev pub behind : List ℕ → List ℕ → Left
behind name path = left_from (after name path)

-- the same, where what is left in the object is known
abbrev pub next : List ℕ → Left → Left
next name outside = outside
next name here = outside
next name (inside rest) = behind name rest

abbrev pub Found : Type 0
Found = Left → List Tree

abbrev pub if_here : Tree → Found
if_here t outside = []
if_here t here = t ∷ []
if_here t (inside rest) = []

abbrev pub found_step : Tree-F Found → Found
found_step Tree-F.Null left = []
found_step (Tree-F.Bool b) left = if_here (tree.Bool b) left
found_step (Tree-F.Num n) left = if_here (tree.Num n) left
found_step (Tree-F.Str s) left = if_here (tree.Str s) left
found_step (Tree-F.Arr items) left = flat_map (λ item. item left) items
found_step (Tree-F.Obj members) left = flat_map (λ m. m.1 (next m.0 left)) members

unfoldable pub found_in : Tree → Found
found_in = fold-Tree Found found_step

-- how many scalars there are, as far as it matters
pub data Seen : Type 0 where
  nothing : Seen
  one : Tree → Seen
  many : Seen

abbrev pub seen_in : List Tree → Seen
seen_in [] = nothing
seen_in (t ∷ []) = one t
seen_in (t ∷ other ∷ more) = many

-- one scalar more
abbrev pub with_one : Seen → Tree → Seen
with_one nothing t = one t
with_one (one before) t = many
with_one many t = many
