-- What a tree is at its top.
use Rattle.std.specs.Prelude.{ℕ, ℤ, Bool, List, [], ◌∷◌, Option, Some, None, if◌then◌else◌}
use Rattle.std.specs.Option.{option_and_then}
use Rattle.std.specs.Str.{bytes_eq}
use Rattle.tf_model.specs.declared.tree.Tree.{Tree, out-Tree}
use Rattle.tf_model.specs.declared.tree.Tree.TheOpen.{Tree-F}

abbrev pub text_level : Tree-F Tree → Option (List ℕ)
text_level (Tree-F.Str s) = Some s
text_level _ = None

abbrev pub number_level : Tree-F Tree → Option ℤ
number_level (Tree-F.Num z) = Some z
number_level _ = None

abbrev pub truth_level : Tree-F Tree → Option Bool
truth_level (Tree-F.Bool b) = Some b
truth_level _ = None

abbrev pub items_level : Tree-F Tree → Option (List Tree)
items_level (Tree-F.Arr items) = Some items
items_level _ = None

abbrev pub members_level : Tree-F Tree → Option (List (List ℕ × Tree))
members_level (Tree-F.Obj members) = Some members
members_level _ = None

-- the text of a string
unfoldable pub text_in : Tree → Option (List ℕ)
text_in t = text_level (out-Tree t)

-- the number
unfoldable pub number_in : Tree → Option ℤ
number_in t = number_level (out-Tree t)

-- the truth value
unfoldable pub truth_in : Tree → Option Bool
truth_in t = truth_level (out-Tree t)

-- the items of an array
unfoldable pub items_in : Tree → Option (List Tree)
items_in t = items_level (out-Tree t)

-- the members of an object
unfoldable pub members_in : Tree → Option (List (List ℕ × Tree))
members_in t = members_level (out-Tree t)

-- what stands beside a name
abbrev pub member_at : List (List ℕ × Tree) → List ℕ → Option Tree
member_at [] name = None
member_at (member ∷ members) name = if bytes_eq member.0 name then Some member.1 else member_at members name

-- the member of an object with a name
abbrev pub member_of : Tree → List ℕ → Option Tree
member_of t name = option_and_then (λ members. member_at members name) (members_in t)
