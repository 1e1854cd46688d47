-- Objects, whose members stand ascending by name, each name once.
use Rattle.std.specs.Prelude.{ℕ, ℤ, pos, List, [], ◌∷◌, ◌++◌, codes, IsUtf8}
use Rattle.std.specs.BTreeMap.{insert_entry}
use Rattle.std.specs.Cmp.Lexicographic.{slice_cmp}
use Rattle.std.specs.List.{AllByRecursion}
use Rattle.std.specs.Option.{MatchOption}
use Rattle.std.specs.Ordering.{nat_cmp}
use Rattle.tf_model.specs.declared.tree.Tree.{Tree}
use Rattle.tf_model.specs.declared.tree.Tree.TheVariants as tree
use Rattle.tf_model.specs.Lines.{IsLineWithin, NamesAscend}
use Rattle.tf_model.specs.Trees.{members_in}

abbrev pub Member : Type 0
Member = List ℕ × Tree

abbrev pub text : List ℕ → List ℕ → Member
text name value = (name, tree.Str value)

abbrev pub number : List ℕ → ℤ → Member
number name n = (name, tree.Num n)

abbrev pub count : List ℕ → ℕ → Member
count name n = number name (pos n)

-- the members with one more at its place by name, where it stands in the place of one of its name
abbrev pub with_member : List Member → Member → List Member
with_member members m = insert_entry (slice_cmp nat_cmp) members m.0 m.1

-- the members ascending by name
abbrev pub by_name : List Member → List Member
by_name [] = []
by_name (m ∷ members) = with_member (by_name members) m

unfoldable pub object : List Member → Tree
object members = tree.Obj (by_name members)

-- a reply's object: beside its own members, the number of its line, and how many entries the history had then
abbrev pub placed : ℕ → ℕ → List Member → Tree
placed line entries members = object (members ++ count (codes "line") line ∷ count (codes "no") entries ∷ [])

-- ---- what holds of objects
-- an object whose members ascend by name, each name once
abbrev pub HasOrderedNames : Tree → Type 0
HasOrderedNames t = MatchOption (members_in t) ⊥ NamesAscend

-- members whose trees can stand in a line, with arrays and objects nesting at most so deep
abbrev pub AreLines : ℕ → List Member → Type 0
AreLines nesting members = AllByRecursion (λ m. IsUtf8 m.0 × IsLineWithin nesting m.1) members
