-- Which trees a line can be, in the words of `serde_json`.
use Rattle.std.specs.Prelude.{◌≡◌, ℕ, ◌^◌, ◌<◌, List, [], ◌∷◌, IsUtf8, pos, negsuc, ⊤}
use Rattle.std.specs.Ordering.{nat_cmp}
use Rattle.std.specs.Cmp.Lexicographic.{slice_cmp}
use Rattle.std.specs.declared.cmp.Ordering.TheVariants.{Less}
use Rattle.serde_json.specs.Data.{Num, unsigned, negative, float, Data, null, boolean, number, string, array, object, Items, no_items, item, Members, no_members, member}
use Rattle.serde_json.specs.Find.{of_integer}
use Rattle.serde_json.specs.View.{items_of}
use Rattle.tf_model.specs.declared.tree.Tree.{Tree, fold-Tree}
use Rattle.tf_model.specs.declared.tree.Tree.TheOpen.{Tree-F}

-- members by their names
abbrev pub named : List (List ℕ × Data) → Members
named [] = no_members
named (m ∷ ms) = member m.0 m.1 (named ms)

-- one level of a tree, with the data of each tree in it in its place
abbrev pub data_step : Tree-F Data → Data
data_step Tree-F.Null = null
data_step (Tree-F.Bool b) = boolean b
data_step (Tree-F.Num z) = number (of_integer z)
data_step (Tree-F.Str s) = string s
data_step (Tree-F.Arr ds) = array (items_of ds)
data_step (Tree-F.Obj ms) = object (named ms)

-- the tree in the words of `serde_json`
abbrev pub data_of : Tree → Data
data_of = fold-Tree Data data_step

-- a member of a tree
abbrev pub data_member : List ℕ × Tree → List ℕ × Data
data_member m = (m.0, data_of m.1)

-- the name is less than each of these
abbrev pub IsBelow : List ℕ → Members → Type 0
IsBelow name no_members = ⊤
IsBelow name (member later d ms) = (slice_cmp nat_cmp name later ≡ Less) × IsBelow name ms

-- a number that fits an i64 or a u64
abbrev pub IsWhole : Num → Type 0
IsWhole (unsigned n) = n < 2 ^ 64
IsWhole (negative (pos n)) = ⊥
IsWhole (negative (negsuc n)) = n < 2 ^ 63
IsWhole (float x) = ⊥

abbrev mutual
  -- a value with whole numbers, texts in UTF-8 and members that ascend
  pub IsStored : Data → Type 0
  IsStored null = ⊤
  IsStored (boolean b) = ⊤
  IsStored (number n) = IsWhole n
  IsStored (string s) = IsUtf8 s
  IsStored (array ds) = AreStored ds
  IsStored (object ms) = MembersAreStored ms

  -- the same of each item
  pub AreStored : Items → Type 0
  AreStored no_items = ⊤
  AreStored (item d ds) = IsStored d × AreStored ds

  -- the same of each member, and the members ascend by name
  pub MembersAreStored : Members → Type 0
  MembersAreStored no_members = ⊤
  MembersAreStored (member name d ms) = IsUtf8 name × IsBelow name ms × IsStored d × MembersAreStored ms
