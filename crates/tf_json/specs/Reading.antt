-- The tree that a line is, by the words of `serde_json`, or why it is none.
use Rattle.std.specs.Prelude.{ℕ, ◌+◌, List, [], ◌∷◌, ◌++◌, Option, Some, None, Result, Ok, Err, pos, decimal, if◌then◌else◌}
use Rattle.std.specs.Result.{result_map_both}
use Rattle.std.specs.Str.{is_utf8}
use Rattle.serde_json.specs.Data.{Num, unsigned, negative, float, Data, null, boolean, number, string, array, object, Items, no_items, item, Members, no_members, member}
use Rattle.serde_json.specs.Read.{read}
use Rattle.tf_model.specs.declared.tree.Tree.{Tree}
use Rattle.tf_model.specs.declared.tree.Tree.TheVariants as t

-- A place in a value: its path, or none for the value itself.
abbrev pub Place : Type 0
Place = Option (List ℕ)

-- a place in the part of that name
abbrev pub inside : List ℕ → Place → Place
inside part None = Some part
inside part (Some path) = Some (part ++ 46 ∷ path)

-- the text of a place, empty for the value itself
abbrev pub path_of : Place → List ℕ
path_of None = []
path_of (Some path) = path

-- a reading, or the place of the first fraction
abbrev pub Reads : Type 0 → Type 0
Reads A = Result A Place

-- what is made of what is read
abbrev pub map_reads : {A B : Type 0} → (A → B) → Reads A → Reads B
map_reads f r = result_map_both f (λ p. p) r

-- what is read of the part of that name
abbrev pub in_part : {A : Type 0} → List ℕ → Reads A → Reads A
in_part part r = result_map_both (λ a. a) (inside part) r

-- what is read next, where the first has no fraction
abbrev pub and_then : {A B : Type 0} → Reads A → (A → Reads B) → Reads B
and_then (Ok a) f = f a
and_then (Err p) f = Err p

-- a natural or a negative number as it is; another number is a fraction
abbrev pub tree_of_number : Num → Reads Tree
tree_of_number (unsigned n) = Ok (t.Num (pos n))
tree_of_number (negative z) = Ok (t.Num z)
tree_of_number (float x) = Err None

abbrev mutual
  -- the tree of a value, or its first fraction
  pub tree_of : Data → Reads Tree
  tree_of null = Ok t.Null
  tree_of (boolean b) = Ok (t.Bool b)
  tree_of (number n) = tree_of_number n
  tree_of (string s) = Ok (t.Str s)
  tree_of (array ds) = map_reads t.Arr (trees_of 0 ds)
  tree_of (object ms) = map_reads t.Obj (members_of ms)

  -- the items from that place on
  pub trees_of : ℕ → Items → Reads (List Tree)
  trees_of place no_items = Ok []
  trees_of place (item d ds) =
      and_then (in_part (decimal place) (tree_of d)) (λ x. map_reads (λ xs. x ∷ xs) (trees_of (place + 1) ds))

  -- the members in their order
  pub members_of : Members → Reads (List (List ℕ × Tree))
  members_of no_members = Ok []
  members_of (member name d ms) =
      and_then (in_part name (tree_of d)) (λ x. map_reads (λ xs. (name, x) ∷ xs) (members_of ms))

-- what a line is: no JSON, a value with its first fraction, or a tree
pub data Reading : Type 0 where
  not_json : Reading
  fraction : List ℕ → Reading
  tree : Tree → Reading

-- the reading of what was read of a value
abbrev pub reading_of_tree : Reads Tree → Reading
reading_of_tree (Ok x) = tree x
reading_of_tree (Err place) = fraction (path_of place)

-- the reading of a value, where there is one
abbrev pub reading_of : Option Data → Reading
reading_of None = not_json
reading_of (Some d) = reading_of_tree (tree_of d)

-- the value of a line, which only UTF-8 has
abbrev pub value_of : List ℕ → Option Data
value_of line = if is_utf8 line then read line else None

-- what the line is
abbrev pub reading : List ℕ → Reading
reading line = reading_of (value_of line)
