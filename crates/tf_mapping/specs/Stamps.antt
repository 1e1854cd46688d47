-- The stamp of a written document.
use Rattle.std.specs.Prelude.{ℕ, ℤ, List, [], unwrap_or}
use Rattle.std.specs.BTreeMap.{insert_entry}
use Rattle.std.specs.Cmp.Lexicographic.{slice_cmp}
use Rattle.std.specs.Ordering.{nat_cmp}
use Rattle.tf_model.specs.declared.tree.Tree.{Tree}
use Rattle.tf_model.specs.declared.tree.Tree.TheVariants as tree
use Rattle.tf_model.specs.Trees.{members_in}

-- the members with one at its place in the order, which replaces a member of its name
abbrev pub with_member : List (List ℕ × Tree) → List ℕ → Tree → List (List ℕ × Tree)
with_member members name t = insert_entry (slice_cmp nat_cmp) members name t

-- a document with the moment beside the stamp's whole path at its top
unfoldable pub stamped : Tree → List ℕ → ℤ → Tree
stamped t path ms = tree.Obj (with_member (unwrap_or (members_in t) []) path (tree.Num ms))
