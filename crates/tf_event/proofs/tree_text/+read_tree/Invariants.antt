use Rattle.std.proofs.Common.{◌≡◌, ◌++◌, ◌+◌, ◌*◌, flat_map, IsUtf8}
use Rattle.std.specs.List.{AllByRecursion}
use Rattle.tf_model.specs.Lines.{IsLineWithin, NamesAscend}
use Rattle.tf_event.proofs.PrintedTrees.{item_and_comma, member_and_comma}
use Rattle.tf_event.proofs.tree_text.+read_tree.Given as goal

abbrev pub decreases-read_tree : goal.decreases-read_tree
decreases-read_tree l = 3 * l.nesting + 1

abbrev pub decreases-read_object : goal.decreases-read_object
decreases-read_object l = 3 * l.nesting

abbrev pub decreases-read_array : goal.decreases-read_array
decreases-read_array l = 3 * l.nesting

abbrev pub decreases-read_items : goal.decreases-read_items
decreases-read_items l = 3 * l.nesting + 2

abbrev pub decreases-read_members : goal.decreases-read_members
decreases-read_members l = 3 * l.nesting + 2

-- the items so far, each with a comma behind it, and the rest
abbrev pub invariant-read_items-loop : goal.invariant-read_items-loop
invariant-read_items-loop l = (l.text ≡ flat_map item_and_comma l.items ++ l.rest) × AllByRecursion (IsLineWithin l.nesting) l.items

-- the members so far, each with a comma behind it, and the rest
abbrev pub invariant-read_members-loop : goal.invariant-read_members-loop
invariant-read_members-loop l =
    (l.text ≡ flat_map member_and_comma l.members ++ l.rest) × NamesAscend l.members
    × AllByRecursion (λ m. IsUtf8 m.0 × IsLineWithin l.nesting m.1) l.members
