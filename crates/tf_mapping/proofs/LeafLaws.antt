-- The equations of `leaves_of`, one for each kind of tree.
use Rattle.std.proofs.Common.{◌≡◌, ℕ, ℤ, Bool, List, sym, ap, ◌∙◌}
use Rattle.tf_model.specs.declared.tree.Tree.{Tree, fold-roll-Tree}
use Rattle.tf_model.specs.declared.tree.Tree.TheOpen.{Tree-F}
use Rattle.tf_model.specs.declared.tree.Tree.TheVariants as t
use Rattle.tf_mapping.specs.Leaves.{Leaves, leaves_step, leaves_of, no_leaf, leaf_text, object_leaves, leaves_beside}

pub leaves_null : leaves_of t.Null ≡ no_leaf
unfolding leaves_of
leaves_null = ap leaves_of (sym t.rolls-Null) ∙ fold-roll-Tree Leaves leaves_step Tree-F.Null

pub leaves_bool : (b : Bool) → leaves_of (t.Bool b) ≡ no_leaf
unfolding leaves_of
leaves_bool b = ap leaves_of (sym (t.rolls-Bool b)) ∙ fold-roll-Tree Leaves leaves_step (Tree-F.Bool b)

pub leaves_num : (n : ℤ) → leaves_of (t.Num n) ≡ no_leaf
unfolding leaves_of
leaves_num n = ap leaves_of (sym (t.rolls-Num n)) ∙ fold-roll-Tree Leaves leaves_step (Tree-F.Num n)

pub leaves_str : (s : List ℕ) → leaves_of (t.Str s) ≡ leaf_text s
unfolding leaves_of
leaves_str s = ap leaves_of (sym (t.rolls-Str s)) ∙ fold-roll-Tree Leaves leaves_step (Tree-F.Str s)

pub leaves_arr : (items : List Tree) → leaves_of (t.Arr items) ≡ no_leaf
unfolding leaves_of
leaves_arr items = ap leaves_of (sym (t.rolls-Arr items)) ∙ fold-roll-Tree Leaves leaves_step (Tree-F.Arr items)

pub leaves_obj : (members : List (List ℕ × Tree)) → leaves_of (t.Obj members) ≡ object_leaves (leaves_beside members)
unfolding leaves_of
leaves_obj members = ap leaves_of (sym (t.rolls-Obj members)) ∙ fold-roll-Tree Leaves leaves_step (Tree-F.Obj members)

pub ruleset leaves = (leaves_null, leaves_bool, leaves_num, leaves_str, leaves_arr, leaves_obj)
