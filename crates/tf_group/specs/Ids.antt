-- The text of a key.
use Rattle.std.specs.Prelude.{ℕ, List, map}
use Rattle.tf_model.specs.declared.value.Value.{Value}
use Rattle.tf_model.specs.declared.value.Value.TheVariants as value
use Rattle.tf_model.specs.declared.value.Key.{Key}
use Rattle.tf_model.specs.declared.tree.Tree.{Tree}
use Rattle.tf_model.specs.declared.tree.Tree.TheVariants as tree
use Rattle.tf_model.specs.Print.{printed}

-- a part as a tree, a date as its number
abbrev pub part_tree : Value → Tree
part_tree value.Null = tree.Null
part_tree (value.Bool b) = tree.Bool b
part_tree (value.Int n) = tree.Num n
part_tree (value.Date ms) = tree.Num ms
part_tree (value.Str t) = tree.Str t

-- the array of the parts
abbrev pub id_tree : Key → Tree
id_tree k = tree.Arr (map part_tree k.parts)

-- the same as compact text
abbrev pub id_text : Key → List ℕ
id_text k = printed (id_tree k)
