-- The fields that a mapping's tree names, each with its type.
use Rattle.std.specs.Prelude.{ℕ, List, [], ◌∷◌, map, codes, Option, Some, None, if◌then◌else◌}
use Rattle.std.specs.List.{flat_map}
use Rattle.std.specs.Str.{bytes_eq}
use Rattle.tf_model.specs.declared.tree.Tree.{Tree}
use Rattle.tf_model.specs.declared.tree.Tree.TheOpen.{Tree-F}
use Rattle.tf_model.specs.declared.tree.Tree.TheFolds.{fold-Tree}
use Rattle.tf_model.specs.declared.query.FieldType.{FieldType}
use Rattle.tf_model.specs.declared.query.FieldType.TheVariants.{Keyword, Long, Boolean, Date}
use Rattle.tf_model.specs.Trees.{member_of}
use Rattle.tf_mapping.specs.Scalars.{Place, path_in}
use Rattle.tf_mapping.specs.Settings.{type_name, properties_name}

-- the type that a text names
abbrev pub type_named : List ℕ → Option FieldType
type_named text =
    if bytes_eq text (codes "keyword") then Some Keyword
    else (if bytes_eq text (codes "long") then Some Long
    else (if bytes_eq text (codes "boolean") then Some Boolean
    else (if bytes_eq text (codes "date") then Some Date
    else None)))

-- a field's path and its type, none where it is none of the four
abbrev pub Leaf : Type 0
Leaf = List ℕ × Option FieldType

-- the fields of a tree that stands at a place, by what stands there
pub record Leaves : Type 0 where
  pub as_properties : Place → List Leaf  -- those of the properties inside
  pub as_property : List ℕ → List Leaf  -- the field itself, or those inside
  pub as_type : List ℕ → List Leaf  -- the field itself

abbrev pub no_leaves : {A : Type 0} → A → List Leaf
no_leaves at = []

abbrev pub no_leaf : Leaves
no_leaf = record { as_properties = no_leaves; as_property = no_leaves; as_type = no_leaves }

-- the field of a type
abbrev pub leaf_text : List ℕ → Leaves
leaf_text text = record { as_properties = no_leaves; as_property = no_leaves; as_type = λ path. (path, type_named text) ∷ [] }

-- the fields of a member of a property
abbrev pub setting_leaves : List ℕ → List ℕ × Leaves → List Leaf
setting_leaves path m =
    if bytes_eq m.0 type_name then m.1.as_type path
    else (if bytes_eq m.0 properties_name then m.1.as_properties (Some path)
    else [])

abbrev pub properties_leaves : List (List ℕ × Leaves) → Place → List Leaf
properties_leaves members place = flat_map (λ m. m.1.as_property (path_in place m.0)) members

abbrev pub object_leaves : List (List ℕ × Leaves) → Leaves
object_leaves members = record { as_properties = properties_leaves members; as_property = λ path. flat_map (setting_leaves path) members; as_type = no_leaves }

-- one level of a tree, with the fields of each tree inside in its place
abbrev pub leaves_step : Tree-F Leaves → Leaves
leaves_step Tree-F.Null = no_leaf
leaves_step (Tree-F.Bool b) = no_leaf
leaves_step (Tree-F.Num n) = no_leaf
leaves_step (Tree-F.Str s) = leaf_text s
leaves_step (Tree-F.Arr items) = no_leaf
leaves_step (Tree-F.Obj members) = object_leaves members

unfoldable pub leaves_of : Tree → Leaves
leaves_of = fold-Tree Leaves leaves_step

-- the same of the members of an object
abbrev pub leaves_beside : List (List ℕ × Tree) → List (List ℕ × Leaves)
leaves_beside members = map (λ m. (m.0, leaves_of m.1)) members

abbrev pub leaves_from : Option Tree → List Leaf
leaves_from None = []
leaves_from (Some t) = (leaves_of t).as_properties None

-- the fields of a mapping
abbrev pub leaves_in : Tree → List Leaf
leaves_in t = leaves_from (member_of t properties_name)
