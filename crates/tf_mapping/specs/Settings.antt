-- The members of a mapping's tree that are outside the form of mappings, each by its path.
use Rattle.std.specs.Prelude.{ℕ, Bool, not, ◌&&◌, ◌||◌, List, [], ◌∷◌, ◌++◌, map, codes, Option, Some, None, if◌then◌else◌}
use Rattle.std.specs.List.{flat_map, list_any}
use Rattle.std.specs.Str.{bytes_eq}
use Rattle.tf_model.specs.declared.tree.Tree.{Tree}
use Rattle.tf_model.specs.declared.tree.Tree.TheOpen.{Tree-F}
use Rattle.tf_model.specs.declared.tree.Tree.TheFolds.{fold-Tree}
use Rattle.tf_model.specs.Trees.{members_in}

-- a path and one name more, behind a dot (46)
abbrev pub joined : List ℕ → List ℕ → List ℕ
joined path name = path ++ 46 ∷ name

abbrev pub type_name : List ℕ
type_name = codes "type"

abbrev pub properties_name : List ℕ
properties_name = codes "properties"

-- what is at fault in a tree that stands at a path, by what is to stand there
pub record Faults : Type 0 where
  pub as_properties : List ℕ → List (List ℕ)  -- an object with a property beside each name
  pub as_property : List ℕ → List (List ℕ)  -- an object with either `type` or `properties`
  pub as_type : List ℕ → List (List ℕ)  -- a text

abbrev pub alone : List ℕ → List (List ℕ)
alone path = path ∷ []

abbrev pub none_at : List ℕ → List (List ℕ)
none_at path = []

-- a tree that is no object, and not the text that a type is
abbrev pub no_object : (List ℕ → List (List ℕ)) → Faults
no_object as_type = record { as_properties = alone; as_property = alone; as_type = as_type }

-- whether one of the members has a name
abbrev pub has : {A : Type 0} → List ℕ → List (List ℕ × A) → Bool
has name members = list_any (λ m. bytes_eq m.0 name) members

-- a property has one of `type` and `properties`, and not both
abbrev pub has_one : {A : Type 0} → List (List ℕ × A) → Bool
has_one members = (has type_name members || has properties_name members) && not (has type_name members && has properties_name members)

abbrev pub fault_if_not : Bool → List ℕ → List (List ℕ)
fault_if_not good path = if good then [] else path ∷ []

-- what is at fault in a member of a property, by its name and its path
abbrev pub member_faults : List ℕ → Faults → List ℕ → List (List ℕ)
member_faults name inner path =
    if bytes_eq name type_name then inner.as_type path
    else (if bytes_eq name properties_name then inner.as_properties path
    else path ∷ [])

abbrev pub setting_faults : List ℕ → List ℕ × Faults → List (List ℕ)
setting_faults path m = member_faults m.0 m.1 (joined path m.0)

abbrev pub property_faults : List (List ℕ × Faults) → List ℕ → List (List ℕ)
property_faults members path = fault_if_not (has_one members) path ++ flat_map (setting_faults path) members

abbrev pub properties_faults : List (List ℕ × Faults) → List ℕ → List (List ℕ)
properties_faults members path = flat_map (λ m. m.1.as_property (joined path m.0)) members

abbrev pub object_faults : List (List ℕ × Faults) → Faults
object_faults members = record { as_properties = properties_faults members; as_property = property_faults members; as_type = alone }

-- one level of a tree, with what is at fault in each tree inside in its place
abbrev pub faults_step : Tree-F Faults → Faults
faults_step Tree-F.Null = no_object alone
faults_step (Tree-F.Bool b) = no_object alone
faults_step (Tree-F.Num n) = no_object alone
faults_step (Tree-F.Str s) = no_object none_at
faults_step (Tree-F.Arr items) = no_object alone
faults_step (Tree-F.Obj members) = object_faults members

unfoldable pub faults_of : Tree → Faults
faults_of = fold-Tree Faults faults_step

-- the same of the members of an object
abbrev pub faults_beside : List (List ℕ × Tree) → List (List ℕ × Faults)
faults_beside members = map (λ m. (m.0, faults_of m.1)) members

-- what is at fault in a member of a mapping, which has `properties` alone
abbrev pub top_faults : List ℕ × Tree → List (List ℕ)
top_faults m = if bytes_eq m.0 properties_name then (faults_of m.1).as_properties m.0 else m.0 ∷ []

abbrev pub faults_from : Option (List (List ℕ × Tree)) → List (List ℕ)
faults_from None = properties_name ∷ []
faults_from (Some members) = fault_if_not (has properties_name members) properties_name ++ flat_map top_faults members

-- the paths of all that is at fault in a mapping
abbrev pub faults_in : Tree → List (List ℕ)
faults_in t = faults_from (members_in t)
