-- The keys by a configuration, and the one that a tree stands for.
use Rattle.std.specs.Prelude.{◌≡◌, ◌↔◌, ℤ, Bool, true, false, List, [], ◌∷◌, map, Option, Some, None, if◌then◌else◌}
use Rattle.std.specs.Option.{option_map, option_and_then}
use Rattle.tf_model.specs.declared.value.Value.{Value}
use Rattle.tf_model.specs.declared.value.Value.TheVariants as value
use Rattle.tf_model.specs.declared.value.Key.{Key}
use Rattle.tf_model.specs.declared.tree.Tree.{Tree, out-Tree}
use Rattle.tf_model.specs.declared.tree.Tree.TheOpen.{Tree-F}
use Rattle.tf_model.specs.declared.config.Config.{Config}
use Rattle.tf_model.specs.declared.config.Group.{Group}
use Rattle.tf_model.specs.declared.config.GroupKind.{GroupKind}
use Rattle.tf_model.specs.declared.config.GroupKind.TheVariants.{Terms, Histogram, DateHistogram}
use Rattle.tf_model.specs.declared.config.Shape.{Shape}
use Rattle.tf_model.specs.declared.config.Shape.TheVariants.{Pivot, Latest}
use Rattle.tf_model.specs.declared.query.Mapping.{Mapping}
use Rattle.tf_model.specs.declared.query.FieldType.{FieldType}
use Rattle.tf_model.specs.declared.query.FieldType.TheVariants.{Keyword, Long, Boolean, Date}
use Rattle.tf_model.specs.Conditions.{IsDate}
use Rattle.tf_model.specs.Keys.{key_from}
use Rattle.tf_model.specs.Trees.{text_in, number_in, truth_in, items_in}
use Rattle.tf_model.specs.Values.{type_of}
use Rattle.tf_time.specs.Dates.{is_date}
use Rattle.tf_group.specs.Ids.{id_tree}

-- the type of the values that a group makes: a histogram's are numbers, a date_histogram's dates
abbrev pub grouped_type : GroupKind → Option FieldType → Option FieldType
grouped_type Terms found = found
grouped_type (Histogram interval) found = Some Long
grouped_type (DateHistogram step) found = Some Date

-- the same by its field
abbrev pub group_type : Mapping → Group → Option FieldType
group_type fields group = grouped_type group.kind (type_of fields group.field)

-- the types of the parts by a shape
abbrev pub types_by : Mapping → Shape → List (Option FieldType)
types_by fields (Pivot groups aggs) = map (group_type fields) groups
types_by fields (Latest unique_key sort) = map (type_of fields) unique_key

-- the types of a key's parts, one for each group or field of the unique key
abbrev pub part_types : Config → Mapping → List (Option FieldType)
part_types c fields = types_by fields c.shape

-- nothing, or a value of the type, a date in range; a field that is not mapped has no values
abbrev pub IsPart : Option FieldType → Value → Type 0
IsPart type value.Null = Unit {0}
IsPart type (value.Bool b) = type ≡ Some Boolean
IsPart type (value.Int n) = type ≡ Some Long
IsPart type (value.Date ms) = (type ≡ Some Date) × IsDate ms
IsPart type (value.Str t) = type ≡ Some Keyword

-- as many parts as types, each of its own
abbrev pub AreParts : List (Option FieldType) → List Value → Type 0
AreParts [] [] = Unit {0}
AreParts [] (part ∷ parts) = ⊥
AreParts (type ∷ types) [] = ⊥
AreParts (type ∷ types) (part ∷ parts) = IsPart type part × AreParts types parts

-- a key by the configuration that prints as the tree
pub record IsKeyOf (c : Config) (fields : Mapping) (t : Tree) (k : Key) : Type 0 where
  pub parts : AreParts (part_types c fields) k.parts
  pub prints : id_tree k ≡ t

-- what is found is the one such key, and nothing where there is none
abbrev pub IsTheKey : Config → Mapping → Tree → Option Key → Type 0
IsTheKey c fields t found = (k : Key) → IsKeyOf c fields t k ↔ (found ≡ Some k)

abbrev pub null_level : Tree-F Tree → Bool
null_level Tree-F.Null = true
null_level _ = false

-- whether a tree is null
unfoldable pub is_null : Tree → Bool
is_null t = null_level (out-Tree t)

-- a date in range as a number
abbrev pub date_in : Tree → Option ℤ
date_in t = option_and_then (λ n. if is_date n then Some n else None) (number_in t)

-- the value of a type that a tree is
abbrev pub value_in : Option FieldType → Tree → Option Value
value_in None t = None
value_in (Some Boolean) t = option_map value.Bool (truth_in t)
value_in (Some Long) t = option_map value.Int (number_in t)
value_in (Some Date) t = option_map value.Date (date_in t)
value_in (Some Keyword) t = option_map value.Str (text_in t)

-- the part that a tree is
abbrev pub part_in : Option FieldType → Tree → Option Value
part_in type t = if is_null t then Some value.Null else value_in type t

-- the parts that trees are, where there are as many as types
abbrev pub parts_in : List (Option FieldType) → List Tree → Option (List Value)
parts_in [] [] = Some []
parts_in [] (t ∷ trees) = None
parts_in (type ∷ types) [] = None
parts_in (type ∷ types) (t ∷ trees) = option_and_then (λ part. option_map (λ parts. part ∷ parts) (parts_in types trees)) (part_in type t)

-- the key that a tree is
abbrev pub key_in : Config → Mapping → Tree → Option Key
key_in c fields t = option_map key_from (option_and_then (parts_in (part_types c fields)) (items_in t))
