-- The indices that there are, and what those of some names map.
use Rattle.std.specs.Prelude.{ℕ, List, [], ◌∷◌, Option, Some, None, if◌then◌else◌}
use Rattle.std.specs.List.{fold, filter_map, flat_map}
use Rattle.std.specs.Map.{lookup}
use Rattle.std.specs.Str.{bytes_eq}
use Rattle.tf_model.specs.declared.query.Mapping.{Mapping}
use Rattle.tf_model.specs.declared.query.FieldType.{FieldType}
use Rattle.tf_model.specs.Values.{type_of}
use Rattle.tf_mapping.specs.Mappings.{Field, put, mapping_of}
use Rattle.tf_mapping.specs.Settings.{has}

-- names with their mappings, in the order of creation
abbrev pub Indices : Type 0
Indices = List (List ℕ × Mapping)

-- the mapping of the index with a name, none where there is no such index
abbrev pub mapping_named : Indices → List ℕ → Option Mapping
mapping_named indices name = lookup (bytes_eq name) indices

-- the mappings of the sources that exist, in the order of the sources
abbrev pub mappings_of : Indices → List (List ℕ) → List Mapping
mappings_of indices sources = filter_map (mapping_named indices) sources

-- the types that mappings give a field, in their order
abbrev pub types_in : List Mapping → List ℕ → List FieldType
types_in mappings field = filter_map (λ mapping. type_of mapping field) mappings

abbrev pub first : {A : Type 0} → List A → Option A
first [] = None
first (a ∷ others) = Some a

-- the type of a field in the first mapping that has it
abbrev pub type_in : List Mapping → List ℕ → Option FieldType
type_in mappings field = first (types_in mappings field)

-- a field put among others that ascend by name, where none of them has its name
abbrev pub put_new : List Field → Field → List Field
put_new fields field = if has field.0 fields then fields else put fields field

-- each field of the mappings with its type in the first that has it, ascending by name
abbrev pub fields_in : List Mapping → Mapping
fields_in mappings = mapping_of (fold put_new [] (flat_map (λ mapping. mapping.fields) mappings))

-- each field of the sources with its type in the first source that exists and maps it
unfoldable pub fields_of : Indices → List (List ℕ) → Mapping
fields_of indices sources = fields_in (mappings_of indices sources)
