-- What a tree reads as: a mapping, or the first refusal.
use Rattle.std.specs.Prelude.{◌≡◌, ℕ, ◌≤◌, nat_le, not, true, false, Bool, List, [], ◌∷◌, map, filter, length, Option, Some, None, is_some, Result, Ok, Err, IfSome, if◌then◌else◌}
use Rattle.std.specs.BTreeMap.{insert_entry}
use Rattle.std.specs.Cmp.Lexicographic.{slice_cmp}
use Rattle.std.specs.Fmt.{decimal}
use Rattle.std.specs.List.{fold, filter_map, list_all}
use Rattle.std.specs.List.Sorted.{IsStrictlySortedBy}
use Rattle.std.specs.Option.{option_map}
use Rattle.std.specs.Ordering.{nat_cmp}
use Rattle.tf_model.specs.declared.tree.Tree.{Tree}
use Rattle.tf_model.specs.declared.query.Mapping.{Mapping}
use Rattle.tf_model.specs.declared.query.FieldType.{FieldType}
use Rattle.tf_model.specs.declared.query.FieldType.TheVariants.{Date}
use Rattle.tf_model.specs.Names.{is_field_path}
use Rattle.tf_model.specs.Values.{type_of}
use Rattle.tf_mapping.specs.declared.error.MappingError.{MappingError}
use Rattle.tf_mapping.specs.declared.error.MappingError.TheVariants as error
use Rattle.tf_mapping.specs.Least.{least_text, is_one_of}
use Rattle.tf_mapping.specs.Settings.{faults_in}
use Rattle.tf_mapping.specs.Leaves.{Leaf, leaves_in}

abbrev pub Field : Type 0
Field = List ℕ × FieldType

abbrev pub names : {A : Type 0} → List (List ℕ × A) → List (List ℕ)
names fields = map (λ f. f.0) fields

-- the names that are no field paths
abbrev pub ill_named : List Leaf → List (List ℕ)
ill_named leaves = filter (λ name. not (is_field_path name)) (names leaves)

-- the names of those whose type is none of the four
abbrev pub ill_typed : List Leaf → List (List ℕ)
ill_typed leaves = names (filter (λ leaf. not (is_some leaf.1)) leaves)

-- the names that stood before, among others or one another
abbrev pub again : List (List ℕ) → List (List ℕ) → List (List ℕ)
again before [] = []
again before (name ∷ rest) = if is_one_of before name then name ∷ again (name ∷ before) rest else again (name ∷ before) rest

-- a field with its type, where it has one
abbrev pub field_of : Leaf → Option Field
field_of leaf = option_map (λ kind. (leaf.0, kind)) leaf.1

abbrev pub fields_of : List Leaf → List Field
fields_of leaves = filter_map field_of leaves

-- a field put among others that ascend by name, each name once
abbrev pub put : List Field → Field → List Field
put fields field = insert_entry (slice_cmp nat_cmp) fields field.0 field.1

abbrev pub mapping_of : List Field → Mapping
mapping_of fields = record { fields = fields }

-- the fields, ascending by name
abbrev pub mapping_from : List Field → Mapping
mapping_from fields = mapping_of (fold put [] fields)

abbrev pub is_date : Option FieldType → Bool
is_date (Some Date) = true
is_date _ = false

-- a stamp that is no date field is refused
abbrev pub if_stamped : Option (List ℕ) → Mapping → Result Mapping MappingError
if_stamped None mapping = Ok mapping
if_stamped (Some stamp) mapping = if is_date (type_of mapping stamp) then Ok mapping else Err (error.BadStamp stamp)

-- more than 64 fields are refused, and then the stamp
abbrev pub if_few : Option (List ℕ) → Mapping → Result Mapping MappingError
if_few stamp mapping = if nat_le (length mapping.fields) 64 then if_stamped stamp mapping else Err (error.TooManyFields (decimal (length mapping.fields)))

-- a name that comes again is refused, and then the number and the stamp
abbrev pub if_once : Option (List ℕ) → List Field → Option (List ℕ) → Result Mapping MappingError
if_once stamp fields (Some name) = Err (error.TwicePath name)
if_once stamp fields None = if_few stamp (mapping_from fields)

-- an unknown type is refused, and then what is above
abbrev pub if_typed : Option (List ℕ) → List Leaf → Option (List ℕ) → Result Mapping MappingError
if_typed stamp leaves (Some name) = Err (error.UnknownType name)
if_typed stamp leaves None = if_once stamp (fields_of leaves) (least_text (again [] (names (fields_of leaves))))

-- a malformed name is refused, and then what is above
abbrev pub if_named : Option (List ℕ) → List Leaf → Option (List ℕ) → Result Mapping MappingError
if_named stamp leaves (Some name) = Err (error.BadFieldName name)
if_named stamp leaves None = if_typed stamp leaves (least_text (ill_typed leaves))

-- a member outside the form is refused, and then what is above
abbrev pub if_formed : Option (List ℕ) → List Leaf → Option (List ℕ) → Result Mapping MappingError
if_formed stamp leaves (Some path) = Err (error.UnknownSetting path)
if_formed stamp leaves None = if_named stamp leaves (least_text (ill_named leaves))

-- the form first, then names, types, repeated names, the number of fields and the stamp
unfoldable pub reading : Option (List ℕ) → Tree → Result Mapping MappingError
reading stamp t = if_formed stamp (leaves_in t) (least_text (faults_in t))

-- an answer, or want of memory
abbrev pub Answers : Result Mapping MappingError → Result Mapping MappingError → Type 0
Answers wanted (Err error.Memory) = Unit {0}
Answers wanted answer = answer ≡ wanted

-- fields that ascend by name, each once, at most 64 and each well formed
pub record IsMapping (mapping : Mapping) : Type 0 where
  pub ascend : IsStrictlySortedBy (slice_cmp nat_cmp) (names mapping.fields)
  pub named : list_all (λ (f : Field). is_field_path f.0) mapping.fields ≡ true
  pub few : length mapping.fields ≤ 64

-- a stamp, where there is one, is a date of the mapping
abbrev pub IsStampOf : Mapping → Option (List ℕ) → Type 0
IsStampOf mapping stamp = IfSome stamp (λ field. type_of mapping field ≡ Some Date)
