-- The fields of a mapping as the code gathers them: the least name that is no path, and the others in their order.
use Rattle.std.specs.Prelude.{ℕ, Bool, List, [], ◌∷◌, ◌++◌, Option, Some, None, Result, Err, if◌then◌else◌}
use Rattle.tf_model.specs.declared.query.Mapping.{Mapping}
use Rattle.tf_model.specs.Names.{is_field_path}
use Rattle.tf_mapping.specs.declared.error.MappingError.{MappingError}
use Rattle.tf_mapping.specs.declared.error.MappingError.TheVariants as error
use Rattle.tf_mapping.specs.declared.gathered.Gathered.{Gathered}
use Rattle.tf_mapping.specs.Least.{lesser_text, least_text}
use Rattle.tf_mapping.specs.Leaves.{Leaf}
use Rattle.tf_mapping.specs.Settings.{has}
use Rattle.tf_mapping.specs.Mappings.{Field, put, if_typed, ill_typed}

abbrev pub nothing_gathered : Gathered
nothing_gathered = record { ill_named = None; fields = [] }

-- one field more
abbrev pub gather : Gathered → Leaf → Gathered
gather gathered leaf =
    if is_field_path leaf.0 then record { ill_named = gathered.ill_named; fields = gathered.fields ++ leaf ∷ [] }
    else record { ill_named = lesser_text gathered.ill_named leaf.0; fields = gathered.fields }

-- the mapping that they make, or the first refusal
abbrev pub reading_named : Option (List ℕ) → List Leaf → Option (List ℕ) → Result Mapping MappingError
reading_named stamp leaves (Some name) = Err (error.BadFieldName name)
reading_named stamp leaves None = if_typed stamp leaves (least_text (ill_typed leaves))

abbrev pub reading_gathered : Option (List ℕ) → Gathered → Result Mapping MappingError
reading_gathered stamp gathered = reading_named stamp gathered.fields gathered.ill_named

-- the name, where it stands among the fields before
abbrev pub name_if : Bool → List ℕ → List (List ℕ)
name_if is_there name = if is_there then name ∷ [] else []

-- the names that stand among the fields put before
abbrev pub again_among : List Field → List Field → List (List ℕ)
again_among before [] = []
again_among before (field ∷ fields) = name_if (has field.0 before) field.0 ++ again_among (put before field) fields
