-- Values in the order of the fields of a mapping.
use Rattle.std.specs.Prelude.{ℕ, Bool, true, false, if◌then◌else◌, List, [], ◌∷◌}
use Rattle.tf_model.specs.declared.value.Value.{Value}
use Rattle.tf_model.specs.declared.value.Value.TheVariants as value
use Rattle.tf_model.specs.declared.query.FieldType.{FieldType}

-- nothing
abbrev pub is_null : Value → Bool
is_null value.Null = true
is_null _ = false

-- the values that are there, each beside its field
abbrev pub paired : List (List ℕ × FieldType) → List Value → List (List ℕ × Value)
paired fields [] = []
paired [] (v ∷ values) = []
paired (field ∷ fields) (v ∷ values) = if is_null v then paired fields values else (field.0, v) ∷ paired fields values
