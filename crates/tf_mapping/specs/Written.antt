-- The trees that an index keeps.
use Rattle.std.specs.Ordering.{int_eq}
use Rattle.std.specs.Prelude.{◌≡◌, ℕ, ℤ, Bool, true, false, ◌&&◌, List, Option, Some, None, is_some}
use Rattle.tf_model.specs.declared.tree.Tree.{Tree}
use Rattle.tf_model.specs.declared.value.Value.{Value}
use Rattle.tf_model.specs.declared.value.Value.TheVariants as value
use Rattle.tf_model.specs.declared.query.Mapping.{Mapping}
use Rattle.tf_model.specs.declared.query.FieldType.TheVariants.{Date}
use Rattle.tf_model.specs.Trees.{members_in}
use Rattle.tf_model.specs.Values.{value_at, type_of}
use Rattle.tf_time.specs.Dates.{is_date}
use Rattle.tf_mapping.specs.Mappings.{IsMapping}
use Rattle.tf_mapping.specs.Documents.{reads, values_of}
use Rattle.tf_mapping.specs.Stamps.{stamped}

abbrev pub is_object : Tree → Bool
is_object t = is_some (members_in t)

-- whether a value is this moment
abbrev pub is_moment : ℤ → Option Value → Bool
is_moment ms (Some (value.Date found)) = int_eq found ms
is_moment ms _ = false

-- whether the stamp, where there is one, has this moment as its value
abbrev pub has_moment : Option (List ℕ) → ℤ → List (List ℕ × Value) → Bool
has_moment None ms values = true
has_moment (Some stamp) ms values = is_moment ms (value_at values stamp)

-- whether a tree is one that an index keeps, where it was written at a moment: an object that the mapping reads, with
-- the moment as the stamp's value
unfoldable pub is_written : Mapping → Option (List ℕ) → ℤ → Tree → Bool
is_written mapping stamp ms t = is_object t && (reads mapping None t && has_moment stamp ms (values_of mapping stamp t))

-- An index keeps each document that is read with its stamp free, once the stamp is put.
abbrev pub StampedIsWritten : Type 0
StampedIsWritten = (mapping : Mapping) (stamp : List ℕ) (ms : ℤ) (t : Tree) → IsMapping mapping → type_of mapping stamp ≡ Some Date → is_date ms ≡ true
    → is_object t ≡ true → reads mapping (Some stamp) t ≡ true → is_written mapping (Some stamp) ms (stamped t stamp ms) ≡ true
