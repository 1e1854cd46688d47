-- What a line is where an object is wanted.
use Rattle.std.specs.Prelude.{ℕ, List, Bool, false, Option, Some, None, is_some, if◌then◌else◌}
use Rattle.serde_json.specs.Data.{Data}
use Rattle.serde_json.specs.Find.{as_object}
use Rattle.tf_json.specs.Reading.{Reading, not_json, value_of, reading_of}

-- whether a value is an object, one with fractions included
abbrev pub is_object : Option Data → Bool
is_object None = false
is_object (Some d) = is_some (as_object d)

abbrev pub object_reading_of : Option Data → Reading
object_reading_of value = if is_object value then reading_of value else not_json

-- the reading of a line that is an object, and no JSON for any other line
abbrev pub object_reading : List ℕ → Reading
object_reading line = object_reading_of (value_of line)
