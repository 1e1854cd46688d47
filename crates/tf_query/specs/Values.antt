-- The values of a query, by the types of their fields.
use Rattle.std.specs.Prelude.{ℤ, Option, Some, None, if◌then◌else◌}
use Rattle.std.specs.Option.{option_map, option_and_then, option_or}
use Rattle.std.specs.Result.{result_ok}
use Rattle.tf_model.specs.declared.tree.Tree.{Tree}
use Rattle.tf_model.specs.declared.value.Value.{Value}
use Rattle.tf_model.specs.declared.value.Value.TheVariants as value
use Rattle.tf_model.specs.declared.query.FieldType.{FieldType}
use Rattle.tf_model.specs.declared.query.FieldType.TheVariants.{Keyword, Long, Boolean, Date}
use Rattle.tf_model.specs.Rows.{fits_i64}
use Rattle.tf_model.specs.Trees.{text_in, number_in, truth_in}
use Rattle.tf_time.specs.Dates.{date_of, is_date}

-- a number in i64
abbrev pub long_in : Tree → Option ℤ
long_in t = option_and_then (λ n. if fits_i64 n then Some n else None) (number_in t)

-- a date as a number of milliseconds
abbrev pub moment_in : Tree → Option ℤ
moment_in t = option_and_then (λ n. if is_date n then Some n else None) (number_in t)

-- a date as a text
abbrev pub date_text_in : Tree → Option ℤ
date_text_in t = option_and_then (λ text. result_ok (date_of text)) (text_in t)

-- a value of the type
abbrev pub value_of_type : FieldType → Tree → Option Value
value_of_type Keyword t = option_map value.Str (text_in t)
value_of_type Long t = option_map value.Int (long_in t)
value_of_type Boolean t = option_map value.Bool (truth_in t)
value_of_type Date t = option_map value.Date (option_or (moment_in t) (date_text_in t))

-- the value of a field; one that is not mapped takes any tree, which stands as nothing
abbrev pub value_by : Option FieldType → Tree → Option Value
value_by None t = Some value.Null
value_by (Some type) t = value_of_type type t
