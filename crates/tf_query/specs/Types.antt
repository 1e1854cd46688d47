-- Whether a query suits fields: its values have the types of their fields, and each range has an end.
use Rattle.std.specs.Prelude.{Bool, true, false, ◌&&◌, ◌||◌, Option, Some, None, is_some}
use Rattle.tf_model.specs.declared.value.Value.{Value}
use Rattle.tf_model.specs.declared.value.Value.TheVariants as value
use Rattle.tf_model.specs.declared.query.Query.{Query}
use Rattle.tf_model.specs.declared.query.Query.TheOpen.{Query-F}
use Rattle.tf_model.specs.declared.query.Query.TheFolds.{fold-Query}
use Rattle.tf_model.specs.declared.query.Mapping.{Mapping}
use Rattle.tf_model.specs.declared.query.FieldType.{FieldType}
use Rattle.tf_model.specs.declared.query.FieldType.TheVariants.{Keyword, Long, Boolean, Date}
use Rattle.tf_model.specs.Query.{all_true}
use Rattle.tf_model.specs.Rows.{fits_i64}
use Rattle.tf_model.specs.Values.{type_of}
use Rattle.tf_time.specs.Dates.{is_date}

-- whether a value is of a type: a number in i64, a date in range
abbrev pub is_of_type : FieldType → Value → Bool
is_of_type Keyword (value.Str text) = true
is_of_type Long (value.Int n) = fits_i64 n
is_of_type Boolean (value.Bool b) = true
is_of_type Date (value.Date ms) = is_date ms
is_of_type _ _ = false

-- the same of a field's type; a field that is not mapped takes any value
abbrev pub suits : Option FieldType → Value → Bool
suits None v = true
suits (Some type) v = is_of_type type v

-- the same of an end of a range, where it is given
abbrev pub end_suits : Option FieldType → Option Value → Bool
end_suits type None = true
end_suits type (Some v) = suits type v

-- whether a range has an end
abbrev pub has_end : Option Value → Option Value → Bool
has_end low high = is_some low || is_some high

-- one level of a query, with the answer of each query inside in its place
abbrev pub suits_step : Mapping → Query-F Bool → Bool
suits_step fields Query-F.MatchAll = true
suits_step fields (Query-F.Term field v) = suits (type_of fields field) v
suits_step fields (Query-F.Exists field) = true
suits_step fields (Query-F.Range field low low_open high high_open) = has_end low high && end_suits (type_of fields field) low && end_suits (type_of fields field) high
suits_step fields (Query-F.Bool filter must_not) = all_true filter && all_true must_not

-- whether each value of a query is of its field's type, and each range has an end
unfoldable pub suits_fields : Mapping → Query → Bool
suits_fields fields = fold-Query Bool (suits_step fields)
