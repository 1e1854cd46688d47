-- What a document reads as by a mapping: the values of its fields, or the first refusal.
use Rattle.std.specs.Prelude.{◌≡◌, ℕ, ℤ, ⊤, Bool, true, false, not, List, [], ◌∷◌, Option, Some, None, Result, Ok, Err, if◌then◌else◌, is_ok, IsSomeAnd}
use Rattle.std.specs.List.{filter_map, list_all, AllByRecursion}
use Rattle.std.specs.List.Sorted.{IsStrictlySortedBy}
use Rattle.std.specs.Cmp.Lexicographic.{slice_cmp}
use Rattle.std.specs.Ordering.{nat_cmp}
use Rattle.std.specs.Option.{option_map, option_and_then}
use Rattle.std.specs.Result.{result_ok}
use Rattle.std.specs.Str.{bytes_eq}
use Rattle.tf_model.specs.declared.tree.Tree.{Tree}
use Rattle.tf_model.specs.declared.value.Value.{Value}
use Rattle.tf_model.specs.declared.value.Value.TheVariants as value
use Rattle.tf_model.specs.declared.query.Mapping.{Mapping}
use Rattle.tf_model.specs.declared.query.FieldType.{FieldType}
use Rattle.tf_model.specs.declared.query.FieldType.TheVariants.{Keyword, Long, Boolean, Date}
use Rattle.tf_model.specs.Paired.{is_null}
use Rattle.tf_model.specs.Rows.{fits_i64}
use Rattle.tf_model.specs.Values.{type_of}
use Rattle.tf_model.specs.Trees.{text_in, number_in, truth_in}
use Rattle.tf_time.specs.Dates.{date_of, is_date}
use Rattle.tf_time.specs.declared.date.DateError.{DateError}
use Rattle.tf_time.specs.declared.date.DateError.TheVariants as fault
use Rattle.tf_mapping.specs.declared.error.DocError.{DocError}
use Rattle.tf_mapping.specs.declared.error.DocError.TheVariants as error
use Rattle.tf_mapping.specs.Mappings.{names}
use Rattle.tf_mapping.specs.Scalars.{scalars_at, Seen, nothing, one, many, seen_in}

-- what is made of an answer that is no refusal
abbrev pub ok_map : {A B : Type 0} → (A → B) → Result A DocError → Result B DocError
ok_map f (Ok a) = Ok (f a)
ok_map f (Err refusal) = Err refusal

abbrev pub ok_then : {A B : Type 0} → (A → Result B DocError) → Result A DocError → Result B DocError
ok_then f (Ok a) = f a
ok_then f (Err refusal) = Err refusal

-- a value of the field's type, or the refusal
abbrev pub typed : List ℕ → Option Value → Result Value DocError
typed field (Some v) = Ok v
typed field None = Err (error.WrongType field)

-- a number in i64
abbrev pub long_in : Tree → Option ℤ
long_in t = option_and_then (λ n. if fits_i64 n then Some n else None) (number_in t)

-- a date as a number of milliseconds
abbrev pub moment : List ℕ → ℤ → Result Value DocError
moment field ms = if is_date ms then Ok (value.Date ms) else Err (error.OutOfRange field)

-- a date as a text
abbrev pub date_text : List ℕ → Result ℤ DateError → Result Value DocError
date_text field (Ok ms) = Ok (value.Date ms)
date_text field (Err fault.NotADate) = Err (error.NotADate field)
date_text field (Err fault.OutOfRange) = Err (error.OutOfRange field)

-- a date by the number or the text that a scalar is
abbrev pub date_by : List ℕ → Option ℤ → Option (List ℕ) → Result Value DocError
date_by field (Some ms) text = moment field ms
date_by field None (Some text) = date_text field (date_of text)
date_by field None None = Err (error.WrongType field)

-- a scalar read by the field's type
abbrev pub value_by : FieldType → List ℕ → Tree → Result Value DocError
value_by Keyword field t = typed field (option_map value.Str (text_in t))
value_by Long field t = typed field (option_map value.Int (long_in t))
value_by Boolean field t = typed field (option_map value.Bool (truth_in t))
value_by Date field t = date_by field (number_in t) (text_in t)

-- the value of a field by its scalars: none of none, and one at most
abbrev pub value_from : FieldType → List ℕ → Seen → Result (Option Value) DocError
value_from kind field nothing = Ok None
value_from kind field (one scalar) = ok_map Some (value_by kind field scalar)
value_from kind field many = Err (error.ManyValues field)

-- what a field finds in a document
abbrev pub value_in : Tree → List ℕ × FieldType → Result (Option Value) DocError
value_in t field = value_from field.1 field.0 (seen_in (scalars_at field.0 t))

-- a value at the stamp's path is refused
abbrev pub unstamped : Option (List ℕ) → List ℕ → Option Value → Result (Option Value) DocError
unstamped stamp field None = Ok None
unstamped None field (Some v) = Ok (Some v)
unstamped (Some stamp) field (Some v) = if bytes_eq stamp field then Err (error.Stamped field) else Ok (Some v)

-- the value of a field, or the first refusal of it
abbrev pub field_in : Option (List ℕ) → Tree → List ℕ × FieldType → Result (Option Value) DocError
field_in stamp t field = ok_then (unstamped stamp field.0) (value_in t field)

-- a value before others, where there is one
abbrev pub with_value : List ℕ → Option Value → List (List ℕ × Value) → List (List ℕ × Value)
with_value field None values = values
with_value field (Some v) values = (field, v) ∷ values

-- the values of fields in their order, or the first refusal
abbrev pub fields_in : Option (List ℕ) → Tree → List (List ℕ × FieldType) → Result (List (List ℕ × Value)) DocError
fields_in stamp t [] = Ok []
fields_in stamp t (field ∷ fields) = ok_then (λ v. ok_map (with_value field.0 v) (fields_in stamp t fields)) (field_in stamp t field)

-- what a document reads as; the stamp's own field, where there is one, is to have no value
unfoldable pub reading : Mapping → Option (List ℕ) → Tree → Result (List (List ℕ × Value)) DocError
reading mapping stamp t = fields_in stamp t mapping.fields

-- whether a mapping reads a document
unfoldable pub reads : Mapping → Option (List ℕ) → Tree → Bool
reads mapping stamp t = is_ok (reading mapping stamp t)

-- the value of a field in any document: none where it is refused too
abbrev pub value_found : Tree → List ℕ × FieldType → Option Value
value_found t field = option_and_then (λ v. v) (result_ok (value_in t field))

abbrev pub value_beside : Tree → List ℕ × FieldType → Option (List ℕ × Value)
value_beside t field = option_map (λ v. (field.0, v)) (value_found t field)

-- The values of any tree, in the order of the mapping's fields. The stamp is one of its dates and is read as any other.
unfoldable pub values_of : Mapping → Option (List ℕ) → Tree → List (List ℕ × Value)
values_of mapping stamp t = filter_map (value_beside t) mapping.fields

-- ---- what the values of a document are

-- a value of a type: a number in i64, a date in range
abbrev pub FitsType : FieldType → Value → Type 0
FitsType Keyword (value.Str text) = ⊤
FitsType Long (value.Int n) = fits_i64 n ≡ true
FitsType Boolean (value.Bool b) = ⊤
FitsType Date (value.Date ms) = is_date ms ≡ true
FitsType _ _ = ⊥

-- a value that is there fits the field's type
abbrev pub FitsField : Mapping → List ℕ × Value → Type 0
FitsField mapping v = IsSomeAnd (type_of mapping v.0) (λ kind. FitsType kind v.1)

-- the values ascend by name, none is nothing, and each fits its field's type
pub record AreValues (mapping : Mapping) (values : List (List ℕ × Value)) : Type 0 where
  pub ascend : IsStrictlySortedBy (slice_cmp nat_cmp) (names values)
  pub there : list_all (λ (v : List ℕ × Value). not (is_null v.1)) values ≡ true
  pub fit : AllByRecursion (FitsField mapping) values

-- an answer, or want of memory
abbrev pub Answers : {A : Type 0} → Result A DocError → Result A DocError → Type 0
Answers wanted (Err error.Memory) = Unit {0}
Answers wanted answer = answer ≡ wanted

-- the refusal that was meant, or want of memory
abbrev pub Refuses : DocError → DocError → Type 0
Refuses wanted error.Memory = Unit {0}
Refuses wanted refusal = refusal ≡ wanted
