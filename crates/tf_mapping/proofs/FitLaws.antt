-- The values of a document ascend by name, none is nothing, and each fits its field's type.
use Rattle.std.proofs.Common.{◌≡◌, ℕ, ℤ, Bool, true, false, cond, ◌&&◌, List, [], ◌∷◌, Option, Some, None, Result, Ok, Err, sym, ap, ◌∙◌, refl, subst}
use Rattle.std.specs.Prelude.{not, IfOk, IsSomeAnd}
use Rattle.std.specs.Cmp.Lexicographic.{slice_cmp, nat_list_eq_equiv}
use Rattle.std.specs.declared.cmp.Ordering.TheVariants.{Less}
use Rattle.std.specs.List.{filter_map, list_all, AllByRecursion, cons_option}
use Rattle.std.specs.List.Sorted.{IsStrictlySortedBy}
use Rattle.std.specs.Option.{option_map, option_and_then}
use Rattle.std.specs.Ordering.{nat_cmp, is_eq}
use Rattle.std.specs.Result.{result_ok}
use Rattle.std.specs.Str.{bytes_eq}
use Rattle.std.proofs.lemmas.Map.Text.{is_eq-slice_cmp}
use Rattle.tf_model.specs.declared.tree.Tree.{Tree}
use Rattle.tf_model.specs.declared.value.Value.{Value}
use Rattle.tf_model.specs.declared.value.Value.TheVariants as value
use Rattle.tf_model.specs.declared.query.Mapping.{Mapping}
use Rattle.tf_model.specs.declared.query.FieldType.{FieldType}
use Rattle.tf_model.specs.declared.query.FieldType.TheVariants.{Keyword, Long, Boolean, Date}
use Rattle.tf_model.specs.Paired.{is_null}
use Rattle.tf_model.specs.Rows.{fits_i64}
use Rattle.tf_model.specs.Trees.{text_in, number_in, truth_in}
use Rattle.tf_model.specs.Values.{type_at, type_of}
use Rattle.tf_time.specs.Dates.{is_date, date_of, date_of_moment, moment as moment_of_text}
use Rattle.tf_time.specs.declared.date.DateError.{DateError}
use Rattle.tf_time.specs.declared.date.DateError.TheVariants as fault
use Rattle.tf_mapping.specs.declared.error.DocError.{DocError}
use Rattle.tf_mapping.specs.declared.error.DocError.TheVariants as error
use Rattle.tf_mapping.specs.Mappings.{names, IsMapping}
use Rattle.tf_mapping.specs.Scalars.{Seen, nothing, one, many, seen_in, scalars_at}
use Rattle.tf_mapping.specs.Documents.{typed, date_text, date_by, value_by, value_from, value_found, value_beside, values_of, reading, ok_map, FitsType, FitsField, AreValues, Answers}
use Rattle.tf_mapping.proofs.DocumentLaws.{Field, Values, values_answer}

-- ---- a value that is read fits the type
keyword_fits : (field : List ℕ) (found : Option (List ℕ)) (v : Value) → typed field (option_map value.Str found) ≡ Ok v → FitsType Keyword v
keyword_fits field None v h = absurd (cc)
keyword_fits field (Some text) v h = let is : value.Str text ≡ v = cc in subst (FitsType Keyword) is tt

truth_fits : (field : List ℕ) (found : Option Bool) (v : Value) → typed field (option_map value.Bool found) ≡ Ok v → FitsType Boolean v
truth_fits field None v h = absurd (cc)
truth_fits field (Some b) v h = let is : value.Bool b ≡ v = cc in subst (FitsType Boolean) is tt

long_by : (b : Bool) (field : List ℕ) (n : ℤ) (v : Value) → fits_i64 n ≡ b → typed field (option_map value.Int (cond b (Some n) None)) ≡ Ok v → FitsType Long v
long_by true field n v fits h = let is : value.Int n ≡ v = cc in subst (FitsType Long) is fits
long_by false field n v fits h = absurd (cc)

long_fits : (field : List ℕ) (found : Option ℤ) (v : Value) → typed field (option_map value.Int (option_and_then (λ n. cond (fits_i64 n) (Some n) None) found)) ≡ Ok v → FitsType Long v
long_fits field None v h = absurd (cc)
long_fits field (Some n) v h = long_by (fits_i64 n) field n v refl h

moment_by : (b : Bool) (field : List ℕ) (ms : ℤ) (v : Value) → is_date ms ≡ b → cond b (Ok (value.Date ms)) (Err (error.OutOfRange field)) ≡ Ok v → FitsType Date v
moment_by true field ms v fits h = let is : value.Date ms ≡ v = cc in subst (FitsType Date) is fits
moment_by false field ms v fits h = absurd (cc)

in_range_by : (b : Bool) (found ms : ℤ) → is_date found ≡ b → cond b (Ok found) (Err fault.OutOfRange) ≡ Ok ms → is_date ms ≡ true
in_range_by true found ms fits h = let is : found ≡ ms = cc in subst (λ n. is_date n ≡ true) is fits
in_range_by false found ms fits h = absurd (cc)

in_range : (found : Option ℤ) (ms : ℤ) → date_of_moment found ≡ Ok ms → is_date ms ≡ true
in_range None ms h = absurd (cc)
in_range (Some found) ms h = in_range_by (is_date found) found ms refl h

text_fits : (field text : List ℕ) (found : Result ℤ DateError) (v : Value) → date_of text ≡ found → date_text field found ≡ Ok v → FitsType Date v
text_fits field text (Ok ms) v is h = let same : value.Date ms ≡ v = cc in subst (FitsType Date) same (in_range (moment_of_text text) ms is)
text_fits field text (Err fault.NotADate) v is h = absurd (cc)
text_fits field text (Err fault.OutOfRange) v is h = absurd (cc)

date_fits : (field : List ℕ) (number : Option ℤ) (text : Option (List ℕ)) (v : Value) → date_by field number text ≡ Ok v → FitsType Date v
date_fits field (Some ms) text v h = moment_by (is_date ms) field ms v refl h
date_fits field None (Some text) v h = text_fits field text (date_of text) v refl h
date_fits field None None v h = absurd (cc)

value_fits : (kind : FieldType) (field : List ℕ) (t : Tree) (v : Value) → value_by kind field t ≡ Ok v → FitsType kind v
value_fits Keyword field t v h = keyword_fits field (text_in t) v h
value_fits Long field t v h = long_fits field (number_in t) v h
value_fits Boolean field t v h = truth_fits field (truth_in t) v h
value_fits Date field t v h = date_fits field (number_in t) (text_in t) v h

one_fits : (kind : FieldType) (field : List ℕ) (t : Tree) (read : Result Value DocError) (v : Value) → value_by kind field t ≡ read
    → option_and_then (λ (x : Option Value). x) (result_ok (ok_map Some read)) ≡ Some v → FitsType kind v
one_fits kind field t (Ok found) v is h = let same : found ≡ v = cc in subst (FitsType kind) same (value_fits kind field t found is)
one_fits kind field t (Err refusal) v is h = absurd (cc)

seen_fits : (kind : FieldType) (field : List ℕ) (seen : Seen) (v : Value) → option_and_then (λ (x : Option Value). x) (result_ok (value_from kind field seen)) ≡ Some v → FitsType kind v
seen_fits kind field nothing v h = absurd (cc)
seen_fits kind field (one t) v h = one_fits kind field t (value_by kind field t) v refl h
seen_fits kind field many v h = absurd (cc)

pub found_fits : (t : Tree) (field : Field) (v : Value) → value_found t field ≡ Some v → FitsType field.1 v
found_fits t field v h = seen_fits field.1 field.0 (seen_in (scalars_at field.0 t)) v h

pub not_null : (kind : FieldType) (v : Value) → FitsType kind v → not (is_null v) ≡ true
not_null Keyword value.Null fits = absurd fits
not_null Long value.Null fits = absurd fits
not_null Boolean value.Null fits = absurd fits
not_null Date value.Null fits = absurd fits
not_null kind (value.Bool b) fits = refl
not_null kind (value.Int n) fits = refl
not_null kind (value.Date ms) fits = refl
not_null kind (value.Str text) fits = refl

-- ---- of all fields
both : (a b : Bool) → a ≡ true → b ≡ true → (a && b) ≡ true
both true true ha hb = refl
both false b ha hb = ha
both true false ha hb = hb

there_with : (t : Tree) (field : Field) (found : Option Value) (rest : Values) → value_found t field ≡ found → list_all (λ (v : List ℕ × Value). not (is_null v.1)) rest ≡ true
    → list_all (λ (v : List ℕ × Value). not (is_null v.1)) (cons_option (option_map (λ (v : Value). (field.0, v)) found) rest) ≡ true
there_with t field None rest is all = all
there_with t field (Some v) rest is all = both (not (is_null v)) (list_all (λ (w : List ℕ × Value). not (is_null w.1)) rest) (not_null field.1 v (found_fits t field v is)) all

all_there : (t : Tree) (fields : List Field) → list_all (λ (v : List ℕ × Value). not (is_null v.1)) (filter_map (value_beside t) fields) ≡ true
all_there t [] = refl
all_there t (field ∷ fields) = there_with t field (value_found t field) (filter_map (value_beside t) fields) refl (all_there t fields)

abbrev pub AreAbove : List ℕ → List (List ℕ) → Type 0
AreAbove name others = AllByRecursion (λ other. slice_cmp nat_cmp name other ≡ Less) others

above_with : (name : List ℕ) (field : Field) (found : Option Value) (rest : Values) → slice_cmp nat_cmp name field.0 ≡ Less → AreAbove name (names rest)
    → AreAbove name (names (cons_option (option_map (λ (v : Value). (field.0, v)) found) rest))
above_with name field None rest less above = above
above_with name field (Some v) rest less above = (less, above)

all_above : (name : List ℕ) (t : Tree) (fields : List Field) → AreAbove name (names fields) → AreAbove name (names (filter_map (value_beside t) fields))
all_above name t [] above = tt
all_above name t (field ∷ fields) above = above_with name field (value_found t field) (filter_map (value_beside t) fields) above.0 (all_above name t fields above.1)

sorted_with : (field : Field) (found : Option Value) (rest : Values) → AreAbove field.0 (names rest) → IsStrictlySortedBy (slice_cmp nat_cmp) (names rest)
    → IsStrictlySortedBy (slice_cmp nat_cmp) (names (cons_option (option_map (λ (v : Value). (field.0, v)) found) rest))
unfolding IsStrictlySortedBy
sorted_with field None rest above sorted = sorted
sorted_with field (Some v) rest above sorted = (above, sorted)

all_sorted : (t : Tree) (fields : List Field) → IsStrictlySortedBy (slice_cmp nat_cmp) (names fields) → IsStrictlySortedBy (slice_cmp nat_cmp) (names (filter_map (value_beside t) fields))
unfolding IsStrictlySortedBy
all_sorted t [] sorted = tt
all_sorted t (field ∷ fields) sorted =
    sorted_with field (value_found t field) (filter_map (value_beside t) fields) (all_above field.0 t fields sorted.0) (all_sorted t fields sorted.1)

-- ---- the type of a field is the one beside its name
apart : (a b : List ℕ) → slice_cmp nat_cmp a b ≡ Less → bytes_eq a b ≡ false
apart a b less = sym (is_eq-slice_cmp a b) ∙ ap is_eq less

abbrev pub AreTyped : List Field → List Field → Type 0
AreTyped all fields = AllByRecursion (λ (f : Field). type_at all f.0 ≡ Some f.1) fields

typed_behind : (first : Field) (all fields : List Field) → AreAbove first.0 (names fields) → AreTyped all fields → AreTyped (first ∷ all) fields
typed_behind first all [] above typed = tt
typed_behind first all (f ∷ fields) above typed =
    (ap (λ b. cond b (Some first.1) (type_at all f.0)) (apart first.0 f.0 above.0) ∙ typed.0, typed_behind first all fields above.1 typed.1)

pub all_typed : (fields : List Field) → IsStrictlySortedBy (slice_cmp nat_cmp) (names fields) → AreTyped fields fields
unfolding IsStrictlySortedBy
all_typed [] sorted = tt
all_typed (f ∷ fields) sorted =
    (ap (λ b. cond b (Some f.1) (type_at fields f.0)) (nat_list_eq_equiv.refl f.0), typed_behind f fields fields sorted.0 (all_typed fields sorted.1))

some_fits : (kind : FieldType) (found : Option FieldType) (v : Value) → found ≡ Some kind → FitsType kind v → IsSomeAnd found (λ k. FitsType k v)
some_fits kind found v is fits = subst (λ (o : Option FieldType). IsSomeAnd o (λ k. FitsType k v)) (sym is) fits

fit_with : (mapping : Mapping) (t : Tree) (field : Field) (found : Option Value) (rest : Values) → type_of mapping field.0 ≡ Some field.1 → value_found t field ≡ found
    → AllByRecursion (FitsField mapping) rest → AllByRecursion (FitsField mapping) (cons_option (option_map (λ (v : Value). (field.0, v)) found) rest)
fit_with mapping t field None rest type is fit = fit
fit_with mapping t field (Some v) rest type is fit = (some_fits field.1 (type_of mapping field.0) v type (found_fits t field v is), fit)

all_fit : (mapping : Mapping) (t : Tree) (fields : List Field) → AreTyped mapping.fields fields → AllByRecursion (FitsField mapping) (filter_map (value_beside t) fields)
unfolding type_of
all_fit mapping t [] typed = tt
all_fit mapping t (field ∷ fields) typed = fit_with mapping t field (value_found t field) (filter_map (value_beside t) fields) typed.0 refl (all_fit mapping t fields typed.1)

-- the values of any tree are so
pub values_are : (mapping : Mapping) (stamp : Option (List ℕ)) (t : Tree) → IsMapping mapping → AreValues mapping (values_of mapping stamp t)
unfolding values_of
values_are mapping stamp t good = record {
  ascend = all_sorted t mapping.fields good.ascend;
  there = all_there t mapping.fields;
  fit = all_fit mapping t mapping.fields (all_typed mapping.fields good.ascend);
}

ok_values : (mapping : Mapping) (stamp : Option (List ℕ)) (t : Tree) (answer : Result Values DocError) → IfOk answer (λ values. values ≡ values_of mapping stamp t) → IsMapping mapping
    → IfOk answer (AreValues mapping)
ok_values mapping stamp t (Ok values) is good = subst (AreValues mapping) (sym is) (values_are mapping stamp t good)
ok_values mapping stamp t (Err refusal) is good = tt

pub good_answer : (mapping : Mapping) (stamp : Option (List ℕ)) (t : Tree) (answer : Result Values DocError) → Answers (reading mapping stamp t) answer → IsMapping mapping → IfOk answer (AreValues mapping)
good_answer mapping stamp t answer h good = ok_values mapping stamp t answer (values_answer mapping stamp t answer h) good
