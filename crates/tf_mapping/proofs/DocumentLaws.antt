-- One field after another, and what the values of a document are.
use Rattle.std.proofs.Common.{◌≡◌, ℕ, ◌+◌, ◌<◌, List, [], ◌∷◌, ◌++◌, length, drop, get_or, suc, append_assoc, Option, Some, None, Result, Ok, Err, Bool, true, false, cond, sym, ap, ap₂, ◌∙◌, refl, subst}
use Rattle.std.specs.Prelude.{IfOk}
use Rattle.std.specs.List.{filter_map, cons_option}
use Rattle.std.specs.Option.{option_map, option_and_then}
use Rattle.std.specs.Result.{result_ok}
use Rattle.std.specs.Str.{bytes_eq}
use Rattle.std.proofs.Math.Seq.{drop-cons}
use Rattle.std.proofs.Math.Numerals.{add-one}
use Rattle.std.proofs.lemmas.List.{append-nil}
use Rattle.tf_model.specs.declared.tree.Tree.{Tree}
use Rattle.tf_model.specs.declared.value.Value.{Value}
use Rattle.tf_model.specs.declared.query.Mapping.{Mapping}
use Rattle.tf_model.specs.declared.query.FieldType.{FieldType}
use Rattle.tf_mapping.specs.declared.error.DocError.{DocError}
use Rattle.tf_mapping.specs.declared.error.DocError.TheVariants as error
use Rattle.tf_mapping.specs.Documents.{ok_map, ok_then, unstamped, value_in, field_in, fields_in, with_value, value_beside, reading, values_of, Answers}

abbrev pub Field : Type 0
Field = List ℕ × FieldType

abbrev pub Values : Type 0
Values = List (List ℕ × Value)

-- a refusal is that of all that is made of it
refused_then : {A B : Type 0} (f : A → Result B DocError) (wanted : Result A DocError) (refusal : DocError) → Answers wanted (Err refusal) → Answers (ok_then f wanted) (Err refusal)
refused_then f wanted (error.ManyValues field) h = ap (ok_then f) h
refused_then f wanted (error.WrongType field) h = ap (ok_then f) h
refused_then f wanted (error.NotADate field) h = ap (ok_then f) h
refused_then f wanted (error.OutOfRange field) h = ap (ok_then f) h
refused_then f wanted (error.Stamped field) h = ap (ok_then f) h
refused_then f wanted error.Memory h = tt

refused_map : {A B : Type 0} (f : A → B) (wanted : Result A DocError) (refusal : DocError) → Answers wanted (Err refusal) → Answers (ok_map f wanted) (Err refusal)
refused_map f wanted (error.ManyValues field) h = ap (ok_map f) h
refused_map f wanted (error.WrongType field) h = ap (ok_map f) h
refused_map f wanted (error.NotADate field) h = ap (ok_map f) h
refused_map f wanted (error.OutOfRange field) h = ap (ok_map f) h
refused_map f wanted (error.Stamped field) h = ap (ok_map f) h
refused_map f wanted error.Memory h = tt

-- the values before and those of the fields that are left are the values of all
abbrev pub IsSoFar : Option (List ℕ) → Tree → List Field → Values → ℕ → Type 0
IsSoFar stamp t fields values at = ok_map (λ rest. values ++ rest) (fields_in stamp t (drop at fields)) ≡ fields_in stamp t fields

pub refused_at : (stamp : Option (List ℕ)) (t : Tree) (fields : List Field) (values : Values) (at : ℕ) (field : Field) (refusal : DocError) → at < length fields → field ≡ get_or fields at field
    → IsSoFar stamp t fields values at → Answers (field_in stamp t field) (Err refusal) → Answers (fields_in stamp t fields) (Err refusal)
refused_at stamp t fields values at field refusal within is so_far h =
    let Wanted : Result Values DocError → Type 0 = λ wanted. Answers wanted (Err refusal) in
    let left : drop at fields ≡ field ∷ drop (suc at) fields = drop-cons fields at field within ∙ ap (λ f. f ∷ drop (suc at) fields) (sym is) in
    subst Wanted so_far
    (refused_map (λ rest. values ++ rest) (fields_in stamp t (drop at fields)) refusal
    (subst (λ rest. Answers (fields_in stamp t rest) (Err refusal)) (sym left)
    (refused_then (λ v. ok_map (with_value field.0 v) (fields_in stamp t (drop (suc at) fields))) (field_in stamp t field) refusal h)))

with_more : (values : Values) (name : List ℕ) (v : Option Value) (rest : Values) → (values ++ with_value name v []) ++ rest ≡ values ++ with_value name v rest
with_more values name None rest = ap (λ l. l ++ rest) (append-nil values)
with_more values name (Some v) rest = append_assoc values ((name, v) ∷ []) rest

map_more : (values : Values) (name : List ℕ) (v : Option Value) (rest : Result Values DocError)
    → ok_map (λ (more : Values). (values ++ with_value name v []) ++ more) rest ≡ ok_map (λ more. values ++ more) (ok_map (with_value name v) rest)
map_more values name v (Ok rest) = ap Ok (with_more values name v rest)
map_more values name v (Err refusal) = refl

pub read_at : (stamp : Option (List ℕ)) (t : Tree) (fields : List Field) (values more : Values) (at : ℕ) (field : Field) (v : Option Value) → at < length fields → field ≡ get_or fields at field
    → IsSoFar stamp t fields values at → Answers (field_in stamp t field) (Ok v) → more ≡ values ++ with_value field.0 v [] → IsSoFar stamp t fields more (at + 1)
read_at stamp t fields values more at field v within is so_far h added =
    let left : drop at fields ≡ field ∷ drop (suc at) fields = drop-cons fields at field within ∙ ap (λ f. f ∷ drop (suc at) fields) (sym is) in
    let rest : Result Values DocError = fields_in stamp t (drop (suc at) fields) in
    subst (λ n. IsSoFar stamp t fields more n) (sym (add-one at)) (
    ap (λ (l : Values). ok_map (λ rest. l ++ rest) rest) added
    ∙ map_more values field.0 v rest
    ∙ ap (λ (found : Result (Option Value) DocError). ok_map (λ rest. values ++ rest) (ok_then (λ v. ok_map (with_value field.0 v) rest) found)) h
    ∙ ap (λ l. ok_map (λ rest. values ++ rest) (fields_in stamp t l)) (sym left)
    ∙ so_far)

-- ---- what is read are the values
unstamped_value : (stamp : Option (List ℕ)) (name : List ℕ) (found v : Option Value) → unstamped stamp name found ≡ Ok v → found ≡ v
unstamped_value stamp name None v h = cc
unstamped_value None name (Some found) v h = cc
unstamped_value (Some stamp) name (Some found) v h = by_stamp (bytes_eq stamp name) h
  where
    by_stamp : (b : Bool) → cond b (Err (error.Stamped name)) (Ok (Some found)) ≡ Ok v → Some found ≡ v
    by_stamp true h = absurd (cc)
    by_stamp false h = cc

pub read_value : (stamp : Option (List ℕ)) (name : List ℕ) (found : Result (Option Value) DocError) (v : Option Value) → ok_then (unstamped stamp name) found ≡ Ok v → found ≡ Ok v
read_value stamp name (Ok found) v h = ap Ok (unstamped_value stamp name found v h)
read_value stamp name (Err refusal) v h = absurd (cc)

with_found : (name : List ℕ) (v : Option Value) (rest : Values) → cons_option (option_map (λ (w : Value). (name, w)) v) rest ≡ with_value name v rest
with_found name None rest = refl
with_found name (Some v) rest = refl

-- the parts of an answer that is no refusal
abbrev Parts : Option (List ℕ) → Tree → Field → List Field → Values → Type 0
Parts stamp t field fields values = (v : Option Value) × ((rest : Values) × ((value_in t field ≡ Ok v) × (fields_in stamp t fields ≡ Ok rest) × (values ≡ with_value field.0 v rest)))

parts_of : (stamp : Option (List ℕ)) (t : Tree) (field : Field) (fields : List Field) (values : Values) (here : Result (Option Value) DocError) (later : Result Values DocError)
    → field_in stamp t field ≡ here → fields_in stamp t fields ≡ later → ok_then (λ v. ok_map (with_value field.0 v) later) here ≡ Ok values → Parts stamp t field fields values
parts_of stamp t field fields values (Ok v) (Ok rest) is later_is h = (v, (rest, (read_value stamp field.0 (value_in t field) v is, later_is, cc)))
parts_of stamp t field fields values (Ok v) (Err refusal) is later_is h = absurd (cc)
parts_of stamp t field fields values (Err refusal) later is later_is h = absurd (cc)

values_read : (stamp : Option (List ℕ)) (t : Tree) (fields : List Field) (values : Values) → fields_in stamp t fields ≡ Ok values → values ≡ filter_map (value_beside t) fields
values_read stamp t [] values h = cc
values_read stamp t (field ∷ fields) values h =
    let parts = parts_of stamp t field fields values (field_in stamp t field) (fields_in stamp t fields) refl refl h in
    let v = parts.0 in
    let rest = parts.1.0 in
    let facts = parts.1.1 in
    facts.2 ∙ sym (with_found field.0 v rest)
    ∙ ap₂ (λ (found : Result (Option Value) DocError) (more : Values). cons_option (option_map (λ (w : Value). (field.0, w)) (option_and_then (λ (x : Option Value). x) (result_ok found))) more) (sym facts.0) (values_read stamp t fields rest facts.1)

pub values_answer : (mapping : Mapping) (stamp : Option (List ℕ)) (t : Tree) (answer : Result Values DocError) → Answers (reading mapping stamp t) answer → IfOk answer (λ values. values ≡ values_of mapping stamp t)
unfolding reading values_of
values_answer mapping stamp t (Ok values) h = values_read stamp t mapping.fields values (sym h)
values_answer mapping stamp t (Err refusal) h = tt
