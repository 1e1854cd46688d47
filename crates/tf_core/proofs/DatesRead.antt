-- No date that an index reads from a tree is before the first one, so no sync value is.
use Rattle.std.proofs.Common.{◌≡◌, ℕ, ℤ, Bool, true, false, cond, List, [], ◌∷◌, filter, Option, Some, None, Result, Ok, Err, refl}
use Rattle.std.specs.Prelude.{option_map, option_and_then, slice_get}
use Rattle.std.specs.Cmp.Derive.{both_true}
use Rattle.std.specs.List.{AllByRecursion, cons_option, filter_map, list_all}
use Rattle.std.specs.Result.{result_ok}
use Rattle.std.specs.Str.{bytes_eq}
use Rattle.tf_model.specs.declared.doc.Doc.{Doc}
use Rattle.tf_model.specs.declared.config.Config.{Config}
use Rattle.tf_model.specs.declared.config.SyncTime.{SyncTime}
use Rattle.tf_model.specs.declared.entry.Entry.{Entry}
use Rattle.tf_model.specs.declared.entry.Kind.{Kind}
use Rattle.tf_model.specs.declared.entry.Kind.TheVariants as kind
use Rattle.tf_model.specs.declared.query.FieldType.{FieldType}
use Rattle.tf_model.specs.declared.query.FieldType.TheVariants.{Keyword, Long, Boolean, Date}
use Rattle.tf_model.specs.declared.tree.Tree.{Tree}
use Rattle.tf_model.specs.declared.value.Value.{Value}
use Rattle.tf_model.specs.declared.value.Value.TheVariants as value
use Rattle.tf_model.specs.Retention.{date_of}
use Rattle.tf_model.specs.Trees.{text_in, number_in, truth_in}
use Rattle.tf_model.specs.Values.{value_at, value_of}
use Rattle.tf_time.specs.Dates.{is_date, date_of_moment, moment}
use Rattle.tf_time.specs.declared.date.DateError.TheVariants as fault
use Rattle.tf_mapping.specs.declared.error.DocError.{DocError}
use Rattle.tf_mapping.specs.declared.error.DocError.TheVariants as error
use Rattle.tf_mapping.specs.Documents.{ok_map, typed, long_in, date_text, date_by, value_by, value_from, value_found, value_beside, values_of}
use Rattle.tf_mapping.specs.Scalars.{scalars_at, Seen, nothing, one, many, seen_in}
use Rattle.tf_history.specs.Catalogue.{SourceIndex, catalogue, values_in, written_doc}
use Rattle.tf_history.specs.Configured.{meaning}
use Rattle.tf_history.specs.ConfiguredLaws.{is_not_early}
use Rattle.tf_history.specs.Lives.{documents, writes, written}
use Rattle.tf_history.specs.Reading.{deed_of}
use Rattle.tf_core.specs.Legal.{read}
use Rattle.tf_core.proofs.BuiltPast.{all_append, all_weaken}
use Rattle.tf_core.proofs.Truths.{both}

-- nothing, or no date before the first one
abbrev IsNotEarly : Option Value → Type 0
IsNotEarly found = is_not_early (option_and_then date_of found) ≡ true

-- ---- the value of a field
abbrev found_in : Result Value DocError → Option Value
found_in answer = option_and_then (λ v. v) (result_ok (ok_map Some answer))

text_found : (field : List ℕ) (o : Option (List ℕ)) → IsNotEarly (found_in (typed field (option_map value.Str o)))
text_found field None = refl
text_found field (Some text) = refl

number_found : (field : List ℕ) (o : Option ℤ) → IsNotEarly (found_in (typed field (option_map value.Int o)))
number_found field None = refl
number_found field (Some n) = refl

truth_found : (field : List ℕ) (o : Option Bool) → IsNotEarly (found_in (typed field (option_map value.Bool o)))
truth_found field None = refl
truth_found field (Some b) = refl

moment_found : (field : List ℕ) (ms : ℤ) (b : Bool) → is_date ms ≡ b → IsNotEarly (found_in (cond b (Ok (value.Date ms)) (Err (error.OutOfRange field))))
moment_found field ms true is = (both _ _ is).0
moment_found field ms false is = refl

date_text_found : (field : List ℕ) (o : Option ℤ) → IsNotEarly (found_in (date_text field (date_of_moment o)))
date_text_found field None = refl
date_text_found field (Some ms) = by (is_date ms) refl
  where
    by : (b : Bool) → is_date ms ≡ b → IsNotEarly (found_in (date_text field (cond b (Ok ms) (Err fault.OutOfRange))))
    by true is = (both _ _ is).0
    by false is = refl

date_found : (field : List ℕ) (number : Option ℤ) (text : Option (List ℕ)) → IsNotEarly (found_in (date_by field number text))
date_found field (Some ms) text = moment_found field ms (is_date ms) refl
date_found field None (Some text) = date_text_found field (moment text)
date_found field None None = refl

scalar_found : (kind : FieldType) (field : List ℕ) (t : Tree) → IsNotEarly (found_in (value_by kind field t))
scalar_found Keyword field t = text_found field (text_in t)
scalar_found Long field t = number_found field (long_in t)
scalar_found Boolean field t = truth_found field (truth_in t)
scalar_found Date field t = date_found field (number_in t) (text_in t)

seen_found : (kind : FieldType) (field : List ℕ) (seen : Seen) → IsNotEarly (option_and_then (λ v. v) (result_ok (value_from kind field seen)))
seen_found kind field nothing = refl
seen_found kind field (one scalar) = scalar_found kind field scalar
seen_found kind field many = refl

-- ---- the values of a tree
either : (b : Bool) (o p : Option Value) → IsNotEarly o → IsNotEarly p → IsNotEarly (cond b o p)
either true o p here there = here
either false o p here there = there

field_read : (t : Tree) (fields : List (List ℕ × FieldType)) (field : List ℕ) → IsNotEarly (value_at (filter_map (value_beside t) fields) field)
field_read t [] field = refl
field_read t (f ∷ fields) field = by (value_found t f) (seen_found f.1 f.0 (seen_in (scalars_at f.0 t))) (field_read t fields field)
  where
    by : (o : Option Value) → IsNotEarly o → IsNotEarly (value_at (filter_map (value_beside t) fields) field)
        → IsNotEarly (value_at (cons_option (option_map (λ (v : Value). (f.0, v)) o) (filter_map (value_beside t) fields)) field)
    by None here rest = rest
    by (Some v) here rest = either (bytes_eq f.0 field) (Some v) (value_at (filter_map (value_beside t) fields) field) here rest

index_read : (o : Option SourceIndex) (t : Tree) (field : List ℕ) → IsNotEarly (value_at (values_in values_of o t) field)
unfolding values_of
index_read None t field = refl
index_read (Some s) t field = field_read t s.mapping.fields field

-- ---- the documents of a past
abbrev HasNoEarlyDate : Doc → Type 0
HasNoEarlyDate d = (field : List ℕ) → IsNotEarly (value_of d field)

doc_written : (indices : List SourceIndex) (index shard seq : ℕ) (id : List ℕ) (t : Tree) → HasNoEarlyDate (written_doc values_of indices index shard seq id t)
unfolding value_of
doc_written indices index shard seq id t field = index_read (slice_get indices index) t field

kind_writes : (indices : List SourceIndex) (k : Kind) → AllByRecursion HasNoEarlyDate (writes (deed_of values_of indices k))
kind_writes indices (kind.Write index shard seq id t) = (doc_written indices index shard seq id t, tt)
kind_writes indices (kind.Index name shards mapping stamp quick) = tt
kind_writes indices (kind.Put id config) = tt
kind_writes indices (kind.Delete id) = tt
kind_writes indices (kind.Reset id) = tt
kind_writes indices (kind.Start id) = tt
kind_writes indices (kind.StopAsked id wait) = tt
kind_writes indices (kind.Stopped id) = tt
kind_writes indices (kind.Schedule id) = tt
kind_writes indices (kind.Begin id n bound) = tt
kind_writes indices (kind.Page id n rows) = tt
kind_writes indices (kind.Finish id n) = tt
kind_writes indices (kind.Fail id n key name v) = tt

past_writes : (past : List Entry) → AllByRecursion HasNoEarlyDate (documents (read past))
past_writes [] = tt
past_writes (e ∷ past) = all_append HasNoEarlyDate (documents (read past)) (writes (deed_of values_of (catalogue past) e.kind)) (past_writes past) (kind_writes (catalogue past) e.kind)

synced : (d : Doc) → HasNoEarlyDate d → (o : Option SyncTime) → is_not_early (option_and_then date_of (option_and_then (λ (s : SyncTime). value_of d s.field) o)) ≡ true
synced d dates None = refl
synced d dates (Some sync) = dates sync.field

-- what holds of all documents holds of those that are kept
all_kept : (p q : Doc → Bool) (docs : List Doc) → AllByRecursion (λ d. p d ≡ true) docs → list_all p (filter q docs) ≡ true
all_kept p q [] all = refl
all_kept p q (d ∷ docs) all = by (q d) (all_kept p q docs all.1)
  where
    by : (b : Bool) → list_all p (filter q docs) ≡ true → list_all p (cond b (d ∷ filter q docs) (filter q docs)) ≡ true
    by true rest = both_true all.0 rest
    by false rest = rest

pub none_is_early : (past : List Entry) (sources : List ℕ) (c : Config) → list_all (λ d. is_not_early ((meaning sources c).sync d)) (written (meaning sources c) (read past)) ≡ true
none_is_early past sources c =
    all_kept (λ d. is_not_early ((meaning sources c).sync d)) (λ d. (meaning sources c).is_source d.index) (documents (read past))
    (all_weaken HasNoEarlyDate (λ d. is_not_early ((meaning sources c).sync d) ≡ true) (λ d dates. synced d dates c.sync) (documents (read past)) (past_writes past))
