-- The entries that commands ask for are taken.
use Rattle.std.proofs.Common.{◌≡◌, ℕ, zero, suc, ◌<◌, ◌≤◌, ◌≤ℤ◌, ◌^◌, ℤ, pos, Bool, true, false, cond, ◌&&◌, ◌||◌, List, [], ◌∷◌, length, Option, Some, None, arith, refl, sym, ap, ◌∙◌, subst}
use Rattle.std.specs.Prelude.{IfSome, IsSome, IsSomeAnd, is_some, option_map, slice_get}
use Rattle.std.specs.Cmp.Derive.{both_true}
use Rattle.std.specs.List.{AllByRecursion, find, list_any}
use Rattle.std.proofs.lemmas.Int.{ints}
use Rattle.std.specs.Str.{bytes_eq}
use Rattle.std.proofs.lemmas.Slice.Eq.{bytes_eq-Decides}
use Rattle.tf_model.specs.declared.config.Config.{Config}
use Rattle.tf_model.specs.declared.entry.Entry.{Entry}
use Rattle.tf_model.specs.declared.entry.Kind.{Kind}
use Rattle.tf_model.specs.declared.entry.Kind.TheVariants as kind
use Rattle.tf_model.specs.declared.query.FieldType.{FieldType}
use Rattle.tf_model.specs.declared.query.FieldType.TheVariants.{Date}
use Rattle.tf_model.specs.declared.query.Mapping.{Mapping}
use Rattle.tf_model.specs.declared.tree.Tree.{Tree}
use Rattle.tf_model.specs.Conditions.{greatest_date}
use Rattle.tf_model.specs.Names.{is_index_name, is_transform_id}
use Rattle.tf_model.specs.Trees.{members_in}
use Rattle.tf_time.specs.Dates.{is_date as is_date_of}
use Rattle.tf_model.specs.Values.{type_at, type_of}
use Rattle.tf_history.specs.Catalogue.{SourceIndex, catalogue}
use Rattle.tf_history.specs.LegalEntries.{FitsKind, MayWrite, has_date, has_id, is_date, is_free}
use Rattle.tf_history.specs.Legality as legality
use Rattle.tf_history.specs.Legality.{IsAllowed}
use Rattle.tf_history.specs.Lives.{Life, documents as written, life}
use Rattle.tf_history.specs.Meaning.{Meaning}
use Rattle.tf_history.specs.Reading.{deed_of}
use Rattle.tf_history.specs.Transforms.{PutTransform, meaning_of, transform_of, transforms}
use Rattle.tf_history.proofs.EntriesLaw.{lives_are_configured}
use Rattle.tf_mapping.specs.Documents.{reads, values_of}
use Rattle.tf_mapping.specs.Mappings.{IsMapping, IsStampOf}
use Rattle.tf_mapping.specs.Routes.{shard_of}
use Rattle.tf_mapping.specs.Written.{is_written}
use Rattle.tf_command.specs.Formed.{IsDocumentId}
use Rattle.tf_config.specs.Refusals.{passes}
use Rattle.tf_core.specs.Built.{is_built, is_built_config}
use Rattle.tf_core.specs.BuiltPast.{IsBuiltIndex}
use Rattle.tf_core.specs.Sources.{catalogued}
use Rattle.tf_core.proofs.BuiltPast.{built_past}
use Rattle.tf_core.specs.Legal.{IsTaken, IsTakenPast, read, reading}
use Rattle.tf_core.specs.Moves.{moment_after}
use Rattle.tf_decide.specs.Asking.{entry_after, kept_tree, next_seq}
use Rattle.tf_decide.proofs.Kept.{is_kept}
use Rattle.tf_decide.proofs.Lookups.{some_found}
use Rattle.tf_decide.proofs.Sound.{moment_later, moment_span}

-- an entry whose kind fits, and that is allowed and built
kind_taken : (past : List Entry) (actor : ℕ) (given : ℤ) (k : Kind) → IsTakenPast past → actor ≤ 15 → FitsKind reading past (moment_after past given) k
    → IsAllowed (moment_after past given) (deed_of values_of (catalogue past) k) (read past) → is_built k ≡ true → IsTaken past (entry_after past actor given k)
unfolding reading
kind_taken past actor given k taken few fits allowed built = record {
  legal = record { moment = moment_span past given taken; later = moment_later past given; actor = few; fits = fits; allowed = allowed };
  built = built;
}

-- ---- indices
date_there : (fields : List (List ℕ × FieldType)) (field : List ℕ) → type_at fields field ≡ Some Date → list_any (λ (f : List ℕ × FieldType). bytes_eq field f.0 && is_date f.1) fields ≡ true
date_there [] field e = absurd (let z : ◌≡◌ {A = Option FieldType} None (Some Date) = e in cc)
date_there (f ∷ fields) field e = by_name (bytes_eq f.0 field) refl e (date_there fields field)
  where
    later : (b : Bool) → list_any (λ (f : List ℕ × FieldType). bytes_eq field f.0 && is_date f.1) fields ≡ true → (b || list_any (λ (f : List ℕ × FieldType). bytes_eq field f.0 && is_date f.1) fields) ≡ true
    later true h = refl
    later false h = h

    by_name : (b : Bool) → bytes_eq f.0 field ≡ b → cond b (Some f.1) (type_at fields field) ≡ Some Date
        → (type_at fields field ≡ Some Date → list_any (λ (f : List ℕ × FieldType). bytes_eq field f.0 && is_date f.1) fields ≡ true)
        → ((bytes_eq field f.0 && is_date f.1) || list_any (λ (f : List ℕ × FieldType). bytes_eq field f.0 && is_date f.1) fields) ≡ true
    by_name true same e rest =
        let date : f.1 ≡ Date = cc in
        let name : bytes_eq field f.0 ≡ true = (bytes_eq-Decides field f.0).1 (sym ((bytes_eq-Decides f.0 field).0 same)) in
        ap (λ b. b || list_any (λ (f : List ℕ × FieldType). bytes_eq field f.0 && is_date f.1) fields) (both_true name (ap is_date date))
    by_name false same e rest = later (bytes_eq field f.0 && is_date f.1) (rest e)

stamp_there : (mapping : Mapping) (stamp : Option (List ℕ)) → IsStampOf mapping stamp → IfSome stamp (λ field. has_date mapping field ≡ true)
unfolding type_of
stamp_there mapping None is = tt
stamp_there mapping (Some field) is = date_there mapping.fields field is

pub index_taken : (past : List Entry) (actor : ℕ) (given : ℤ) (name : List ℕ) (shards : ℕ) (stamp : Option (List ℕ)) (mapping : Mapping) → IsTakenPast past → actor ≤ 15
    → is_index_name name ≡ true → is_free name past ≡ true → length (catalogue past) < 64 → 1 ≤ shards → shards ≤ 16 → IsMapping mapping → IsStampOf mapping stamp
    → IsTaken past (entry_after past actor given (kind.Index name shards mapping stamp false))
unfolding reading
index_taken past actor given name shards stamp mapping taken few named free fewer some most is stamped =
    kind_taken past actor given (kind.Index name shards mapping stamp false) taken few
    (record { well_formed = named; free = free; few = fewer; shards = (some, most); fields = is.few; field_names = is.named; ascending = is.ascend; stamp = stamp_there mapping stamp stamped; slow = refl }) tt refl

-- ---- transforms
no_life : (past : List Entry) (id : List ℕ) → transform_of id past ≡ None → life id (read past) ≡ None
no_life past id none = by_life (life id (read past)) (lives_are_configured values_of past id ∙ ap (option_map meaning_of) none)
  where
    by_life : (o : Option Life) → option_map (λ (l : Life). l.meaning) o ≡ None → o ≡ None
    by_life None e = refl
    by_life (Some l) e = absurd (let z : ◌≡◌ {A = Option Meaning} None (Some l.meaning) = sym e in cc)

none_of : (o : Option PutTransform) → is_some o ≡ false → o ≡ None
none_of None e = refl
none_of (Some p) e = absurd (let z : true ≡ false = e in cc)

pub put_taken : (past : List Entry) (actor : ℕ) (given : ℤ) (id : List ℕ) (c : Config) → IsTakenPast past → actor ≤ 15 → is_transform_id id ≡ true → is_some (transform_of id past) ≡ false
    → is_free c.dest past ≡ true → length (transforms past) < 64 → passes (catalogued (catalogue past)) c ≡ true → is_built_config c ≡ true → IsTaken past (entry_after past actor given (kind.Put id c))
unfolding reading
put_taken past actor given id c taken few named new free room checked form =
    kind_taken past actor given (kind.Put id c) taken few (record { well_formed = named; few = room; checked = checked; dest_free = free }) (no_life past id (none_of (transform_of id past) new)) form

pub start_taken : (past : List Entry) (actor : ℕ) (given : ℤ) (id : List ℕ) (l : Life) → IsTakenPast past → actor ≤ 15 → life id (read past) ≡ Some l → legality.may_start l ≡ true
    → IsTaken past (entry_after past actor given (kind.Start id))
start_taken past actor given id l taken few is may =
    kind_taken past actor given (kind.Start id) taken few tt (subst (λ o. IsSomeAnd o (λ l. legality.may_start l ≡ true)) (sym is) may) refl

-- ---- documents
none_has : (past : List Entry) (index : ℕ) (id : List ℕ) → find (has_id index id) (written (read past)) ≡ None → list_any (has_id index id) (written (read past)) ≡ false
none_has past index id none = sym (some_found (has_id index id) (written (read past))) ∙ ap is_some none

-- a document that is read with its stamp free is kept at the next moment
next_kept : (past : List Entry) (given : ℤ) (index : ℕ) (s : SourceIndex) (tree : Tree) → IsTakenPast past → slice_get (catalogue past) index ≡ Some s → IsSome (members_in tree) → reads s.mapping s.stamp tree ≡ true
    → is_written s.mapping s.stamp (moment_after past given) (kept_tree s.stamp (moment_after past given) tree) ≡ true
next_kept past given index s tree taken there object read =
    let is = index_built (catalogue past) index s (built_past past taken).each_index there in
    let span = moment_span past given taken in
    is_kept s.mapping s.stamp (moment_after past given) tree is.mapping is.stamp (span_is_date (moment_after past given) span.0 span.1) object read
  where
    index_built : (indices : List SourceIndex) (n : ℕ) (s : SourceIndex) → AllByRecursion IsBuiltIndex indices → slice_get indices n ≡ Some s → IsBuiltIndex s
    index_built [] n s all e = absurd (let z : ◌≡◌ {A = Option SourceIndex} None (Some s) = e in cc)
    index_built (i ∷ indices) zero s all e = subst IsBuiltIndex (let same : i ≡ s = cc in same) all.0
    index_built (i ∷ indices) (suc n) s all e = index_built indices n s all.1 e

    span_is_date : (ms : ℤ) → pos 0 ≤ℤ ms → ms ≤ℤ greatest_date → is_date_of ms ≡ true
    span_is_date ms low high = grind (arith, ints)

pub document_taken : (past : List Entry) (actor : ℕ) (given : ℤ) (index : ℕ) (s : SourceIndex) (shard seq : ℕ) (id : List ℕ) (tree : Tree) → IsTakenPast past → actor ≤ 15
    → slice_get (catalogue past) index ≡ Some s → shard ≡ shard_of id s.shards → seq ≡ next_seq past index shard → seq < 2 ^ 31 → IsDocumentId id
    → find (has_id index id) (written (read past)) ≡ None → IsSome (members_in tree) → reads s.mapping s.stamp tree ≡ true
    → IsTaken past (entry_after past actor given (kind.Write index shard seq id (kept_tree s.stamp (moment_after past given) tree)))
unfolding reading
document_taken past actor given index s shard seq id tree taken few there routed next room sized new object reads_it =
    kind_taken past actor given (kind.Write index shard seq id (kept_tree s.stamp (moment_after past given) tree)) taken few
    (subst (λ o. IsSomeAnd o (λ i. MayWrite reading (written (read past)) (moment_after past given) i index shard seq id (kept_tree s.stamp (moment_after past given) tree))) (sym there)
    (record { routed = routed; next = next; room = room; id_size = sized; id_new = none_has past index id new; read = next_kept past given index s tree taken there object reads_it })) tt refl
