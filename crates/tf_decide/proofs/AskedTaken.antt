-- The entries that a command asks for are taken one after the other.
use Rattle.std.proofs.Common.{◌≡◌, ℕ, ◌<◌, ◌≤◌, ◌^◌, ℤ, pos, negsuc, zero, suc, Bool, true, false, cond, ◌&&◌, not, List, [], ◌∷◌, ◌++◌, length, Option, Some, None, arith, refl, sym, ap, subst}
use Rattle.std.specs.Prelude.{Result, Ok, Err, int_le, is_ok, is_some, nat_le, nat_lt, slice_get}
use Rattle.std.specs.List.{AllByRecursion, find}
use Rattle.std.specs.Option.{option_map}
use Rattle.std.specs.Cmp.Derive.{both_true}
use Rattle.std.proofs.lemmas.Bool.{and_parts}
use Rattle.std.proofs.lemmas.Int.{ints}
use Rattle.std.proofs.lemmas.List.Elements.{recursion_from_All}
use Rattle.tf_model.specs.declared.config.Config.{Config}
use Rattle.tf_model.specs.declared.doc.Doc.{Doc}
use Rattle.tf_model.specs.declared.entry.Entry.{Entry}
use Rattle.tf_model.specs.declared.query.Mapping.{Mapping}
use Rattle.tf_model.specs.declared.task.State.{State}
use Rattle.tf_model.specs.declared.task.State.TheVariants as state
use Rattle.tf_model.specs.declared.tree.Tree.{Tree}
use Rattle.tf_model.specs.declared.value.Key.{Key}
use Rattle.tf_model.specs.declared.value.Value.{Value}
use Rattle.tf_model.specs.Names.{is_index_name, is_transform_id}
use Rattle.tf_command.specs.declared.command.Op.{Op}
use Rattle.tf_command.specs.declared.command.Op.TheVariants as op
use Rattle.tf_command.specs.Formed.{IsDocument, IsDocumentId, IsFormedOp, IsObject}
use Rattle.tf_config.specs.declared.error.ConfigError.{ConfigError}
use Rattle.tf_config.specs.Reading as configs
use Rattle.tf_config.specs.Refusals.{passes}
use Rattle.tf_config.proofs.ReadLaws.{read_passes}
use Rattle.tf_mapping.specs.Documents as documents
use Rattle.tf_mapping.specs.Documents.{reads}
use Rattle.tf_mapping.specs.declared.error.DocError.{DocError}
use Rattle.tf_mapping.specs.declared.error.MappingError.{MappingError}
use Rattle.tf_mapping.specs.Mappings as mappings
use Rattle.tf_mapping.specs.Mappings.{IsMapping, IsStampOf}
use Rattle.tf_mapping.proofs.MappingLaws.{good_answer, stamped_answer}
use Rattle.tf_reply.specs.declared.faults.Refusal.{Refusal}
use Rattle.tf_reply.specs.declared.faults.Refusal.TheVariants as refusal
use Rattle.tf_reply.specs.declared.faults.Limit.TheVariants as limit
use Rattle.tf_reply.specs.Refusals.{config_refusal, mapping_refusal}
use Rattle.tf_history.specs.Catalogue.{SourceIndex, catalogue, makes, number_of}
use Rattle.tf_history.specs.LegalEntries.{has_id, is_free}
use Rattle.tf_history.specs.Legality as legality
use Rattle.tf_history.specs.Lives.{Life, documents as written, life}
use Rattle.tf_history.specs.Transforms.{PutTransform, transform_of, transforms}
use Rattle.tf_core.specs.Built.{is_built_config}
use Rattle.tf_core.specs.Lookups.{is_into}
use Rattle.tf_core.specs.Legal.{AreTaken, IsTaken, IsTakenPast, read}
use Rattle.tf_core.specs.Sources.{catalogued}
use Rattle.tf_decide.specs.declared.asked.Asked.{Asked}
use Rattle.tf_decide.specs.Asking as spec
use Rattle.tf_decide.proofs.TakenEntries.{document_taken, index_taken, put_taken, start_taken}

abbrev Asks : List Entry → Asked → Type 0
Asks past a = AreTaken past a.entries

-- ---- tests
by_test : (P : Asked → Type 0) (b : Bool) (x y : Asked) → (b ≡ true → P x) → (b ≡ false → P y) → P (cond b x y)
by_test P true x y h g = h refl
by_test P false x y h g = g refl

not_false : (b : Bool) → not b ≡ false → b ≡ true
not_false true e = refl
not_false false e = absurd (let z : true ≡ false = e in cc)

fewer : (n : ℕ) → nat_le 64 n ≡ false → n < 64
fewer n e = grind arith

below : (n : ℕ) → nat_lt n (2 ^ 31) ≡ true → n < 2 ^ 31
below n e = grind arith

-- ---- indices
count_between : (shards : ℤ) (count : ℕ) → spec.some_count shards ≡ Some count → (1 ≤ count) × (count ≤ 16)
count_between shards count e = by_range (int_le (pos 1) shards && int_le shards (pos 16)) refl e
  where
    number : (z : ℤ) → (int_le (pos 1) z && int_le z (pos 16)) ≡ true → (1 ≤ spec.count_of z) × (spec.count_of z ≤ 16)
    number (pos n) e = let parts = and_parts (int_le (pos 1) (pos n)) (int_le (pos n) (pos 16)) e in (grind (arith, ints), grind (arith, ints))
    number (negsuc n) e = absurd (let z : false ≡ true = e in cc)

    by_range : (b : Bool) → (int_le (pos 1) shards && int_le shards (pos 16)) ≡ b → cond b (Some (spec.count_of shards)) None ≡ Some count → (1 ≤ count) × (count ≤ 16)
    by_range true f e = let same : spec.count_of shards ≡ count = cc in subst (λ n. (1 ≤ n) × (n ≤ 16)) same (number shards f)
    by_range false f e = absurd (let z : ◌≡◌ {A = Option ℕ} None (Some count) = e in cc)

module _ (past : List Entry) (actor : ℕ) (given : ℤ) (taken : IsTakenPast past) (few : actor ≤ 15) where
  index_is : (name : List ℕ) (shards : ℤ) (stamp : Option (List ℕ)) (mapping : Mapping) → is_index_name name ≡ true → IsMapping mapping → IsStampOf mapping stamp
      → Asks past (spec.index_with past actor given name shards stamp mapping)
  index_is name shards stamp mapping named is stamped =
      by_test (Asks past) (not (is_free name past)) _ _ (λ used. tt) (λ free.
      by_test (Asks past) (nat_le 64 (length (catalogue past))) _ _ (λ full. tt) (λ room.
      by_count (spec.some_count shards) refl free room))
    where
      by_count : (o : Option ℕ) → spec.some_count shards ≡ o → not (is_free name past) ≡ false → nat_le 64 (length (catalogue past)) ≡ false → Asks past (spec.index_sharded past actor given name o stamp mapping)
      by_count None e free room = tt
      by_count (Some count) e free room =
          let between = count_between shards count e in
          (index_taken past actor given name count stamp mapping taken few named (not_false (is_free name past) free) (fewer (length (catalogue past)) room) between.0 between.1 is stamped, tt)

  refused_asked : (o : Option Refusal) → Asks past (spec.refused_by o)
  refused_asked None = tt
  refused_asked (Some r) = tt

  index_asked : (name : List ℕ) (tree : Tree) (shards : ℤ) (stamp : Option (List ℕ)) → Asks past (spec.asked_index past actor given name tree shards stamp)
  index_asked name tree shards stamp = by_test (Asks past) (is_index_name name) _ _ (λ named. by_reading (mappings.reading stamp tree) refl named) (λ bad. tt)
    where
      by_reading : (r : Result Mapping MappingError) → mappings.reading stamp tree ≡ r → is_index_name name ≡ true → Asks past (spec.index_by past actor given name shards stamp r)
      by_reading (Ok mapping) e named = index_is name shards stamp mapping named (good_answer stamp tree (Ok mapping) (sym e)) (stamped_answer stamp tree (Ok mapping) (sym e))
      by_reading (Err error) e named = refused_asked (mapping_refusal error)

  -- ---- transforms
  put_is : (id : List ℕ) (c : Config) → is_transform_id id ≡ true → is_some (transform_of id past) ≡ false → passes (catalogued (catalogue past)) c ≡ true → Asks past (spec.put_with past actor given id c)
  put_is id c named new checked =
      by_test (Asks past) (not (is_free c.dest past)) _ _ (λ used. tt) (λ free.
      by_test (Asks past) (nat_le 64 (length (transforms past))) _ _ (λ full. tt) (λ room.
      by_test (Asks past) (is_built_config c) _ _
      (λ form. (put_taken past actor given id c taken few named new (not_false (is_free c.dest past) free) (fewer (length (transforms past)) room) checked form, tt))
      (λ other. tt)))

  put_read : (id : List ℕ) (tree : Tree) (r : Result Config ConfigError) → configs.reading (catalogued (catalogue past)) true tree ≡ r → is_transform_id id ≡ true
      → is_some (transform_of id past) ≡ false → Asks past (spec.put_by past actor given id r)
  put_read id tree (Ok c) is named new = put_is id c named new (read_passes (catalogued (catalogue past)) tree c (sym is))
  put_read id tree (Err error) is named new = refused_asked (config_refusal error)

  put_asked : (id : List ℕ) (tree : Tree) → Asks past (spec.asked_put past actor given id tree)
  put_asked id tree =
      by_test (Asks past) (is_transform_id id) _ _
      (λ named. by_test (Asks past) (is_some (transform_of id past)) _ _ (λ used. tt) (λ new. put_read id tree (configs.reading (catalogued (catalogue past)) true tree) refl named new))
      (λ bad. tt)

  start_is : (id : List ℕ) (l : Life) (s : State) (over : Bool) → life id (read past) ≡ Some l → l.state ≡ s → legality.is_over l ≡ over → Asks past (spec.start_by past actor given id s over)
  start_is id l state.Stopped true there stands over = tt
  start_is id l state.Stopped false there stands over =
      (start_taken past actor given id l taken few there (both_true (ap legality.is_stopped stands) (ap not over)), tt)
  start_is id l state.Failed done there stands over = tt
  start_is id l state.Started done there stands over = tt
  start_is id l state.Indexing done there stands over = tt
  start_is id l state.Stopping done there stands over = tt

  start_there : (id : List ℕ) (o : Option Life) → life id (read past) ≡ o → Asks past (spec.start_of past actor given id (option_map spec.standing_of o))
  start_there id None there = tt
  start_there id (Some l) there = start_is id l l.state (legality.is_over l) there refl refl

  start_asked : (id : List ℕ) → Asks past (spec.asked_start past actor given id)
  start_asked id = by_test (Asks past) (is_transform_id id) _ _ (λ named. start_there id (life id (read past)) refl) (λ bad. tt)

  search_asked : (name : List ℕ) (size : ℕ) (after : Option Tree) → Asks past (spec.asked_search past name size after)
  search_asked name size after = by_test (Asks past) (spec.may_be_searched past name) _ _ (λ may. by_dest (find (is_into name) (transforms past))) (λ bad. tt)
    where
      by_key : (o : Option Key) → Asks past (spec.shows_above name size o)
      by_key None = tt
      by_key (Some key) = tt

      by_after : (c : Config) (o : Option Tree) → Asks past (spec.search_by past name size c o)
      by_after c None = tt
      by_after c (Some array) = by_key (spec.key_after past c array)

      by_dest : (o : Option PutTransform) → Asks past (spec.search_in past name size after o)
      by_dest None = tt
      by_dest (Some p) = by_after p.config after

-- ---- documents
-- what an accepted document tells of the tests
pub record Passed (r : Result (List (List ℕ × Value)) DocError) (place : Option (ℕ × ℕ)) (seq : ℕ) (made e : Entry) : Type 0 where
  pub read : is_ok r ≡ true
  pub new : place ≡ None
  pub room : seq < 2 ^ 31
  pub is : made ≡ e

by_room : (values : List (List ℕ × Value)) (seq : ℕ) (b : Bool) (made e : Entry) → nat_lt seq (2 ^ 31) ≡ b → cond b (Ok made) (Err (refusal.Limit limit.Documents)) ≡ Ok e → Passed (Ok values) None seq made e
by_room values seq true made e less is = record { read = refl; new = refl; room = below seq less; is = let same : made ≡ e = cc in same }
by_room values seq false made e less is = absurd (cc)

pub passed : (id : List ℕ) (r : Result (List (List ℕ × Value)) DocError) (place : Option (ℕ × ℕ)) (seq : ℕ) (made e : Entry) → spec.document_by id r place seq made ≡ Ok e → Passed r place seq made e
passed id (Err error) place seq made e is = absurd (cc)
passed id (Ok values) (Some place) seq made e is = absurd (cc)
passed id (Ok values) None seq made e is = by_room values seq (nat_lt seq (2 ^ 31)) made e refl is

none_placed : (o : Option Doc) → option_map spec.place_of o ≡ None → o ≡ None
none_placed None e = refl
none_placed (Some d) e = absurd (let z : ◌≡◌ {A = Option (ℕ × ℕ)} None (Some (spec.place_of d)) = sym e in cc)

pub document_asked : (past : List Entry) (actor : ℕ) (given : ℤ) (index : ℕ) (s : SourceIndex) (id : List ℕ) (tree : Tree) (e : Entry) → IsTakenPast past → actor ≤ 15
    → slice_get (catalogue past) index ≡ Some s → IsDocumentId id → IsObject tree → spec.asked_document past actor given index s id tree ≡ Ok e → IsTaken past e
unfolding reads
document_asked past actor given index s id tree e taken few there sized object is =
    let p = passed id (documents.reading s.mapping s.stamp tree) _ _ _ e is in
    subst (IsTaken past) p.is
    (document_taken past actor given index s _ _ id tree taken few there refl refl p.room sized (none_placed (find (has_id index id) (written (read past))) p.new) object.0 p.read)

alone_asked : (past : List Entry) (r : Result Entry Refusal) → ((e : Entry) → r ≡ Ok e → IsTaken past e) → Asks past (spec.document_alone r)
alone_asked past (Ok e) each = (each e refl, tt)
alone_asked past (Err r) each = tt

get_more : {X : Type 0} (xs ys : List X) (n : ℕ) (x : X) → slice_get xs n ≡ Some x → slice_get (xs ++ ys) n ≡ Some x
get_more [] ys n x e = absurd (let z : ◌≡◌ {A = Option _} None (Some x) = e in cc)
get_more (y ∷ xs) ys zero x e = e
get_more (y ∷ xs) ys (suc n) x e = get_more xs ys n x e

many_asked : (past : List Entry) (actor : ℕ) (given : ℤ) (index : ℕ) (s : SourceIndex) (docs : List (List ℕ × Tree)) → IsTakenPast past → actor ≤ 15 → slice_get (catalogue past) index ≡ Some s
    → AllByRecursion IsDocument docs → AreTaken past (spec.accepted (spec.asked_documents past actor given index s docs))
many_asked past actor given index s [] taken few there sized = tt
many_asked past actor given index s (d ∷ docs) taken few there sized =
    by_first (spec.asked_document past actor given index s d.0 d.1) refl (λ now taken there. many_asked now actor given index s docs taken few there sized.1)
  where
    by_first : (r : Result Entry Refusal) → spec.asked_document past actor given index s d.0 d.1 ≡ r
        → ((now : List Entry) → IsTakenPast now → slice_get (catalogue now) index ≡ Some s → AreTaken now (spec.accepted (spec.asked_documents now actor given index s docs)))
        → AreTaken past (spec.accepted (r ∷ spec.asked_documents (spec.past_with past r) actor given index s docs))
    by_first (Ok e) is rest =
        let first = document_asked past actor given index s d.0 d.1 e taken few there sized.0.0 sized.0.1 is in
        (first, rest (e ∷ past) (taken, first) (get_more (catalogue past) (makes e.kind) index s there))
    by_first (Err r) is rest = rest past taken there

into_asked : (past : List Entry) (name : List ℕ) (asks : ℕ → SourceIndex → Asked) → ((index : ℕ) (s : SourceIndex) → slice_get (catalogue past) index ≡ Some s → Asks past (asks index s)) → Asks past (spec.into past name asks)
into_asked past name asks each = by_test (Asks past) (not (spec.may_be_written past name)) _ _ (λ bad. tt) (λ good. by_number (number_of name (catalogue past)))
  where
    by_index : (index : ℕ) (o : Option SourceIndex) → slice_get (catalogue past) index ≡ o → Asks past (spec.into_index name (asks index) o)
    by_index index None e = tt
    by_index index (Some s) e = each index s e

    by_number : (o : Option ℕ) → Asks past (spec.into_number past name asks o)
    by_number None = tt
    by_number (Some index) = by_index index (slice_get (catalogue past) index) refl

-- ---- commands
pub asked_taken : (past : List Entry) (actor : ℕ) (given : ℤ) (o : Op) → IsTakenPast past → actor ≤ 15 → IsFormedOp o → AreTaken past (spec.asked past actor given o).entries
asked_taken past actor given (op.CreateIndex name tree shards stamp quick) taken few formed = index_asked past actor given taken few name tree shards stamp
asked_taken past actor given (op.Index name id tree) taken few formed =
    into_asked past name _ (λ index s there. alone_asked past (spec.asked_document past actor given index s id tree) (λ e is. document_asked past actor given index s id tree e taken few there formed.1 formed.2 is))
asked_taken past actor given (op.Bulk name docs) taken few formed =
    into_asked past name _ (λ index s there. many_asked past actor given index s docs taken few there (recursion_from_All IsDocument docs formed.1.2))
asked_taken past actor given (op.PutTransform id config) taken few formed = put_asked past actor given taken few id config
asked_taken past actor given (op.Start id) taken few formed = start_asked past actor given taken few id
asked_taken past actor given op.Settle taken few formed = tt
asked_taken past actor given (op.Search name size after) taken few formed = search_asked past actor given taken few name size after
asked_taken past actor given (op.Delete id) taken few formed = tt
asked_taken past actor given (op.Stop id wait force) taken few formed = tt
asked_taken past actor given (op.Reset id) taken few formed = tt
asked_taken past actor given (op.ScheduleNow id) taken few formed = tt
asked_taken past actor given (op.Step id) taken few formed =
    by_test (Asks past) (is_transform_id id) _ _ (λ named. by_there (is_some (transform_of id past))) (λ bad. tt)
  where
    by_there : (there : Bool) → Asks past (spec.step_of id there)
    by_there true = tt
    by_there false = tt
asked_taken past actor given (op.Await id checkpoint) taken few formed = tt
asked_taken past actor given (op.Stats id) taken few formed = tt
asked_taken past actor given (op.Preview config) taken few formed = tt
