-- No entry that a command asks for is a Page.
use Rattle.std.proofs.Common.{ℕ, ℤ, ◌^◌, Bool, true, false, cond, List, [], ◌∷◌, length, Option, Some, None, Ok, Err}
use Rattle.std.specs.List.{AllByRecursion, find}
use Rattle.std.specs.Option.{option_map}
use Rattle.std.specs.Prelude.{Result, is_some, nat_le, nat_lt, not, slice_get}
use Rattle.tf_model.specs.declared.config.Config.{Config}
use Rattle.tf_model.specs.declared.entry.Entry.{Entry}
use Rattle.tf_model.specs.declared.entry.Kind.{Kind}
use Rattle.tf_model.specs.declared.entry.Kind.TheVariants as kind
use Rattle.tf_model.specs.declared.query.Mapping.{Mapping}
use Rattle.tf_model.specs.declared.task.State.{State}
use Rattle.tf_model.specs.declared.task.State.TheVariants as state
use Rattle.tf_model.specs.declared.tree.Tree.{Tree}
use Rattle.tf_model.specs.declared.value.Key.{Key}
use Rattle.tf_model.specs.declared.value.Value.{Value}
use Rattle.tf_model.specs.Names.{is_index_name, is_transform_id}
use Rattle.tf_command.specs.declared.command.Op.{Op}
use Rattle.tf_command.specs.declared.command.Op.TheVariants as op
use Rattle.tf_config.specs.declared.error.ConfigError.{ConfigError}
use Rattle.tf_config.specs.Reading as configs
use Rattle.tf_mapping.specs.declared.error.DocError.{DocError}
use Rattle.tf_mapping.specs.declared.error.MappingError.{MappingError}
use Rattle.tf_mapping.specs.Documents.{reading}
use Rattle.tf_mapping.specs.Mappings as mappings
use Rattle.tf_mapping.specs.Routes.{shard_of}
use Rattle.tf_reply.specs.Refusals.{config_refusal, mapping_refusal}
use Rattle.tf_reply.specs.declared.faults.Limit.TheVariants as limit
use Rattle.tf_reply.specs.declared.faults.Refusal.{Refusal}
use Rattle.tf_reply.specs.declared.faults.Refusal.TheVariants as refusal
use Rattle.tf_history.specs.Catalogue.{SourceIndex, catalogue, number_of}
use Rattle.tf_history.specs.Histories.{IsRightEvent}
use Rattle.tf_history.specs.LegalEntries.{has_id, is_free}
use Rattle.tf_history.specs.Lives.{documents, life}
use Rattle.tf_history.specs.Reading.{deed_of}
use Rattle.tf_history.specs.Transforms.{PutTransform, transform_of, transforms}
use Rattle.tf_core.specs.Built.{is_built_config}
use Rattle.tf_core.specs.Legal.{read}
use Rattle.tf_core.specs.Lookups.{is_into}
use Rattle.tf_core.specs.Sources.{catalogued}
use Rattle.tf_mapping.specs.Documents.{values_of}
use Rattle.tf_decide.specs.Asking as decide
use Rattle.tf_decide.specs.declared.asked.Asked.{Asked}
use Rattle.tf_decide.specs.declared.standing.Standing.{Standing}

-- a kind that is no Page
abbrev pub IsQuiet : Kind → Type 0
IsQuiet (kind.Page id n rows) = ⊥
IsQuiet _ = Unit {0}

abbrev pub IsQuietEntry : Entry → Type 0
IsQuietEntry e = IsQuiet e.kind

pub quiet_kind : (past : List Entry) (k : Kind) → IsQuiet k → IsRightEvent (deed_of values_of (catalogue past) k) (read past)
quiet_kind past (kind.Page id n rows) quiet = absurd quiet
quiet_kind past _ quiet = tt

abbrev AreQuiet : Asked → Type 0
AreQuiet a = AllByRecursion IsQuietEntry a.entries

either : {X : Type 0} (P : X → Type 0) (b : Bool) (x y : X) → P x → P y → P (cond b x y)
either P true x y p q = p
either P false x y p q = q

-- ---- documents
abbrev IsQuietTry : Result Entry Refusal → Type 0
IsQuietTry (Ok e) = IsQuietEntry e
IsQuietTry (Err r) = Unit {0}

accepted_quiet : (tried : List (Result Entry Refusal)) → AllByRecursion IsQuietTry tried → AllByRecursion IsQuietEntry (decide.accepted tried)
accepted_quiet [] quiet = tt
accepted_quiet (Ok e ∷ tried) quiet = (quiet.0, accepted_quiet tried quiet.1)
accepted_quiet (Err r ∷ tried) quiet = accepted_quiet tried quiet.1

with_quiet : (seq : ℕ) (e : Entry) → IsQuietEntry e → IsQuietTry (decide.document_with seq e)
with_quiet seq e quiet = either IsQuietTry (nat_lt seq (2 ^ 31)) (Ok e) (Err (refusal.Limit limit.Documents)) quiet tt

new_quiet : (id : List ℕ) (place : Option (ℕ × ℕ)) (seq : ℕ) (e : Entry) → IsQuietEntry e → IsQuietTry (decide.document_new id place seq e)
new_quiet id (Some place) seq e quiet = tt
new_quiet id None seq e quiet = with_quiet seq e quiet

by_quiet : (id : List ℕ) (r : Result (List (List ℕ × Value)) DocError) (place : Option (ℕ × ℕ)) (seq : ℕ) (e : Entry) → IsQuietEntry e → IsQuietTry (decide.document_by id r place seq e)
by_quiet id (Ok values) place seq e quiet = new_quiet id place seq e quiet
by_quiet id (Err error) place seq e quiet = tt

document_quiet : (past : List Entry) (actor : ℕ) (given : ℤ) (index : ℕ) (s : SourceIndex) (id : List ℕ) (tree : Tree) → IsQuietTry (decide.asked_document past actor given index s id tree)
document_quiet past actor given index s id tree =
    let shard = shard_of id s.shards in
    let seq = decide.next_seq past index shard in
    by_quiet id (reading s.mapping s.stamp tree) (option_map decide.place_of (find (has_id index id) (documents (read past)))) seq
    (decide.write_after past actor given index s shard seq id tree) tt

documents_quiet : (past : List Entry) (actor : ℕ) (given : ℤ) (index : ℕ) (s : SourceIndex) (docs : List (List ℕ × Tree)) → AllByRecursion IsQuietTry (decide.asked_documents past actor given index s docs)
documents_quiet past actor given index s [] = tt
documents_quiet past actor given index s (doc ∷ docs) =
    (document_quiet past actor given index s doc.0 doc.1, documents_quiet (decide.past_with past (decide.asked_document past actor given index s doc.0 doc.1)) actor given index s docs)

module _ (past : List Entry) (name : List ℕ) (asks : ℕ → SourceIndex → Asked) (quiet : (index : ℕ) (s : SourceIndex) → AreQuiet (asks index s)) where
  index_quiet : (asks : SourceIndex → Asked) → ((s : SourceIndex) → AreQuiet (asks s)) → (o : Option SourceIndex) → AreQuiet (decide.into_index name asks o)
  index_quiet asks quiet None = tt
  index_quiet asks quiet (Some s) = quiet s

  number_quiet : (o : Option ℕ) → AreQuiet (decide.into_number past name asks o)
  number_quiet None = tt
  number_quiet (Some index) = index_quiet (asks index) (quiet index) (slice_get (catalogue past) index)

  into_quiet : AreQuiet (decide.into past name asks)
  into_quiet =
      either AreQuiet (not (decide.may_be_written past name)) (decide.refuses (refusal.BadName name)) (decide.into_number past name asks (number_of name (catalogue past))) tt
      (number_quiet (number_of name (catalogue past)))

-- ---- indices and transforms
module _ (past : List Entry) (actor : ℕ) (given : ℤ) where
  sharded_quiet : (name : List ℕ) (o : Option ℕ) (stamp : Option (List ℕ)) (mapping : Mapping) → AreQuiet (decide.index_sharded past actor given name o stamp mapping)
  sharded_quiet name None stamp mapping = tt
  sharded_quiet name (Some shards) stamp mapping = (tt, tt)

  with_index_quiet : (name : List ℕ) (shards : ℤ) (stamp : Option (List ℕ)) (mapping : Mapping) → AreQuiet (decide.index_with past actor given name shards stamp mapping)
  with_index_quiet name shards stamp mapping =
      let many = decide.refuses (refusal.Limit limit.Indices) in
      let sharded = decide.index_sharded past actor given name (decide.some_count shards) stamp mapping in
      either AreQuiet (not (is_free name past)) (decide.refuses (refusal.IndexExists name)) (cond (nat_le 64 (length (catalogue past))) many sharded) tt
      (either AreQuiet (nat_le 64 (length (catalogue past))) many sharded tt (sharded_quiet name (decide.some_count shards) stamp mapping))

  refused_quiet : (o : Option Refusal) → AreQuiet (decide.refused_by o)
  refused_quiet None = tt
  refused_quiet (Some r) = tt

  index_by_quiet : (name : List ℕ) (shards : ℤ) (stamp : Option (List ℕ)) (r : Result Mapping MappingError) → AreQuiet (decide.index_by past actor given name shards stamp r)
  index_by_quiet name shards stamp (Ok mapping) = with_index_quiet name shards stamp mapping
  index_by_quiet name shards stamp (Err error) = refused_quiet (mapping_refusal error)

  create_quiet : (name : List ℕ) (tree : Tree) (shards : ℤ) (stamp : Option (List ℕ)) → AreQuiet (decide.asked_index past actor given name tree shards stamp)
  create_quiet name tree shards stamp =
      let read_mapping = mappings.reading stamp tree in
      either AreQuiet (is_index_name name) (decide.index_by past actor given name shards stamp read_mapping) (decide.refuses (refusal.BadName name)) (index_by_quiet name shards stamp read_mapping) tt

  with_put_quiet : (id : List ℕ) (c : Config) → AreQuiet (decide.put_with past actor given id c)
  with_put_quiet id c =
      let made = decide.put_made past actor given id c in
      let taken = decide.refuses (refusal.IndexExists c.dest) in
      let many = decide.refuses (refusal.Limit limit.Transforms) in
      let last = cond (is_built_config c) made decide.unsupported in
      either AreQuiet (not (is_free c.dest past)) taken (cond (nat_le 64 (length (transforms past))) many last) tt
      (either AreQuiet (nat_le 64 (length (transforms past))) many last tt (either AreQuiet (is_built_config c) made decide.unsupported (tt, tt) tt))

  put_by_quiet : (id : List ℕ) (r : Result Config ConfigError) → AreQuiet (decide.put_by past actor given id r)
  put_by_quiet id (Ok c) = with_put_quiet id c
  put_by_quiet id (Err error) = refused_quiet (config_refusal error)

  put_quiet : (id : List ℕ) (tree : Tree) → AreQuiet (decide.asked_put past actor given id tree)
  put_quiet id tree =
      let read_config = configs.reading (catalogued (catalogue past)) true tree in
      let used = decide.refuses (refusal.TransformExists id) in
      either AreQuiet (is_transform_id id) (decide.put_new past actor given id tree) (decide.refuses (refusal.BadName id))
      (either AreQuiet (is_some (transform_of id past)) used (decide.put_by past actor given id read_config) tt (put_by_quiet id read_config)) tt

  start_by_quiet : (id : List ℕ) (s : State) (over : Bool) → AreQuiet (decide.start_by past actor given id s over)
  start_by_quiet id state.Stopped true = tt
  start_by_quiet id state.Stopped false = (tt, tt)
  start_by_quiet id state.Failed over = tt
  start_by_quiet id state.Started over = tt
  start_by_quiet id state.Indexing over = tt
  start_by_quiet id state.Stopping over = tt

  start_of_quiet : (id : List ℕ) (o : Option Standing) → AreQuiet (decide.start_of past actor given id o)
  start_of_quiet id None = tt
  start_of_quiet id (Some s) = start_by_quiet id s.state s.is_over

  start_quiet : (id : List ℕ) → AreQuiet (decide.asked_start past actor given id)
  start_quiet id =
      let standing = option_map decide.standing_of (life id (read past)) in
      either AreQuiet (is_transform_id id) (decide.start_of past actor given id standing) (decide.refuses (refusal.BadName id)) (start_of_quiet id standing) tt

  above_quiet : (name : List ℕ) (size : ℕ) (o : Option Key) → AreQuiet (decide.shows_above name size o)
  above_quiet name size None = tt
  above_quiet name size (Some key) = tt

  search_by_quiet : (name : List ℕ) (size : ℕ) (c : Config) (o : Option Tree) → AreQuiet (decide.search_by past name size c o)
  search_by_quiet name size c None = tt
  search_by_quiet name size c (Some array) = above_quiet name size (decide.key_after past c array)

  search_in_quiet : (name : List ℕ) (size : ℕ) (o : Option Tree) (p : Option PutTransform) → AreQuiet (decide.search_in past name size o p)
  search_in_quiet name size o None = tt
  search_in_quiet name size o (Some p) = search_by_quiet name size p.config o

  search_quiet : (name : List ℕ) (size : ℕ) (o : Option Tree) → AreQuiet (decide.asked_search past name size o)
  search_quiet name size o =
      let found = find (is_into name) (transforms past) in
      either AreQuiet (decide.may_be_searched past name) (decide.search_in past name size o found) (decide.refuses (refusal.BadName name)) (search_in_quiet name size o found) tt

-- ---- steps
step_of_quiet : (id : List ℕ) (there : Bool) → AreQuiet (decide.step_of id there)
step_of_quiet id true = tt
step_of_quiet id false = tt

step_quiet : (past : List Entry) (id : List ℕ) → AreQuiet (decide.asked_step past id)
step_quiet past id =
    let there = is_some (transform_of id past) in
    either AreQuiet (is_transform_id id) (decide.step_of id there) (decide.refuses (refusal.BadName id)) (step_of_quiet id there) tt

-- ---- commands
pub asked_quiet : (past : List Entry) (actor : ℕ) (given : ℤ) (o : Op) → AreQuiet (decide.asked past actor given o)
asked_quiet past actor given (op.CreateIndex name tree shards stamp quick) = create_quiet past actor given name tree shards stamp
asked_quiet past actor given (op.Index name id tree) =
    into_quiet past name (λ index s. decide.document_alone (decide.asked_document past actor given index s id tree))
    (λ index s. accepted_quiet (decide.asked_document past actor given index s id tree ∷ []) (document_quiet past actor given index s id tree, tt))
asked_quiet past actor given (op.Bulk name docs) =
    into_quiet past name (λ index s. decide.documents_tried (decide.asked_documents past actor given index s docs))
    (λ index s. accepted_quiet (decide.asked_documents past actor given index s docs) (documents_quiet past actor given index s docs))
asked_quiet past actor given (op.PutTransform id config) = put_quiet past actor given id config
asked_quiet past actor given (op.Start id) = start_quiet past actor given id
asked_quiet past actor given op.Settle = tt
asked_quiet past actor given (op.Search name size o) = search_quiet past actor given name size o
asked_quiet past actor given (op.Delete id) = tt
asked_quiet past actor given (op.Stop id wait force) = tt
asked_quiet past actor given (op.Reset id) = tt
asked_quiet past actor given (op.ScheduleNow id) = tt
asked_quiet past actor given (op.Step id) = step_quiet past id
asked_quiet past actor given (op.Await id checkpoint) = tt
asked_quiet past actor given (op.Stats id) = tt
asked_quiet past actor given (op.Preview config) = tt
