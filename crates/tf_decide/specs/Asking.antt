-- What a command asks for after a past: the entries that it makes, the oldest first, or the first refusal.
use Rattle.std.specs.Prelude.{ℕ, ℤ, pos, ◌^◌, int_le, nat_le, nat_lt, Bool, true, false, not, ◌&&◌, List, [], ◌∷◌, length, count_by, filter_map, map, slice_get, Option, Some, None, is_some, Result, Ok, Err, if◌then◌else◌}
use Rattle.std.specs.List.{find, list_any}
use Rattle.std.specs.Option.{option_map}
use Rattle.std.specs.Result.{result_ok}
use Rattle.tf_model.specs.declared.config.Config.{Config}
use Rattle.tf_model.specs.declared.doc.Doc.{Doc}
use Rattle.tf_model.specs.declared.entry.Entry.{Entry}
use Rattle.tf_model.specs.declared.entry.Kind.{Kind}
use Rattle.tf_model.specs.declared.entry.Kind.TheVariants as kind
use Rattle.tf_model.specs.declared.query.Mapping.{Mapping}
use Rattle.tf_model.specs.declared.task.State.{State}
use Rattle.tf_model.specs.declared.task.State.TheVariants as state
use Rattle.tf_model.specs.declared.tree.Tree.{Tree}
use Rattle.tf_model.specs.declared.value.Key.{Key}
use Rattle.tf_model.specs.declared.value.Value.{Value}
use Rattle.tf_model.specs.Names.{is_index_name, is_transform_id}
use Rattle.tf_command.specs.declared.command.Op.{Op}
use Rattle.tf_command.specs.declared.command.Op.TheVariants as op
use Rattle.tf_config.specs.declared.error.ConfigError.{ConfigError}
use Rattle.tf_config.specs.Reading as configs
use Rattle.tf_mapping.specs.declared.error.DocError.{DocError}
use Rattle.tf_mapping.specs.declared.error.MappingError.{MappingError}
use Rattle.tf_mapping.specs.Documents as documents
use Rattle.tf_mapping.specs.Mappings as mappings
use Rattle.tf_mapping.specs.Routes.{shard_of}
use Rattle.tf_mapping.specs.Stamps.{stamped}
use Rattle.tf_reply.specs.declared.faults.Limit.TheVariants as limit
use Rattle.tf_reply.specs.declared.faults.Refusal.{Refusal}
use Rattle.tf_reply.specs.declared.faults.Refusal.TheVariants as refusal
use Rattle.tf_reply.specs.declared.replies.Item.{Item}
use Rattle.tf_reply.specs.declared.replies.Item.TheVariants as item
use Rattle.tf_reply.specs.Refusals.{config_refusal, doc_refusal, mapping_refusal}
use Rattle.tf_history.specs.Catalogue.{SourceIndex, catalogue, number_of}
use Rattle.tf_history.specs.LegalEntries.{has_id, is_free, is_in_shard}
use Rattle.tf_history.specs.Legality as legality
use Rattle.tf_history.specs.Lives.{Life, documents as written, life}
use Rattle.tf_history.specs.Transforms.{PutTransform, transform_of, transforms}
use Rattle.tf_group.specs.Reading.{key_in}
use Rattle.tf_config.specs.Catalogue.{fields_of}
use Rattle.tf_core.specs.Built.{is_built_config}
use Rattle.tf_core.specs.Legal.{read}
use Rattle.tf_core.specs.Lookups.{is_into}
use Rattle.tf_core.specs.Moves.{moment_after}
use Rattle.tf_core.specs.Sources.{catalogued}
use Rattle.tf_decide.specs.declared.asked.Answer.{Answer}
use Rattle.tf_decide.specs.declared.asked.Answer.TheVariants as answer
use Rattle.tf_decide.specs.declared.asked.Asked.{Asked}
use Rattle.tf_decide.specs.declared.standing.Standing.{Standing}

-- an entry by an actor, where a moment is given
abbrev pub entry_after : List Entry → ℕ → ℤ → Kind → Entry
entry_after past actor given kind = record { at_ms = moment_after past given; actor = actor; kind = kind }

-- one entry
abbrev pub makes : Entry → Answer → Asked
makes e told = record { entries = e ∷ []; answer = told }

-- no entry
abbrev pub tells : Answer → Asked
tells told = record { entries = []; answer = told }

abbrev pub refuses : Refusal → Asked
refuses r = tells (answer.Refused r)

-- a form that the program does not take yet
abbrev pub unsupported : Asked
unsupported = refuses refusal.UnsupportedYet

-- ---- names
-- whether an index has a name, and whether a destination has it
abbrev pub is_index : List Entry → List ℕ → Bool
is_index past name = is_some (number_of name (catalogue past))

abbrev pub is_dest : List Entry → List ℕ → Bool
is_dest past name = list_any (is_into name) (transforms past)

-- ---- an index is created
-- a number of shards from 1 to 16
abbrev pub count_of : ℤ → ℕ
count_of (pos n) = n
count_of _ = 0

abbrev pub some_count : ℤ → Option ℕ
some_count shards = if int_le (pos 1) shards && int_le shards (pos 16) then Some (count_of shards) else None

abbrev pub index_made : List Entry → ℕ → ℤ → List ℕ → ℕ → Option (List ℕ) → Mapping → Asked
index_made past actor given name shards stamp mapping = makes (entry_after past actor given (kind.Index name shards mapping stamp false)) answer.Created

abbrev pub index_sharded : List Entry → ℕ → ℤ → List ℕ → Option ℕ → Option (List ℕ) → Mapping → Asked
index_sharded past actor given name None stamp mapping = refuses (refusal.Limit limit.Shards)
index_sharded past actor given name (Some shards) stamp mapping = index_made past actor given name shards stamp mapping

-- the name is free, and there are fewer than 64 indices
abbrev pub index_with : List Entry → ℕ → ℤ → List ℕ → ℤ → Option (List ℕ) → Mapping → Asked
index_with past actor given name shards stamp mapping =
    if not (is_free name past) then refuses (refusal.IndexExists name)
    else if nat_le 64 (length (catalogue past)) then refuses (refusal.Limit limit.Indices)
    else index_sharded past actor given name (some_count shards) stamp mapping

-- no reading wants memory
abbrev pub refused_by : Option Refusal → Asked
refused_by None = unsupported
refused_by (Some r) = refuses r

abbrev pub index_by : List Entry → ℕ → ℤ → List ℕ → ℤ → Option (List ℕ) → Result Mapping MappingError → Asked
index_by past actor given name shards stamp (Ok mapping) = index_with past actor given name shards stamp mapping
index_by past actor given name shards stamp (Err error) = refused_by (mapping_refusal error)

abbrev pub asked_index : List Entry → ℕ → ℤ → List ℕ → Tree → ℤ → Option (List ℕ) → Asked
asked_index past actor given name tree shards stamp =
    if is_index_name name then index_by past actor given name shards stamp (mappings.reading stamp tree) else refuses (refusal.BadName name)

-- ---- a document is written
-- the tree that is kept: at its top a stamped index has the moment beside the stamp
abbrev pub kept_tree : Option (List ℕ) → ℤ → Tree → Tree
kept_tree None ms tree = tree
kept_tree (Some stamp) ms tree = stamped tree stamp ms

-- a document's entry, at a place of its index
abbrev pub write_after : List Entry → ℕ → ℤ → ℕ → SourceIndex → ℕ → ℕ → List ℕ → Tree → Entry
write_after past actor given index s shard seq id tree = entry_after past actor given (kind.Write index shard seq id (kept_tree s.stamp (moment_after past given) tree))

-- how many documents a shard of an index has
abbrev pub next_seq : List Entry → ℕ → ℕ → ℕ
next_seq past index shard = count_by (is_in_shard index shard) (written (read past))

-- the shard is not full
abbrev pub document_with : ℕ → Entry → Result Entry Refusal
document_with seq e = if nat_lt seq (2 ^ 31) then Ok e else Err (refusal.Limit limit.Documents)

-- where a document stands in its shard, and in which
abbrev pub place_of : Doc → ℕ × ℕ
place_of d = (d.seq, d.shard)

-- the id is new in the index; a document that has it stands at a place
abbrev pub document_new : List ℕ → Option (ℕ × ℕ) → ℕ → Entry → Result Entry Refusal
document_new id (Some place) seq e = Err (refusal.VersionConflict id place.0 place.1)
document_new id None seq e = document_with seq e

abbrev pub refusal_or : Option Refusal → Refusal
refusal_or None = refusal.UnsupportedYet
refusal_or (Some r) = r

-- the mapping reads the document
abbrev pub document_by : List ℕ → Result (List (List ℕ × Value)) DocError → Option (ℕ × ℕ) → ℕ → Entry → Result Entry Refusal
document_by id (Ok values) place seq e = document_new id place seq e
document_by id (Err error) place seq e = Err (refusal_or (doc_refusal error))

-- what becomes of a document of an index: its entry, as the next one of its shard, or why it is refused
abbrev pub asked_document : List Entry → ℕ → ℤ → ℕ → SourceIndex → List ℕ → Tree → Result Entry Refusal
asked_document past actor given index s id tree =
    let shard = shard_of id s.shards in
    let seq = next_seq past index shard in
    document_by id (documents.reading s.mapping s.stamp tree) (option_map place_of (find (has_id index id) (written (read past)))) seq (write_after past actor given index s shard seq id tree)

-- the past after it
abbrev pub past_with : List Entry → Result Entry Refusal → List Entry
past_with past (Ok e) = e ∷ past
past_with past (Err r) = past

-- what becomes of documents in their order, each after those before it
abbrev pub asked_documents : List Entry → ℕ → ℤ → ℕ → SourceIndex → List (List ℕ × Tree) → List (Result Entry Refusal)
asked_documents past actor given index s [] = []
asked_documents past actor given index s (doc ∷ docs) =
    let first = asked_document past actor given index s doc.0 doc.1 in
    first ∷ asked_documents (past_with past first) actor given index s docs

-- where a document stands that a Write writes
abbrev pub placed_by : Kind → ℕ × ℕ
placed_by (kind.Write index shard seq id tree) = (seq, shard)
placed_by _ = (0, 0)

abbrev pub written_of : Entry → Answer
written_of e = answer.Written (placed_by e.kind).0 (placed_by e.kind).1

abbrev pub told_of : Result Entry Refusal → Answer
told_of (Ok e) = written_of e
told_of (Err r) = answer.Refused r

abbrev pub item_of : Result Entry Refusal → Item
item_of (Ok e) = item.Written (placed_by e.kind).0 (placed_by e.kind).1
item_of (Err r) = item.Refused r

-- the entries of those that are accepted
abbrev pub accepted : List (Result Entry Refusal) → List Entry
accepted tried = filter_map result_ok tried

abbrev pub document_alone : Result Entry Refusal → Asked
document_alone tried = record { entries = accepted (tried ∷ []); answer = told_of tried }

abbrev pub documents_tried : List (Result Entry Refusal) → Asked
documents_tried tried = record { entries = accepted tried; answer = answer.Tried (map item_of tried) }

-- documents go into an index, and not into a destination
abbrev pub may_be_written : List Entry → List ℕ → Bool
may_be_written past name = is_index_name name && not (is_dest past name)

abbrev pub into_index : List ℕ → (SourceIndex → Asked) → Option SourceIndex → Asked
into_index name asks None = refuses (refusal.NoSuchIndex name)
into_index name asks (Some s) = asks s

abbrev pub into_number : List Entry → List ℕ → (ℕ → SourceIndex → Asked) → Option ℕ → Asked
into_number past name asks None = refuses (refusal.NoSuchIndex name)
into_number past name asks (Some index) = into_index name (asks index) (slice_get (catalogue past) index)

abbrev pub into : List Entry → List ℕ → (ℕ → SourceIndex → Asked) → Asked
into past name asks = if not (may_be_written past name) then refuses (refusal.BadName name) else into_number past name asks (number_of name (catalogue past))

-- a document goes into the index with a name
abbrev pub asked_written : List Entry → ℕ → ℤ → List ℕ → List ℕ → Tree → Asked
asked_written past actor given name id tree = into past name (λ index s. document_alone (asked_document past actor given index s id tree))

-- documents go there, each after those before it
abbrev pub asked_bulk : List Entry → ℕ → ℤ → List ℕ → List (List ℕ × Tree) → Asked
asked_bulk past actor given name docs = into past name (λ index s. documents_tried (asked_documents past actor given index s docs))

-- ---- a transform is put
abbrev pub put_made : List Entry → ℕ → ℤ → List ℕ → Config → Asked
put_made past actor given id c = makes (entry_after past actor given (kind.Put id c)) answer.Created

-- the name of the destination is free, there are fewer than 64 transforms, and transforms of this form are built
abbrev pub put_with : List Entry → ℕ → ℤ → List ℕ → Config → Asked
put_with past actor given id c =
    if not (is_free c.dest past) then refuses (refusal.IndexExists c.dest)
    else if nat_le 64 (length (transforms past)) then refuses (refusal.Limit limit.Transforms)
    else if is_built_config c then put_made past actor given id c
    else unsupported

abbrev pub put_by : List Entry → ℕ → ℤ → List ℕ → Result Config ConfigError → Asked
put_by past actor given id (Ok c) = put_with past actor given id c
put_by past actor given id (Err error) = refused_by (config_refusal error)

-- the id is new, and the configuration passes over the indices that are there
abbrev pub put_new : List Entry → ℕ → ℤ → List ℕ → Tree → Asked
put_new past actor given id tree =
    if is_some (transform_of id past) then refuses (refusal.TransformExists id)
    else put_by past actor given id (configs.reading (catalogued (catalogue past)) true tree)

abbrev pub asked_put : List Entry → ℕ → ℤ → List ℕ → Tree → Asked
asked_put past actor given id tree = if is_transform_id id then put_new past actor given id tree else refuses (refusal.BadName id)

-- ---- a transform is started
-- how a transform stands
abbrev pub standing_of : Life → Standing
standing_of l = record { state = l.state; is_over = legality.is_over l }

abbrev pub start_made : List Entry → ℕ → ℤ → List ℕ → Asked
start_made past actor given id = makes (entry_after past actor given (kind.Start id)) (answer.Started id)

-- one that is there: it is stopped, and no batch transform whose checkpoint is finished
abbrev pub start_by : List Entry → ℕ → ℤ → List ℕ → State → Bool → Asked
start_by past actor given id state.Stopped over = if over then refuses (refusal.AlreadyFinished id state.Stopped) else start_made past actor given id
start_by past actor given id state.Failed over = refuses (refusal.IsFailed id state.Failed)
start_by past actor given id s over = refuses (refusal.AlreadyStarted id s)

abbrev pub start_of : List Entry → ℕ → ℤ → List ℕ → Option Standing → Asked
start_of past actor given id None = refuses (refusal.NoSuchTransform id)
start_of past actor given id (Some s) = start_by past actor given id s.state s.is_over

abbrev pub asked_start : List Entry → ℕ → ℤ → List ℕ → Asked
asked_start past actor given id =
    if is_transform_id id then start_of past actor given id (option_map standing_of (life id (read past))) else refuses (refusal.BadName id)

-- ---- the next move of a transform
-- a transform is there
abbrev pub may_step : List Entry → List ℕ → Bool
may_step past id = is_transform_id id && is_some (transform_of id past)

-- it is to make its next move, which is none of the command's own entries
abbrev pub step_of : List ℕ → Bool → Asked
step_of id false = refuses (refusal.NoSuchTransform id)
step_of id true = tells (answer.Stepped id)

abbrev pub asked_step : List Entry → List ℕ → Asked
asked_step past id = if is_transform_id id then step_of id (is_some (transform_of id past)) else refuses (refusal.BadName id)

-- ---- rows are searched
abbrev pub may_be_searched : List Entry → List ℕ → Bool
may_be_searched past name = is_index_name name && not (is_index past name)

abbrev pub shows : List ℕ → ℕ → Option Key → Asked
shows name size after = tells (answer.Shown (record { dest = name; after = after; size = size }))

-- the rows above the key that an array is, where it is one
abbrev pub shows_above : List ℕ → ℕ → Option Key → Asked
shows_above name size None = refuses refusal.BadAfter
shows_above name size (Some key) = shows name size (Some key)

-- the key that an array is by a configuration
abbrev pub key_after : List Entry → Config → Tree → Option Key
key_after past c array = key_in c (fields_of (catalogued (catalogue past)) c.sources) array

-- rows of a destination that is grouped by a configuration
abbrev pub search_by : List Entry → List ℕ → ℕ → Config → Option Tree → Asked
search_by past name size c None = shows name size None
search_by past name size c (Some array) = shows_above name size (key_after past c array)

abbrev pub search_in : List Entry → List ℕ → ℕ → Option Tree → Option PutTransform → Asked
search_in past name size after None = refuses (refusal.NoSuchIndex name)
search_in past name size after (Some p) = search_by past name size p.config after

abbrev pub asked_search : List Entry → List ℕ → ℕ → Option Tree → Asked
asked_search past name size after =
    if may_be_searched past name then search_in past name size after (find (is_into name) (transforms past)) else refuses (refusal.BadName name)

-- ---- commands
-- what a command asks for after a past, by an actor, where a moment is given
abbrev pub asked : List Entry → ℕ → ℤ → Op → Asked
asked past actor given (op.CreateIndex name tree shards stamp quick) = asked_index past actor given name tree shards stamp
asked past actor given (op.Index name id tree) = asked_written past actor given name id tree
asked past actor given (op.Bulk name docs) = asked_bulk past actor given name docs
asked past actor given (op.PutTransform id config) = asked_put past actor given id config
asked past actor given (op.Start id) = asked_start past actor given id
asked past actor given (op.Step id) = asked_step past id
asked past actor given op.Settle = tells answer.Settled
asked past actor given (op.Search name size after) = asked_search past name size after
asked past actor given _ = unsupported
