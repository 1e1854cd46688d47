-- Whether an entry is taken, by what a core keeps.
use Rattle.std.specs.Prelude.{ℕ, ℤ, pos, negsuc, ◌+◌, ◌^◌, int_le, nat_le, nat_lt, nat_eq, Bool, true, false, if◌then◌else◌, not, ◌&&◌, ◌||◌, List, [], ◌∷◌, count_by, filter, length, slice_get, take, Option, Some, None, is_none}
use Rattle.std.specs.List.{list_all, list_any}
use Rattle.std.specs.Cmp.Lexicographic.{slice_cmp}
use Rattle.std.specs.Ordering.{eq_by_cmp, int_eq, is_lt, nat_cmp}
use Rattle.std.specs.Str.{bytes_eq}
use Rattle.tf_model.specs.declared.config.Agg.{Agg}
use Rattle.tf_model.specs.declared.config.Config.{Config}
use Rattle.tf_model.specs.declared.config.Group.{Group}
use Rattle.tf_model.specs.declared.config.Shape.{Shape}
use Rattle.tf_model.specs.declared.config.Shape.TheVariants as shape
use Rattle.tf_model.specs.declared.doc.Doc.{Doc}
use Rattle.tf_model.specs.declared.entry.Kind.{Kind}
use Rattle.tf_model.specs.declared.entry.Kind.TheVariants as kind
use Rattle.tf_model.specs.declared.entry.Row.{Row}
use Rattle.tf_model.specs.declared.entry.Row.TheVariants as row
use Rattle.tf_model.specs.declared.entry.SumRange.{SumRange}
use Rattle.tf_model.specs.declared.query.FieldType.{FieldType}
use Rattle.tf_model.specs.declared.query.Mapping.{Mapping}
use Rattle.tf_model.specs.declared.task.State.{State}
use Rattle.tf_model.specs.declared.task.State.TheVariants as state
use Rattle.tf_model.specs.declared.tree.Tree.{Tree}
use Rattle.tf_model.specs.declared.value.Key.{Key}
use Rattle.tf_model.specs.declared.value.Value.{Value}
use Rattle.tf_model.specs.declared.value.Value.TheVariants as value
use Rattle.tf_model.specs.Bounds.{due, next_bound}
use Rattle.tf_model.specs.Changed.{is_after, changed_above}
use Rattle.tf_model.specs.Conditions.{greatest_date}
use Rattle.tf_model.specs.Counted.{counted, is_in_window}
use Rattle.tf_model.specs.Keys.{least_date}
use Rattle.tf_model.specs.Names.{is_index_name, is_transform_id, is_field_path}
use Rattle.tf_model.specs.Order.{key_cmp}
use Rattle.tf_model.specs.Rows.{or_else, sum_range}
use Rattle.tf_history.specs.Catalogue.{SourceIndex}
use Rattle.tf_history.specs.Legality.{is_stopped, is_started, is_active}
use Rattle.tf_history.specs.LegalEntries.{has_date, has_id, is_in_shard}
use Rattle.tf_history.specs.Meaning.{row_key}
use Rattle.tf_core.specs.declared.transform.Transform.{Transform}
use Rattle.tf_mapping.specs.Documents.{reads, values_of}
use Rattle.tf_mapping.specs.Routes.{shard_of}
use Rattle.tf_mapping.specs.Written.{has_moment, is_written}
use Rattle.tf_config.specs.Refusals.{passes}
use Rattle.tf_core.specs.Built.{is_built_config}
use Rattle.tf_core.specs.Sources.{catalogued, is_among}
use Rattle.tf_core.specs.Table.{transform_at}

-- a moment in range that is not before the last, and an actor
abbrev pub is_timely : ℤ → ℤ → ℕ → Bool
is_timely last_ms at_ms actor = int_le (pos 0) at_ms && (int_le at_ms greatest_date && (int_le last_ms at_ms && nat_le actor 15))

-- ---- indices
-- whether a name is in use by an index
abbrev pub is_index : List SourceIndex → List ℕ → Bool
is_index indices name = list_any (λ (s : SourceIndex). bytes_eq name s.name) indices

-- whether a name is in use by a destination
abbrev pub is_dest : List Transform → List ℕ → Bool
is_dest ts name = list_any (λ (t : Transform). bytes_eq name t.config.dest) ts

abbrev pub is_free_name : List SourceIndex → List Transform → List ℕ → Bool
is_free_name indices ts name = not (is_index indices name) && not (is_dest ts name)

-- a stamp is a date field of the mapping
abbrev pub is_stamp : Mapping → Option (List ℕ) → Bool
is_stamp mapping None = true
is_stamp mapping (Some field) = has_date mapping field

abbrev pub is_field : List ℕ × FieldType → Bool
is_field f = is_field_path f.0

-- whether each name is above the one before it, and the first above another one
abbrev pub ascends_above : List ℕ → List (List ℕ × FieldType) → Bool
ascends_above name [] = true
ascends_above name (f ∷ fields) = is_lt (slice_cmp nat_cmp name f.0) && ascends_above f.0 fields

-- whether fields ascend by name
abbrev pub fields_ascend : List (List ℕ × FieldType) → Bool
fields_ascend [] = true
fields_ascend (f ∷ fields) = ascends_above f.0 fields

abbrev pub takes_index : List SourceIndex → List Transform → SourceIndex → Bool
takes_index indices ts s =
    is_index_name s.name
    && (is_free_name indices ts s.name
    && (nat_lt (length indices) 64
    && (nat_le 1 s.shards
    && (nat_le s.shards 16
    && (nat_le (length s.mapping.fields) 64
    && (list_all (λ f. is_field f) s.mapping.fields
    && (fields_ascend s.mapping.fields
    && (is_stamp s.mapping s.stamp && not s.quick))))))))

-- ---- documents
-- the values that a mapping reads from a tree, none where it does not read it
abbrev pub read_in : Mapping → Tree → Option (List (List ℕ × Value))
read_in mapping tree = if reads mapping None tree then Some (values_of mapping None tree) else None

-- values, where the stamp has this moment among them
abbrev pub if_stamped : Option (List ℕ) → ℤ → List (List ℕ × Value) → Option (List (List ℕ × Value))
if_stamped stamp at_ms values = if has_moment stamp at_ms values then Some values else None

-- the values of a tree that an index keeps, none where it does not
abbrev pub written_in : SourceIndex → ℤ → Tree → Option (List (List ℕ × Value))
written_in s at_ms tree = if is_written s.mapping s.stamp at_ms tree then Some (values_of s.mapping s.stamp tree) else None

-- whether a document has an id in an index
abbrev pub is_used : ℕ → List ℕ → List Doc → Bool
is_used index id docs = list_any (has_id index id) docs

-- whether a document goes to this place of an index, and its id is new there
abbrev pub has_place : SourceIndex → List Doc → ℕ → ℕ → ℕ → List ℕ → Bool
has_place s docs index shard seq id =
    nat_eq shard (shard_of id s.shards)
    && (nat_eq seq (count_by (is_in_shard index shard) docs)
    && (nat_lt seq (2 ^ 31) && (nat_le 1 (length id) && (nat_le (length id) 512 && not (is_used index id docs)))))

-- whether an index takes a document at a moment
abbrev pub takes_in : SourceIndex → List Doc → ℤ → ℕ → ℕ → ℕ → List ℕ → Tree → Bool
takes_in s docs at_ms index shard seq id tree = has_place s docs index shard seq id && is_written s.mapping s.stamp at_ms tree

abbrev pub takes_document : Option SourceIndex → List Doc → ℤ → ℕ → ℕ → ℕ → List ℕ → Tree → Bool
takes_document None docs at_ms index shard seq id tree = false
takes_document (Some s) docs at_ms index shard seq id tree = takes_in s docs at_ms index shard seq id tree

-- ---- transforms
-- whether an id and the name of a destination are in order, and there are fewer than 64 transforms
abbrev pub has_names : List SourceIndex → List Transform → List ℕ → List ℕ → Bool
has_names indices ts id dest =
    is_transform_id id && (is_none (transform_at id ts) && (nat_lt (length ts) 64 && is_free_name indices ts dest))

-- whether a transform may be put: a pivot whose configuration passes its checks
abbrev pub takes_transform : List SourceIndex → List Transform → List ℕ → Config → Bool
takes_transform indices ts id config =
    has_names indices ts id config.dest && (is_built_config config && passes (catalogued indices) config)

-- whether it is a batch transform whose checkpoint is finished, so that it makes no other
abbrev pub is_over : Transform → Bool
is_over t = is_none t.config.sync && nat_lt 0 t.finished

abbrev pub may_start : Transform → Bool
may_start t = is_stopped t.state && not (is_over t)

-- whether checkpoint n is running
abbrev pub is_running : Transform → ℕ → Bool
is_running t n = nat_eq n (t.finished + 1) && nat_eq n t.begun

abbrev pub may_stop_in : State → Transform → Bool
may_stop_in state.Stopping t = not t.waits || not (nat_lt t.finished t.begun)
may_stop_in state.Started t = is_over t
may_stop_in _ t = false

abbrev pub may_stop : Transform → Bool
may_stop t = may_stop_in t.state t

-- ---- beginning
-- the moment of the last Begin, none where there is none
abbrev pub last_begin : Transform → Option ℤ
last_begin t = if nat_eq t.begun 0 then None else Some t.begun_ms

-- the bound of a checkpoint that begins at a moment
abbrev pub bound_at : Transform → ℤ → Option ℤ
bound_at t at_ms = next_bound t.config t.bound at_ms

-- whether a document is in the window of a checkpoint that begins with a bound: it is in a source, counts below the bound and
-- is not below the bound of the newest checkpoint
abbrev pub is_in_next : Transform → Option ℤ → Doc → Bool
is_in_next t bound d = is_among t.sources d && is_in_window t.config t.bound bound d

-- whether the window of a checkpoint that begins with a bound has a document; docs are all documents written
abbrev pub has_window : Transform → List Doc → Option ℤ → Bool
has_window t docs bound = list_any (is_in_next t bound) docs

-- whether a checkpoint that begins at a moment is due where its window has a document
abbrev pub is_time : Transform → ℤ → Bool
is_time t at_ms = due t.config (last_begin t) t.prompted true at_ms

-- whether a checkpoint of a started transform with none running is due at a moment
abbrev pub is_due : Transform → List Doc → ℤ → Bool
is_due t docs at_ms = due t.config (last_begin t) t.prompted (has_window t docs (bound_at t at_ms)) at_ms

-- whether two bounds are the same
abbrev pub is_same_bound : Option ℤ → Option ℤ → Bool
is_same_bound None None = true
is_same_bound None (Some b) = false
is_same_bound (Some a) None = false
is_same_bound (Some a) (Some b) = int_eq a b

-- whether checkpoint n may begin with a bound at a moment: it is the next one of a started transform with none running, it is
-- due, and the bound is that of the moment
abbrev pub may_begin : Transform → List Doc → ℕ → Option ℤ → ℤ → Bool
may_begin t docs n bound at_ms =
    is_started t.state
    && (nat_eq t.begun t.finished && (nat_eq n (t.finished + 1) && (is_same_bound bound (bound_at t at_ms) && is_due t docs at_ms)))

-- ---- rows
-- each row is above the one before, the first above a position
abbrev pub ascends : Option Key → List Row → Bool
ascends position [] = true
ascends position (r ∷ rows) = is_after position (row_key r) && ascends (Some (row_key r)) rows

abbrev pub is_date_in_range : ℤ → Bool
is_date_in_range ms = int_le least_date ms && int_le ms greatest_date

-- a part of a key: a date is in range
abbrev pub is_part : Value → Bool
is_part (value.Date ms) = is_date_in_range ms
is_part _ = true

-- a value of a pivot's row: nothing, a truth value, a date in range or a number in i64
abbrev pub is_row_value : Value → Bool
is_row_value value.Null = true
is_row_value (value.Bool b) = true
is_row_value (value.Date ms) = is_date_in_range ms
is_row_value (value.Int n) = int_le (negsuc 9223372036854775807) n && int_le n (pos 9223372036854775807)
is_row_value (value.Str text) = false

abbrev pub is_pivot_row : List Group → List Agg → List Value → List Value → Bool
is_pivot_row groups aggs parts values =
    nat_eq (length parts) (length groups) && (list_all is_part parts && (nat_eq (length values) (length aggs) && list_all is_row_value values))

-- a row of a pivot
abbrev pub is_row_of : Shape → Row → Bool
is_row_of (shape.Pivot groups aggs) (row.Pivot k values) = is_pivot_row groups aggs k.parts values
is_row_of _ _ = false

abbrev pub may_page : Transform → ℕ → List Row → Bool
may_page t n rows =
    is_running t n
    && (is_active t.state
    && (nat_lt 0 (length rows) && (nat_le (length rows) t.config.page_size && (ascends t.position rows && list_all (is_row_of t.config.shape) rows))))

abbrev pub may_finish : Transform → ℕ → Bool
may_finish t n = is_running t n && is_active t.state

-- the documents that the newest checkpoint of a transform reads
abbrev pub read_by : Transform → List Doc → List Doc
read_by t docs = filter (is_among t.sources) (take t.read docs)

-- whether a list has nothing
abbrev pub is_empty : {X : Type 0} → List X → Bool
is_empty [] = true
is_empty (x ∷ xs) = false

-- the changed keys of the newest checkpoint above the position
abbrev pub keys_left : Transform → List Doc → List Key
keys_left t docs = changed_above t.config t.low t.bound t.position (read_by t docs)

-- whether none is left
abbrev pub has_none_left : Transform → List Doc → Bool
has_none_left t docs = is_empty (keys_left t docs)

-- the keys of the next page of the newest checkpoint
abbrev pub keys_next : Transform → List Doc → List Key
keys_next t docs = take t.config.page_size (keys_left t docs)

-- the sum outside i64 in the place of a key's row
abbrev pub wide_sum_at : Transform → List Doc → Key → Option SumRange
wide_sum_at t docs k = sum_range t.config k (counted t.config t.bound (read_by t docs))

-- the first of these keys that has such a sum, with the sum
abbrev pub first_wide : Transform → List Doc → List Key → Option SumRange
first_wide t docs [] = None
first_wide t docs (k ∷ keys) = or_else (wide_sum_at t docs k) (first_wide t docs keys)

-- the sum for which the next page of the newest checkpoint cannot be written
abbrev pub failure : Transform → List Doc → Option SumRange
failure t docs = first_wide t docs (keys_next t docs)

-- whether this is a sum that is told
abbrev pub is_told : Key → List ℕ → ℤ → Option SumRange → Bool
is_told k name value None = false
is_told k name value (Some found) = eq_by_cmp key_cmp k found.key && (bytes_eq name found.name && int_eq value found.value)

-- ---- entries
-- what a test says of a transform, false where it is not there
abbrev pub test_at : (Transform → Bool) → Option Transform → Bool
test_at test None = false
test_at test (Some t) = test t

-- whether checkpoint n of a transform may begin with a bound at a moment
abbrev pub may_be_begun : List Doc → List Transform → ℤ → List ℕ → ℕ → Option ℤ → Bool
may_be_begun docs ts at_ms id n bound = test_at (λ t. may_begin t docs n bound at_ms) (transform_at id ts)

-- whether checkpoint n of a transform may be finished
abbrev pub may_be_finished : List Doc → List Transform → List ℕ → ℕ → Bool
may_be_finished docs ts id n = test_at (λ t. may_finish t n && has_none_left t docs) (transform_at id ts)

-- whether checkpoint n of a transform may fail with a sum
abbrev pub may_be_failed : List Doc → List Transform → List ℕ → ℕ → Key → List ℕ → ℤ → Bool
may_be_failed docs ts id n k name value = test_at (λ t. may_finish t n && is_told k name value (failure t docs)) (transform_at id ts)

-- whether what an entry does may be done at a moment
abbrev pub may_do : List SourceIndex → List Doc → List Transform → ℤ → Kind → Bool
may_do indices docs ts at_ms (kind.Index name shards mapping stamp quick) =
    takes_index indices ts (record { name = name; shards = shards; mapping = mapping; stamp = stamp; quick = quick })
may_do indices docs ts at_ms (kind.Write index shard seq id tree) = takes_document (slice_get indices index) docs at_ms index shard seq id tree
may_do indices docs ts at_ms (kind.Put id config) = takes_transform indices ts id config
may_do indices docs ts at_ms (kind.Start id) = test_at may_start (transform_at id ts)
may_do indices docs ts at_ms (kind.Stopped id) = test_at may_stop (transform_at id ts)
may_do indices docs ts at_ms (kind.Begin id n bound) = may_be_begun docs ts at_ms id n bound
may_do indices docs ts at_ms (kind.Page id n rows) = test_at (λ t. may_page t n rows) (transform_at id ts)
may_do indices docs ts at_ms (kind.Finish id n) = may_be_finished docs ts id n
may_do indices docs ts at_ms (kind.Fail id n k name value) = may_be_failed docs ts id n k name value
may_do indices docs ts at_ms _ = false
