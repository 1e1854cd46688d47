-- The names of documents: index, shard and sequence number.
use Rattle.std.specs.Prelude.{◌≡◌, ◌<◌, Bool, IsTrue, ℕ, List, All, count_by, length, slice_index_or, take}
use Rattle.std.specs.List.{IsDistinct}
use Rattle.tf_model.specs.declared.doc.Doc.{Doc}
use Rattle.tf_model.specs.Retention.{is_named}
use Rattle.tf_history.specs.LegalEntries.{is_in_shard}
use Rattle.tf_order.specs.Shards.{is_among}

-- whether the second document has the name of the first
abbrev pub has_name_of : Doc → Doc → Bool
has_name_of d e = is_named d.index d.shard d.seq e

-- no two documents have the same name
abbrev pub AreNamedOnce : List Doc → Type 0
AreNamedOnce docs = IsDistinct has_name_of docs

-- each document is in one of these indices
abbrev pub AreAmong : List ℕ → List Doc → Type 0
AreAmong sources docs = All (λ d. IsTrue (is_among sources d)) docs

-- a document has as sequence number how many of these are in its shard
abbrev pub IsNumberedAfter : List Doc → Doc → Type 0
IsNumberedAfter docs d = d.seq ≡ count_by (is_in_shard d.index d.shard) docs

-- each document has as sequence number how many of those before it are in its shard
abbrev pub AreNumbered : List Doc → Type 0
AreNumbered docs = (place : ℕ) (d : Doc) → place < length docs → IsNumberedAfter (take place docs) (slice_index_or docs place d)
