-- What does not hang on the order of documents: each law is of documents and of the same documents in another order.
use Rattle.std.specs.Prelude.{◌≡◌, ◌∷◌, ◌++◌, ◌<◌, [], ℕ, ℤ, nat_eq, true, List, All, count_by, filter, length, map, take, Option}
use Rattle.std.specs.List.{IsDistinct, flat_map, list_any}
use Rattle.std.specs.List.Sorted.{IsPermutation}
use Rattle.tf_model.specs.declared.value.Value.{Value}
use Rattle.tf_model.specs.declared.value.Key.{Key}
use Rattle.tf_model.specs.declared.doc.Doc.{Doc}
use Rattle.tf_model.specs.declared.config.Config.{Config}
use Rattle.tf_model.specs.Changed.{changed_above}
use Rattle.tf_model.specs.Conditions.{AllFit}
use Rattle.tf_model.specs.Counted.{counted, is_in_window, window}
use Rattle.tf_model.specs.Keys.{all_keys}
use Rattle.tf_model.specs.Latest.{latest_row}
use Rattle.tf_model.specs.Rows.{greatest, least, pivot_row, sum_range, total}
use Rattle.tf_model.specs.Scratch.{is_pivot, scratch}
use Rattle.tf_order.specs.Names.{AreAmong, AreNamedOnce, AreNumbered, IsNumberedAfter}
use Rattle.tf_history.specs.LegalEntries.{is_in_shard}
use Rattle.tf_order.specs.Shards.{cut_to, is_among, runs_of}

-- ---- documents
-- the same documents count
abbrev pub CountedInAnyOrder : Type 0
CountedInAnyOrder = (c : Config) (bound : Option ℤ) (docs others : List Doc) → IsPermutation docs others → IsPermutation (counted c bound docs) (counted c bound others)

-- windows with the same documents
pub record AreTheSameWindow (c : Config) (low high : Option ℤ) (docs others : List Doc) : Type 0 where
  pub documents : IsPermutation (window c low high docs) (window c low high others)
  pub any : list_any (is_in_window c low high) docs ≡ list_any (is_in_window c low high) others

abbrev pub WindowsInAnyOrder : Type 0
WindowsInAnyOrder = (c : Config) (low high : Option ℤ) (docs others : List Doc) → IsPermutation docs others → AreTheSameWindow c low high docs others

-- they still fit
abbrev pub FitsInAnyOrder : Type 0
FitsInAnyOrder = (c : Config) (docs others : List Doc) → IsPermutation docs others → AllFit c docs → AllFit c others

-- ---- keys
-- the same keys in the same order
abbrev pub KeysInAnyOrder : Type 0
KeysInAnyOrder = (c : Config) (docs others : List Doc) → IsPermutation docs others → all_keys c docs ≡ all_keys c others

-- the same keys changed
abbrev pub ChangedInAnyOrder : Type 0
ChangedInAnyOrder =
    (c : Config) (low high : Option ℤ) (after : Option Key) (docs others : List Doc) → IsPermutation docs others → changed_above c low high after docs ≡ changed_above c low high after others

-- ---- rows
-- the same count, sum, least and greatest value
pub record AreTheSameValues (vs ws : List Value) : Type 0 where
  pub count : length vs ≡ length ws
  pub sum : total vs ≡ total ws
  pub least_value : least vs ≡ least ws
  pub greatest_value : greatest vs ≡ greatest ws

abbrev pub ValuesInAnyOrder : Type 0
ValuesInAnyOrder = (vs ws : List Value) → IsPermutation vs ws → AreTheSameValues vs ws

-- the same row of a pivot
abbrev pub PivotRowsInAnyOrder : Type 0
PivotRowsInAnyOrder = (c : Config) (k : Key) (docs others : List Doc) → IsPermutation docs others → pivot_row c k docs ≡ pivot_row c k others

-- the same sum to tell
abbrev pub SumRangesInAnyOrder : Type 0
SumRangesInAnyOrder = (c : Config) (k : Key) (docs others : List Doc) → IsPermutation docs others → sum_range c k docs ≡ sum_range c k others

-- the same row of a latest, where no two documents have the same name
abbrev pub LatestRowsInAnyOrder : Type 0
LatestRowsInAnyOrder =
    (sources : List ℕ) (c : Config) (k : Key) (docs others : List Doc) → IsPermutation docs others → AreAmong sources docs → AreNamedOnce docs
    → latest_row sources c k docs ≡ latest_row sources c k others

-- the same grouping from scratch of a pivot
abbrev pub PivotsInAnyOrder : Type 0
PivotsInAnyOrder =
    (sources : List ℕ) (c : Config) (bound cutoff : Option ℤ) (docs others : List Doc) → IsPermutation docs others → is_pivot c.shape ≡ true
    → scratch sources c bound cutoff docs ≡ scratch sources c bound cutoff others

-- and of any transform, where no two documents have the same name
abbrev pub GroupingsInAnyOrder : Type 0
GroupingsInAnyOrder =
    (sources : List ℕ) (c : Config) (bound cutoff : Option ℤ) (docs others : List Doc) → IsPermutation docs others → AreAmong sources docs → AreNamedOnce docs
    → scratch sources c bound cutoff docs ≡ scratch sources c bound cutoff others

-- ---- names
-- documents that are numbered shard by shard have names of their own
abbrev pub NumberedAreNamedOnce : Type 0
NumberedAreNamedOnce = (docs : List Doc) → AreNumbered docs → AreNamedOnce docs

-- one more that is numbered after them
abbrev pub OneMoreIsNumbered : Type 0
OneMoreIsNumbered = (docs : List Doc) (d : Doc) → AreNumbered docs → IsNumberedAfter docs d → AreNumbered (docs ++ d ∷ [])

-- ---- shards
-- the documents of some indices, each named once, are those of their shards, one shard after the other, where no document is in a
-- further shard
abbrev pub ShardsHoldTheSources : Type 0
ShardsHoldTheSources =
    (count : ℕ → ℕ) (sources : List ℕ) (docs : List Doc) → IsDistinct nat_eq sources → All (λ d. d.shard < count d.index) docs
    → IsPermutation (filter (is_among sources) docs) (flat_map (λ run. run) (runs_of count sources docs))

-- the documents of a shard among the first documents are the first of the shard, as many as there are
abbrev pub FirstsOfAShard : Type 0
FirstsOfAShard =
    (index shard n : ℕ) (docs : List Doc)
    → filter (is_in_shard index shard) (take n docs) ≡ take (count_by (is_in_shard index shard) (take n docs)) (filter (is_in_shard index shard) docs)

-- the runs of all documents, cut to the lengths that those of the first documents had, are those of the first documents
abbrev pub RunsAreToldByTheirLengths : Type 0
RunsAreToldByTheirLengths =
    (count : ℕ → ℕ) (sources : List ℕ) (n : ℕ) (docs : List Doc)
    → cut_to (map length (runs_of count sources (take n docs))) (runs_of count sources docs) ≡ runs_of count sources (take n docs)
