-- Stamps and aligned bounds, in the words of configurations.
use Rattle.std.specs.Prelude.{◌≡◌, ℕ, ℤ, pos, ◌<ℤ◌, ◌≤ℤ◌, Bool, true, false, List, Option, Some, None, slice_get, int_le}
use Rattle.std.specs.List.{list_all}
use Rattle.std.specs.Str.{bytes_eq}
use Rattle.tf_model.specs.declared.tree.Tree.{Tree}
use Rattle.tf_model.specs.declared.value.Value.TheVariants.{Date}
use Rattle.tf_model.specs.declared.config.SyncTime.{SyncTime}
use Rattle.tf_model.specs.declared.entry.Entry.{Entry}
use Rattle.tf_model.specs.Values.{value_at}
use Rattle.tf_model.specs.Keys.{least_date}
use Rattle.tf_model.specs.Bounds.{align_step}
use Rattle.tf_history.specs.Catalogue.{SourceIndex, ValuesOf, catalogue}
use Rattle.tf_history.specs.Transforms.{PutTransform, transform_of}
use Rattle.tf_history.specs.Lives.{Life, life, written}
use Rattle.tf_history.specs.Legality.{IsLegal}
use Rattle.tf_history.specs.Laws.{AreApart}
use Rattle.tf_history.specs.Reading.{events}
use Rattle.tf_history.specs.LegalEntries.{Reading, IsLegalPast}

-- whether a field is an index's stamp
abbrev pub is_stamp : List ℕ → Option (List ℕ) → Bool
is_stamp field None = false
is_stamp field (Some stamp) = bytes_eq stamp field

-- whether an index is there and has a field as its stamp
abbrev pub has_stamp : List ℕ → Option SourceIndex → Bool
has_stamp field None = false
has_stamp field (Some s) = is_stamp field s.stamp

-- what an index reads has its entry's moment in the stamp's field
abbrev pub ReadsStamps : Reading → Type 0
ReadsStamps reading = (s : SourceIndex) (moment : ℤ) (tree : Tree) (field : List ℕ) → reading.is_read s moment tree ≡ true → s.stamp ≡ Some field
    → value_at (reading.values_of s.mapping s.stamp tree) field ≡ Some (Date moment)

-- where every source of a transform has its sync field as stamp, no document is late
abbrev pub StampedSourcesAreNeverLate : Type 0
StampedSourcesAreNeverLate = (reading : Reading) (past : List Entry) (t : List ℕ) (p : PutTransform) (l : Life) (sync : SyncTime)
    → ReadsStamps reading → IsLegalPast reading past → transform_of t past ≡ Some p → life t (events reading.values_of past) ≡ Some l
    → p.config.sync ≡ Some sync → pos 0 ≤ℤ sync.delay_ms
    → list_all (λ index. has_stamp sync.field (slice_get (catalogue past) index)) p.sources ≡ true → l.late ≡ 0

-- whether a sync value that is there is in the range of dates
abbrev pub is_not_early : Option ℤ → Bool
is_not_early None = true
is_not_early (Some ms) = int_le least_date ms

-- where bounds are aligned to an interval of the keys, no key is changed in two checkpoints
abbrev pub AlignedKeysAppearOnce : Type 0
AlignedKeysAppearOnce = (values_of : ValuesOf) (past : List Entry) (t : List ℕ) (p : PutTransform) (l : Life) (step : ℤ)
    → IsLegal (events values_of past) → transform_of t past ≡ Some p → life t (events values_of past) ≡ Some l
    → align_step p.config ≡ Some step → pos 0 <ℤ step
    → list_all (λ d. is_not_early (l.meaning.sync d)) (written l.meaning (events values_of past)) ≡ true → AreApart l.meaning l.checkpoints
