-- The laws of late documents and of aligned keys, over histories of legal entries as indices really read their documents. In
-- each, past is a history with its newest entry first.
use Rattle.std.specs.Prelude.{◌≡◌, ℕ, ℤ, true, List, Some, slice_get}
use Rattle.std.specs.List.{list_all}
use Rattle.tf_model.specs.declared.config.SyncTime.{SyncTime}
use Rattle.tf_model.specs.declared.entry.Entry.{Entry}
use Rattle.tf_model.specs.Bounds.{align_step}
use Rattle.tf_history.specs.Catalogue.{catalogue}
use Rattle.tf_history.specs.ConfiguredLaws.{has_stamp}
use Rattle.tf_history.specs.Laws.{AreApart}
use Rattle.tf_history.specs.LegalEntries.{IsLegalPast}
use Rattle.tf_history.specs.Lives.{Life, life}
use Rattle.tf_history.specs.Transforms.{PutTransform, transform_of}
use Rattle.tf_core.specs.Legal.{reading, read, IsTakenPast}

-- entries that were taken are legal
abbrev pub TakenEntriesAreLegal : Type 0
TakenEntriesAreLegal = (past : List Entry) → IsTakenPast past → IsLegalPast reading past

-- where every source of a transform has its sync field as stamp, no document is late
abbrev pub StampedDocumentsAreNeverLate : Type 0
StampedDocumentsAreNeverLate = (past : List Entry) (t : List ℕ) (p : PutTransform) (l : Life) (sync : SyncTime)
    → IsLegalPast reading past → transform_of t past ≡ Some p → life t (read past) ≡ Some l → p.config.sync ≡ Some sync
    → list_all (λ index. has_stamp sync.field (slice_get (catalogue past) index)) p.sources ≡ true → l.late ≡ 0

-- where bounds are aligned to an interval of the keys, no key is changed in two checkpoints
abbrev pub AlignedKeysAreApart : Type 0
AlignedKeysAreApart = (past : List Entry) (t : List ℕ) (p : PutTransform) (l : Life) (step : ℤ)
    → IsLegalPast reading past → transform_of t past ≡ Some p → life t (read past) ≡ Some l → align_step p.config ≡ Some step
    → AreApart l.meaning l.checkpoints
