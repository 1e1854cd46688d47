-- What a store stands for, and what is known of crashes.
use Rattle.std.specs.Prelude.{ℕ, ◌≤◌, List, ◌++◌, length, take, IfSome, Some, None}
use Rattle.std.specs.List.{AllByRecursion}
use Rattle.std.specs.declared.option.Option.{Option}
use Rattle.tf_model.specs.declared.entry.Entry.{Entry}
use Rattle.tf_disk.specs.Disk.{Meaning, Tells}
use Rattle.tf_journal.specs.Standing.{HasFrames, disk_of, file_len, broken_at, opened_at}
use Rattle.tf_journal.specs.declared.state.Journal.{Journal}
use Rattle.tf_event.specs.Entries.{FitsEntry}
use Rattle.tf_event.specs.declared.grammar.Grammar.TheVariants.{First}
use Rattle.tf_core.specs.Legal.{AreTakenAfter, IsTakenHistory}
use Rattle.tf_store.specs.Histories.{Holds, HasHistory}
use Rattle.tf_store.specs.Crashes.{IsBeforeOrAfter, Keeps, IsOpened}

-- This is the history of the disk's bytes, where it tells them, and of each image that a crash now may leave; and the
-- file ends behind its frames.
pub record StandsFor {D : Type 0} (m : Meaning D) (history : List Entry) (len : ℕ) (disk : D) : Type 0 where
  pub frames : List (List ℕ)
  pub holds : Holds frames history
  pub file : HasFrames m frames len disk
  pub reads : IfSome (m.seen disk) (λ bytes. HasHistory bytes history)
  pub images : (image : List ℕ) → m.may_leave disk image → HasHistory image history

-- What is known of each image since the first sync, where first was the history then, and of each that a crash now may
-- leave. Where the store is broken, failed are the entries whose append failed.
abbrev pub KnownAt : {D : Type 0} → Option ℕ → Meaning D → D → List Entry → List Entry → List Entry → ℕ → D → Type 0
KnownAt None m synced first history failed len disk = StandsFor m history len disk × Keeps m synced first history disk
KnownAt (Some count) m synced first history failed len disk = ((image : List ℕ) → m.may_leave disk image → IsBeforeOrAfter history failed image) × Keeps m synced first (history ++ failed) disk × AreTakenAfter history failed

-- What is known of a store with this history, of which the opening found so many entries, whether it is broken or not.
pub record IsKnown {D : Type 0} (m : Meaning D) (found : ℕ) (history failed : List Entry) (journal : Journal D) : Type 0 where
  pub within : found ≤ length history
  pub taken : IsTakenHistory history
  pub spelled : AllByRecursion (FitsEntry First) history
  pub crashes : KnownAt (broken_at journal) m (opened_at journal) (take found history) history failed (file_len journal) (disk_of journal)

-- An opening found this history in the bytes of the disk, and its first sync left the disk so.
pub record IsFound {D : Type 0} (m : Meaning D) (old new : D) (history : List Entry) (len : ℕ) (synced : D) : Type 0 where
  pub bytes : List ℕ
  pub told : Tells (m.seen old) bytes
  pub has : HasHistory bytes history
  pub opened : IsOpened m old synced new bytes
  pub stands : StandsFor m history len new

-- each entry of a history has a spelling
abbrev pub AreSpelled : List Entry → Type 0
AreSpelled history = ∥ AllByRecursion (FitsEntry First) history ∥₁
