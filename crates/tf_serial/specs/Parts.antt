-- What calls over a store leave of a history that comes to be entry by entry.
use Rattle.std.specs.Prelude.{◌≡◌, ◌⊎◌, ℕ, ◌+◌, ◌<◌, ◌≤◌, ◌^◌, List, [], ◌++◌, length, reverse, Option, Some, None}
use mathlib.Core.List.{IsPrefix}
use Rattle.tf_model.specs.Causes.{Rose}
use Rattle.tf_model.specs.declared.entry.Entry.{Entry}
use Rattle.tf_disk.specs.Disk.{Meaning}
use Rattle.tf_disk.specs.declared.device.Disk.{Ghosts}
use Rattle.tf_event.specs.Entries.{FitsEntry}
use Rattle.tf_event.specs.declared.grammar.Grammar.TheVariants.{First}
use Rattle.tf_history.specs.Catalogue.{catalogue}
use Rattle.tf_history.specs.Histories.{AllRight, IsRightEvent}
use Rattle.tf_history.specs.Reading.{deed_of}
use Rattle.tf_core.specs.Legal.{IsTaken, read}
use Rattle.tf_mapping.specs.Documents.{values_of}
use Rattle.tf_store.specs.Answers.{frame_size}
use Rattle.tf_store.specs.Words.{broken_at, disk_of, failed_of, file_len, found_of, history_of, opened_at, opened_with}
use Rattle.tf_store.specs.declared.error.StoreError.{StoreError}
use Rattle.tf_store.specs.declared.error.StoreError.TheVariants as store_error
use Rattle.tf_store.specs.declared.state.Store.{Store}
use Rattle.tf_serial.specs.Frames.{Frames}

-- a Page is right after a past; every other entry is
abbrev pub IsRightEntry : List Entry → Entry → Type 0
IsRightEntry past e = IsRightEvent (deed_of values_of (catalogue past) e.kind) (read past)

-- an entry that is taken next, has a spelling and is right
pub record IsNext (past : List Entry) (e : Entry) : Type 0 where
  pub taken : IsTaken past e
  pub fits : FitsEntry First e
  pub right : IsRightEntry past e

-- The first history begins the one that is left, which begins, with the entries that come next behind it, the whole one.
pub record IsPart (first whole left next : List Entry) : Type 0 where
  pub begun : IsPrefix first left
  pub part : IsPrefix (left ++ next) whole

-- the frame that comes next would make the file longer than 2^40 bytes
pub record IsFull (frames : Frames) (first whole left : List Entry) (len : ℕ) : Type 0 where
  pub next : List Entry
  pub frame : frames left next
  pub part : IsPart first whole left next
  pub passes : 2 ^ 40 < len + frame_size next

-- the frame that comes next is not written
pub record IsUnwritten (frames : Frames) (first whole left : List Entry) : Type 0 where
  pub next : List Entry
  pub frame : frames left next
  pub part : IsPart first whole left next

-- Why the way to a whole history ends before it, and what is left then: after a disk fault the entries whose append failed
-- come next, and their frame would not have made the file longer than 2^40 bytes. The entries come in these frames. A store that
-- was broken before, at a count of faults, writes none of them.
abbrev pub IsStop : Frames → List Entry → List Entry → List Entry → List Entry → Option ℕ → Option ℕ → ℕ → ℕ → ℕ → StoreError → Type 0
IsStop frames first whole left failed before broken len faults_before faults_now store_error.Memory = IsPart first whole left [] × (broken ≡ before)
IsStop frames first whole left failed before broken len faults_before faults_now (store_error.Disk count) =
    IsPart first whole left failed × frames left failed × (broken ≡ Some count) × (count ≡ faults_now) × Rose faults_before faults_now × (before ≡ None) × (len + frame_size failed ≤ 2 ^ 40)
IsStop frames first whole left failed before broken len faults_before faults_now (store_error.Broken count) =
    IsUnwritten frames first whole left × (before ≡ Some count) × (broken ≡ Some count)
IsStop frames first whole left failed before broken len faults_before faults_now (store_error.Full told) =
    IsFull frames first whole left len × (told ≡ len) × (broken ≡ None) × (before ≡ None)

-- a store that was broken at a count of faults stays so, and its history as it was
abbrev pub StaysBroken : Option ℕ → List Entry → Option ℕ → List Entry → Type 0
StaysBroken before first broken now = (count : ℕ) → before ≡ Some count → (broken ≡ Some count) × (now ≡ first)

-- What was written fits: all is as it was, or the file has no more than 2^40 bytes.
abbrev pub IsWithin : List Entry → List Entry → ℕ → ℕ → Type 0
IsWithin first now len len_now = ((now ≡ first) × (len_now ≡ len)) ⊎ (len_now ≤ 2 ^ 40)

-- a history goes on as another one, in which the Pages behind it are right
pub record GoesOn (first now : List Entry) : Type 0 where
  pub begun : IsPrefix first now
  pub right : AllRight (length first) (read (reverse now))

-- what was written between two moments of a store fits
module _ {D : Type 0} {g : Ghosts D} where
  abbrev pub Fits : Store D g → Store D g → Type 0
  Fits old new = IsWithin (history_of old) (history_of new) (file_len old) (file_len new)

module _ {D : Type 0} {g : Ghosts D} (m : Meaning D) where
  -- what a call leaves of a store, whatever it answers
  pub record Runs (old new : Store D g) : Type 0 where
    pub history : GoesOn (history_of old) (history_of new)
    pub opened : opened_at new ≡ opened_at old
    pub opened_count : opened_with new ≡ opened_with old
    pub found : found_of new ≡ found_of old
    pub later : m.faults (disk_of old) ≤ m.faults (disk_of new)
    pub stuck : StaysBroken (broken_at old) (history_of old) (broken_at new) (history_of new)

  -- a call stops on the way to a whole history, whose entries come in these frames
  abbrev pub Stops : Frames → Store D g → List Entry → Store D g → StoreError → Type 0
  Stops frames old whole new error =
      IsStop frames (history_of old) whole (history_of new) (failed_of new) (broken_at old) (broken_at new) (file_len new) (m.faults (disk_of old)) (m.faults (disk_of new)) error
