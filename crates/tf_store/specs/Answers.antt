-- What the calls of a store answer, and why.
use Rattle.std.specs.Prelude.{◌≡◌, ◌⊎◌, ℕ, ◌+◌, ◌^◌, ◌<◌, ◌≤◌, List, [], ◌∷◌, ◌++◌, length, Bool, true, false, Result, Ok, Err, Some, None, IfErr}
use Rattle.std.specs.declared.option.Option.{Option}
use Rattle.tf_model.specs.Causes.{Rose}
use Rattle.tf_model.specs.declared.entry.Entry.{Entry}
use Rattle.tf_disk.specs.Disk.{Meaning, Tells}
use Rattle.tf_journal.specs.Crashes.{LeavesNothingNew}
use Rattle.tf_journal.specs.declared.error.JournalError.{JournalError}
use Rattle.tf_journal.specs.declared.error.JournalError.TheVariants as journal_error
use Rattle.tf_event.specs.Entries.{spelled_entries}
use Rattle.tf_event.specs.declared.grammar.Grammar.TheVariants.{First}
use Rattle.tf_core.specs.Legal.{AreTakenAfter}
use Rattle.tf_store.specs.Histories.{Spells, IsDamagedAfter, HasDamage, HasDamagedBody, HasDamagedBytes}
use Rattle.tf_store.specs.Crashes.{IsOpened}
use Rattle.tf_store.specs.declared.error.OpenError.{OpenError}
use Rattle.tf_store.specs.declared.error.OpenError.TheVariants as open_error
use Rattle.tf_store.specs.declared.error.StoreError.{StoreError}
use Rattle.tf_store.specs.declared.error.StoreError.TheVariants as store_error

-- how many bytes the frame of these entries adds to the file
abbrev pub frame_size : List Entry → ℕ
frame_size entries = length (spelled_entries First entries) + 9

-- how many bytes these entries add to the file: those of one frame, where there are any
abbrev pub added_size : List Entry → ℕ
added_size [] = 0
added_size (e ∷ entries) = frame_size (e ∷ entries)

-- the body of one of the frames is damaged, or memory is wanted
abbrev pub IsReplayRefusal : List (List ℕ) → OpenError → Type 0
IsReplayRefusal bodies open_error.Memory = Unit {0}
IsReplayRefusal bodies (open_error.Damaged frame) = HasDamagedBody bodies frame
IsReplayRefusal bodies (open_error.DiskFault count) = ⊥

-- the entries are taken one after another, and are then in the history; or they are not taken
abbrev pub TakesEntries : List Entry → List Entry → List Entry → Bool → Type 0
TakesEntries old entries new true = AreTakenAfter old entries × (new ≡ old ++ entries)
TakesEntries old entries new false = AreTakenAfter old entries → ⊥

-- the body spells entries that are taken, and they are then in the history; or the body is damaged
abbrev pub TakesBody : List Entry → List ℕ → List Entry → Bool → Type 0
TakesBody old body new true = (entries : List Entry) × Spells body entries × AreTakenAfter old entries × (new ≡ old ++ entries)
TakesBody old body new false = IsDamagedAfter old body

-- what damage is found behind frames, where a later one is damaged by its bytes
abbrev pub IsDamageRefusal : List (List ℕ) → ℕ → OpenError → Type 0
IsDamageRefusal bodies broken open_error.Memory = Unit {0}
IsDamageRefusal bodies broken (open_error.Damaged frame) = HasDamagedBody bodies frame ⊎ HasDamagedBytes bodies broken frame
IsDamageRefusal bodies broken (open_error.DiskFault count) = ⊥

-- why a store is not opened where its journal is not
abbrev pub IsRefusalOf : JournalError → OpenError → Type 0
IsRefusalOf journal_error.Memory error = error ≡ open_error.Memory
IsRefusalOf (journal_error.DiskFault count) error = error ≡ open_error.DiskFault count
IsRefusalOf (journal_error.Damaged frame before) error = IsDamageRefusal before frame error
IsRefusalOf (journal_error.Broken count) error = Unit {0}
IsRefusalOf (journal_error.Full len) error = Unit {0}

-- What a commit answers where the store is not broken: the number of the last entry, `Disk` only where the count of
-- faults rose, and `Full` exactly where the file would pass 2 ^ 40 bytes.
abbrev pub SoundAnswer : ℕ → ℕ → ℕ → ℕ → ℕ → Result ℕ StoreError → Type 0
SoundAnswer len size number faults_before faults_now (Ok told) = (told ≡ number) × (len + size ≤ 2 ^ 40)
SoundAnswer len size number faults_before faults_now (Err store_error.Memory) = Unit {0}
SoundAnswer len size number faults_before faults_now (Err (store_error.Disk count)) = Rose faults_before faults_now × (count ≡ faults_now) × (len + size ≤ 2 ^ 40)
SoundAnswer len size number faults_before faults_now (Err (store_error.Broken count)) = ⊥
SoundAnswer len size number faults_before faults_now (Err (store_error.Full told)) = (told ≡ len) × (2 ^ 40 < len + size)

-- `Broken` comes exactly where an earlier commit answered `Disk`, with the count of that time.
abbrev pub CommitAnswers : Option ℕ → ℕ → ℕ → ℕ → ℕ → ℕ → Result ℕ StoreError → Type 0
CommitAnswers (Some count) len size number faults_before faults_now result = result ≡ Err (store_error.Broken count)
CommitAnswers None len size number faults_before faults_now result = SoundAnswer len size number faults_before faults_now result

-- a result with its value replaced by a number
abbrev pub counted : {A : Type 0} → ℕ → Result A StoreError → Result ℕ StoreError
counted number (Ok value) = Ok number
counted number (Err error) = Err error

-- what holds where memory was not wanted
abbrev pub OrMemory : Result ℕ StoreError → Type 0 → Type 0
OrMemory (Ok told) P = P
OrMemory (Err store_error.Memory) P = Unit {0}
OrMemory (Err (store_error.Disk count)) P = P
OrMemory (Err (store_error.Broken count)) P = P
OrMemory (Err (store_error.Full len)) P = P

-- What a call answers that finds out what is to be committed. It may want memory for that, also where the store is broken.
-- Where there are no entries it is refused for nothing else.
abbrev pub SubmitAnswers : List Entry → Option ℕ → ℕ → ℕ → ℕ → ℕ → Result ℕ StoreError → Type 0
SubmitAnswers [] broken len number faults_before faults_now result = IfErr result (λ error. error ≡ store_error.Memory)
SubmitAnswers (e ∷ entries) broken len number faults_before faults_now result = OrMemory result (CommitAnswers broken len (frame_size (e ∷ entries)) number faults_before faults_now result)

-- what holds where a commit made no call of the disk
abbrev pub OnNoCall : Result ℕ StoreError → Type 0 → Type 0
OnNoCall (Ok told) P = Unit {0}
OnNoCall (Err (store_error.Disk count)) P = Unit {0}
OnNoCall (Err store_error.Memory) P = P
OnNoCall (Err (store_error.Broken count)) P = P
OnNoCall (Err (store_error.Full len)) P = P

-- the history after a commit
abbrev pub history_after : List Entry → List Entry → Result ℕ StoreError → List Entry
history_after history entries (Ok told) = history ++ entries
history_after history entries (Err error) = history

-- whether a store is broken after a commit
abbrev pub broken_after : Option ℕ → Result ℕ StoreError → Option ℕ
broken_after broken (Ok told) = broken
broken_after broken (Err (store_error.Disk count)) = Some count
broken_after broken (Err store_error.Memory) = broken
broken_after broken (Err (store_error.Broken count)) = broken
broken_after broken (Err (store_error.Full len)) = broken

-- the entries whose append failed, after a commit
abbrev pub failed_after : List Entry → List Entry → Result ℕ StoreError → List Entry
failed_after failed entries (Ok told) = failed
failed_after failed entries (Err (store_error.Disk count)) = entries
failed_after failed entries (Err store_error.Memory) = failed
failed_after failed entries (Err (store_error.Broken count)) = failed
failed_after failed entries (Err (store_error.Full len)) = failed

module _ {D : Type 0} (m : Meaning D) where
  -- The bytes of the disk were read, and each image since the first sync has what they have.
  pub record LeavesContent (old new : D) : Type 0 where
    pub synced : D
    pub bytes : List ℕ
    pub told : Tells (m.seen old) bytes
    pub opened : IsOpened m old synced new bytes

  -- why an opening was refused, and what it left
  abbrev pub IsOpenRefusal : D → D → OpenError → Type 0
  IsOpenRefusal old new open_error.Memory = LeavesContent old new
  IsOpenRefusal old new (open_error.Damaged frame) = (r : LeavesContent old new) × HasDamage r.bytes frame
  IsOpenRefusal old new (open_error.DiskFault count) = Rose (m.faults old) (m.faults new) × (count ≡ m.faults new) × (LeavesNothingNew m old new ⊎ LeavesContent old new)
