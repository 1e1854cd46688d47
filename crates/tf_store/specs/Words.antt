-- What contracts see of a store.
use Rattle.std.specs.Prelude.{ℕ, List}
use Rattle.std.specs.declared.option.Option.{Option}
use Rattle.tf_model.specs.declared.entry.Entry.{Entry}
use Rattle.tf_disk.specs.declared.device.Disk.{Ghosts}
use Rattle.tf_journal.specs.declared.state.Journal.{Journal}
use Rattle.tf_journal.specs.Standing as journal
use Rattle.tf_store.specs.declared.state.Store.{Store}

module _ {D : Type 0} {g : Ghosts D} where
  -- its history, oldest entry first
  abbrev pub history_of : Store D g → List Entry
  history_of store = store.core.history

  -- the entries whose append failed, where it is broken
  abbrev pub failed_of : Store D g → List Entry
  failed_of store = store.failed.value

  -- the found count, which `found` sets
  abbrev pub found_of : Store D g → ℕ
  found_of store = store.core.found

  -- how many entries the opening found
  abbrev pub opened_with : Store D g → ℕ
  opened_with store = store.opened_with.value

  -- its journal
  abbrev pub journal_of : Store D g → Journal D
  journal_of store = store.journal

  -- its disk
  abbrev pub disk_of : Store D g → D
  disk_of store = journal.disk_of store.journal

  -- the length of its file
  abbrev pub file_len : Store D g → ℕ
  file_len store = journal.file_len store.journal

  -- the count of faults at which it broke, where it is broken
  abbrev pub broken_at : Store D g → Option ℕ
  broken_at store = journal.broken_at store.journal

  -- the disk just after the first sync of its opening
  abbrev pub opened_at : Store D g → D
  opened_at store = journal.opened_at store.journal
