-- What a crash may leave, told by histories.
use Rattle.std.specs.Prelude.{◌⊎◌, ℕ, List, ◌++◌}
use mathlib.Core.List.{IsPrefix}
use Rattle.tf_model.specs.declared.entry.Entry.{Entry}
use Rattle.tf_disk.specs.Disk.{Meaning}
use Rattle.tf_journal.specs.Crashes.{IsSynced, LeavesOnly}
use Rattle.tf_store.specs.Histories.{Content, Has, HasHistory}

-- the file has this history, with these entries behind it or without them
abbrev pub IsBeforeOrAfter : List Entry → List Entry → List ℕ → Type 0
IsBeforeOrAfter history entries image = HasHistory image history ⊎ HasHistory image (history ++ entries)

-- the file has a history that the first one begins and that begins the last one
pub record IsBetween (first last : List Entry) (image : List ℕ) : Type 0 where
  pub history : List Entry
  pub has : HasHistory image history
  pub begun : IsPrefix first history
  pub begins : IsPrefix history last

-- the file has what these bytes have, a history or a least damaged frame
abbrev pub HasTheSame : List ℕ → List ℕ → Type 0
HasTheSame bytes image = (content : Content) → Has bytes content → Has image content

module _ {D : Type 0} (m : Meaning D) where
  -- An opening begins with a sync. Each image since then has what these bytes have.
  pub record IsOpened (old synced new : D) (bytes : List ℕ) : Type 0 where
    pub first_sync : IsSynced m old synced
    pub since : LeavesOnly m synced new (HasTheSame bytes)

  -- each image since the first sync has a history that the first one begins and that begins the last one
  pub record Keeps (synced : D) (first last : List Entry) (disk : D) : Type 0 where
    pub begins : IsPrefix first last
    pub since : LeavesOnly m synced disk (IsBetween first last)
