-- A disk in memory, as contracts see it: what it held at first, and what was done to it since.
use Rattle.std.specs.Prelude.{◌≡◌, ◌≢◌, ◌⊎◌, ℕ, ◌+◌, ◌-◌, ◌^◌, ◌==◌, ◌≤◌, min, List, [], ◌∷◌, ◌++◌, Bool, true, length, take, replicate, if◌then◌else◌, Some}
use Rattle.std.specs.List.{list_any}
use Rattle.tf_disk.specs.Disk.{Meaning, written, Torn, Cut}
use Rattle.tf_disk.specs.declared.change.Change.{Change}
use Rattle.tf_disk.specs.declared.change.Change.TheVariants.{Write, Trim, Sync}

-- the bytes at first, all of them on the disk, what was done since, the calls that fail, and the counts of calls,
-- faults and growths that found no memory
pub record DiskState : Type 0 where
  pub first : List ℕ
  pub changes : List Change
  pub failing : List ℕ
  pub calls : ℕ
  pub faults : ℕ
  pub wanted : ℕ

-- what the file holds after a change
abbrev pub changed : Change → List ℕ → List ℕ
changed (Write place bytes is_done) now = if is_done then written now place bytes else now
changed (Trim len is_done) now = if is_done then take len now else now
changed Sync now = now

-- what a crash may leave after a change, done or only begun
abbrev pub left : Change → List ℕ → (List ℕ → Type 0) → List ℕ → Type 0
left (Write place bytes is_done) now images image = (from : List ℕ) × images from × Torn place (length bytes) from image
left (Trim len is_done) now images image = (from : List ℕ) × images from × Cut len from image
left Sync now images image = image ≡ now

-- what the file holds after all the changes
abbrev pub contents : List ℕ → List Change → List ℕ
contents now [] = now
contents now (change ∷ later) = contents (changed change now) later

-- what a crash may leave after all the changes
abbrev pub images_of : List ℕ → (List ℕ → Type 0) → List Change → List ℕ → Type 0
images_of now images [] image = images image
images_of now images (change ∷ later) image = images_of (changed change now) (left change now images) later image

-- what a crash may leave of a disk that held these bytes at first
abbrev pub IsImage : List ℕ → List Change → List ℕ → Type 0
IsImage first changes image = images_of first (λ bytes. bytes ≡ first) changes image

-- what a crash may have left after one of the changes from the t-th on
abbrev pub WasImage : List ℕ → List Change → ℕ → List ℕ → Type 0
WasImage first changes t image = (k : ℕ) × (t ≤ k) × (k ≤ length changes) × IsImage first (take k changes) image

-- what a disk in memory means
abbrev pub in_memory : Meaning DiskState
in_memory = record {
  seen = λ disk. Some (contents disk.first disk.changes);
  may_leave = λ disk image. IsImage disk.first disk.changes image;
  moment = λ disk. length disk.changes;
  left_since = λ disk t image. WasImage disk.first disk.changes t image;
  faults = λ disk. disk.faults;
}

-- the next number of a count that stays at the largest u64
abbrev pub counted : ℕ → ℕ
counted count = min (count + 1) (2 ^ 64 - 1)

-- the call is in the list
abbrev pub is_listed : List ℕ → ℕ → Bool
is_listed calls call = list_any (λ listed. listed == call) calls

-- what one image holds after a change: whole where some are left to keep, else with the fill in its range, or uncut
abbrev pub imaged : ℕ → ℕ → Change → List ℕ → List ℕ → List ℕ
imaged fill to_keep (Write place bytes is_done) now image = written image place (if to_keep == 0 then replicate (length bytes) fill else bytes)
imaged fill to_keep (Trim len is_done) now image = if to_keep == 0 then image else take len image
imaged fill to_keep Sync now image = now

-- how many are left to keep after a change; a sync begins anew
abbrev pub to_keep_after : ℕ → Change → ℕ → ℕ
to_keep_after keep (Write place bytes is_done) to_keep = to_keep - 1
to_keep_after keep (Trim len is_done) to_keep = to_keep - 1
to_keep_after keep Sync to_keep = keep

-- one image that a crash may leave: of the changes since the last sync the first ones are whole
abbrev pub image_from : ℕ → ℕ → List Change → List ℕ → List ℕ → ℕ → List ℕ
image_from fill keep [] now image to_keep = image
image_from fill keep (change ∷ later) now image to_keep = image_from fill keep later (changed change now) (imaged fill to_keep change now image) (to_keep_after keep change to_keep)

-- A call counts itself, and fails where it is listed or found no memory. A fault is counted only for one of the two.
pub record IsCall (old new : DiskState) (is_failed : Bool) : Type 0 where
  pub counted_by_one : new.calls ≡ counted old.calls
  pub same_list : new.failing ≡ old.failing
  pub listed_fails : is_listed old.failing (counted old.calls) ≡ true → is_failed ≡ true
  pub wanted_fails : old.wanted ≢ new.wanted → is_failed ≡ true
  pub fault_has_cause : old.faults ≢ new.faults → (is_listed old.failing (counted old.calls) ≡ true) ⊎ (new.wanted ≡ counted old.wanted)

-- a call adds this change to those that were made, or none where it found no memory
abbrev pub Adds : Change → DiskState → DiskState → Type 0
Adds change old new = (new.changes ≡ old.changes ++ change ∷ []) ⊎ ((new.changes ≡ old.changes) × (new.wanted ≡ counted old.wanted))
