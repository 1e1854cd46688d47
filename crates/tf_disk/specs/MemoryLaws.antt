-- A disk in memory meets the laws of a disk.
use Rattle.std.specs.Prelude.{◌≡◌, ℕ, ◌+◌, ◌-◌, ◌≤◌, min, List, [], ◌∷◌, ◌++◌, true, false, length, take, drop, replicate, Some, refl}
use Rattle.std.proofs.Common.{sym, ap, ◌∙◌, subst, arith, append_assoc, length-append, length-take, length-drop}
use Rattle.std.proofs.lemmas.List.{take_at, drop_at, take_all, take_min, length-replicate}
use Rattle.tf_disk.specs.Disk.{written, Torn, Cut}
use Rattle.tf_disk.specs.InMemory.{DiskState, changed, left, contents, images_of, IsImage, WasImage}
use Rattle.tf_disk.specs.declared.change.Change.{Change}
use Rattle.tf_disk.specs.declared.change.Change.TheVariants.{Write, Trim, Sync}

module _ (old : List ℕ) (place : ℕ) (bytes : List ℕ) where
  abbrev behind : List ℕ
  behind = drop (place + length bytes) old

  abbrev gap : List ℕ
  gap = replicate (place - length old) 0

  front : length (take place old ++ gap ++ bytes) ≡ place + length bytes
  front = omega (arith, length-append (take place old ++ gap) bytes, length-append (take place old) gap, length-take place old, length-replicate {A = ℕ} (place - length old) 0)

  whole : length (written old place bytes) ≡ place + length bytes + (length old - (place + length bytes))
  whole = omega (arith, front, length-append (take place old ++ gap ++ bytes) behind, length-drop (place + length bytes) old)

  apart : written old place bytes ≡ take place old ++ (gap ++ (bytes ++ behind))
  apart = simp append_assoc

  pub torn_written : Torn place (length bytes) old (written old place bytes)
  torn_written = record {
    before = ap (λ (l : List ℕ). take (min place (length old)) l) apart ∙ take_at (take place old) (gap ++ (bytes ++ behind)) (min place (length old)) (length-take place old);
    after = drop_at (take place old ++ gap ++ bytes) behind (place + length bytes) front;
    no_shorter = omega (arith, whole);
    no_longer = omega (arith, whole);
  }

pub torn_same : (place n : ℕ) (bytes : List ℕ) → Torn place n bytes bytes
torn_same place n bytes = record {
  before = ap (λ (k : ℕ). take k bytes) refl ∙ take_min place bytes;
  after = refl;
  no_shorter = omega arith;
  no_longer = omega arith;
}

pub cut_taken : (len : ℕ) (bytes : List ℕ) → Cut len bytes (take len bytes)
cut_taken len bytes = record {
  no_shorter = omega (arith, length-take len bytes);
  front = ap (λ (k : ℕ). take k bytes) (length-take len bytes) ∙ take_min len bytes;
}

pub cut_same : (len : ℕ) (bytes : List ℕ) → Cut len bytes bytes
cut_same len bytes = record { no_shorter = omega arith; front = take_all (length bytes) bytes (omega arith) }

changed_is_left : (change : Change) (now : List ℕ) (images : List ℕ → Type 0) → images now → left change now images (changed change now)
changed_is_left (Write place bytes true) now images here = (now, here, torn_written now place bytes)
changed_is_left (Write place bytes false) now images here = (now, here, torn_same place (length bytes) now)
changed_is_left (Trim len true) now images here = (now, here, cut_taken len now)
changed_is_left (Trim len false) now images here = (now, here, cut_same len now)
changed_is_left Sync now images here = refl

contents_are_left : (changes : List Change) (now : List ℕ) (images : List ℕ → Type 0) → images now → images_of now images changes (contents now changes)
contents_are_left [] now images here = here
contents_are_left (change ∷ later) now images here = contents_are_left later (changed change now) (left change now images) (changed_is_left change now images here)

-- what the file holds is one of the images
pub contents_is_image : (first : List ℕ) (changes : List Change) → IsImage first changes (contents first changes)
contents_is_image first changes = contents_are_left changes first (λ bytes. bytes ≡ first) refl

pub read_is_image : (disk : DiskState) (bytes : List ℕ) → Some (contents disk.first disk.changes) ≡ Some bytes → IsImage disk.first disk.changes bytes
read_is_image disk bytes same =
    let here : contents disk.first disk.changes ≡ bytes = cc in
    subst (λ (l : List ℕ). IsImage disk.first disk.changes l) here (contents_is_image disk.first disk.changes)

pub image_was : (disk : DiskState) (t : ℕ) (image : List ℕ) → t ≤ length disk.changes → IsImage disk.first disk.changes image → WasImage disk.first disk.changes t image
image_was disk t image le now =
    let all : disk.changes ≡ take (length disk.changes) disk.changes = sym (take_all (length disk.changes) disk.changes (omega arith)) in
    (length disk.changes, le, omega arith, subst (λ (l : List Change). IsImage disk.first l image) all now)

pub was_image_now : (disk : DiskState) (image : List ℕ) → WasImage disk.first disk.changes (length disk.changes) image → IsImage disk.first disk.changes image
was_image_now disk image was = subst (λ (l : List Change). IsImage disk.first l image) (take_all was.0 disk.changes was.1) was.3
