-- The image that a disk in memory makes of itself is one of those that a crash may leave.
use Rattle.std.proofs.Common.{◌≡◌, ℕ, ◌==◌, List, [], ◌∷◌, Bool, true, false, length, take, replicate, if◌then◌else◌, refl, subst}
use Rattle.std.proofs.lemmas.List.{length-replicate}
use Rattle.tf_disk.specs.Disk.{written, Torn, Cut}
use Rattle.tf_disk.specs.InMemory.{changed, left, images_of, IsImage, imaged, to_keep_after, image_from}
use Rattle.tf_disk.specs.MemoryLaws.{torn_written, cut_taken, cut_same}
use Rattle.tf_disk.specs.declared.change.Change.{Change}
use Rattle.tf_disk.specs.declared.change.Change.TheVariants.{Write, Trim, Sync}

torn_filled : (fill : ℕ) (whole : Bool) (place : ℕ) (bytes image : List ℕ) → Torn place (length bytes) image (written image place (if whole then replicate (length bytes) fill else bytes))
torn_filled fill true place bytes image =
    subst (λ (n : ℕ). Torn place n image (written image place (replicate (length bytes) fill))) (length-replicate (length bytes) fill) (torn_written image place (replicate (length bytes) fill))
torn_filled fill false place bytes image = torn_written image place bytes

cut_or_not : (undone : Bool) (len : ℕ) (image : List ℕ) → Cut len image (if undone then image else take len image)
cut_or_not true len image = cut_same len image
cut_or_not false len image = cut_taken len image

imaged_is_left : (fill to_keep : ℕ) (change : Change) (now image : List ℕ) (images : List ℕ → Type 0) → images image → left change now images (imaged fill to_keep change now image)
imaged_is_left fill to_keep (Write place bytes is_done) now image images is = (image, is, torn_filled fill (to_keep == 0) place bytes image)
imaged_is_left fill to_keep (Trim len is_done) now image images is = (image, is, cut_or_not (to_keep == 0) len image)
imaged_is_left fill to_keep Sync now image images is = refl

image_from_is_left : (fill keep : ℕ) (changes : List Change) (now image : List ℕ) (to_keep : ℕ) (images : List ℕ → Type 0) → images image → images_of now images changes (image_from fill keep changes now image to_keep)
image_from_is_left fill keep [] now image to_keep images is = is
image_from_is_left fill keep (change ∷ later) now image to_keep images is =
    image_from_is_left fill keep later (changed change now) (imaged fill to_keep change now image) (to_keep_after keep change to_keep) (left change now images) (imaged_is_left fill to_keep change now image images is)

pub image_is_left : (fill keep : ℕ) (first : List ℕ) (changes : List Change) → IsImage first changes (image_from fill keep changes first first keep)
image_is_left fill keep first changes = image_from_is_left fill keep changes first first keep (λ bytes. bytes ≡ first) refl
