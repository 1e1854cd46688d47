-- What a change does to the meanings of a disk in memory.
use Rattle.std.proofs.Common.{◌≡◌, ◌⊎◌, inl, inr, ℕ, ◌≤◌, List, [], ◌∷◌, ◌++◌, Bool, true, length, refl, sym, ◌∙◌, ap, subst, arith, length-append, Some, Result, Ok, Err, OnOk, is_ok}
use Rattle.std.proofs.lemmas.List.{take-append-le, take_all}
use Rattle.std.proofs.lemmas.Bool.{cases_lt}
use Rattle.tf_disk.specs.Disk.{Torn, Cut, Kept, Follows, Writes, Cuts, Makes}
use Rattle.tf_disk.specs.InMemory.{DiskState, changed, left, contents, images_of, IsImage, WasImage, in_memory}
use Rattle.tf_disk.specs.MemoryLaws.{contents_is_image}
use Rattle.tf_disk.specs.declared.change.Change.{Change}
use Rattle.tf_disk.specs.declared.change.Change.TheVariants.{Write, Trim, Sync}

pub contents-push : (changes : List Change) (now : List ℕ) (change : Change) → contents now (changes ++ change ∷ []) ≡ changed change (contents now changes)
contents-push [] now change = refl
contents-push (c ∷ changes) now change = contents-push changes (changed c now) change

images-push : (changes : List Change) (now : List ℕ) (images : List ℕ → Type 0) (change : Change) (image : List ℕ) → images_of now images (changes ++ change ∷ []) image → left change (contents now changes) (images_of now images changes) image
images-push [] now images change image is = is
images-push (c ∷ changes) now images change image is = images-push changes (changed c now) (left c now images) change image is

module _ (first : List ℕ) (changes : List Change) (change : Change) where
  abbrev more : List Change
  more = changes ++ change ∷ []

  since_more : (t : ℕ) (image : List ℕ) → t ≤ length changes → WasImage first more t image → WasImage first changes t image ⊎ IsImage first more image
  since_more t image le was = elim (cases_lt (length changes) was.0) [
    | inl past ↦ inr (subst (λ (l : List Change). IsImage first l image) (take_all was.0 more (omega (arith, length-append changes (change ∷ [])))) was.3)
    | inr within ↦ inl (was.0, was.1, within, subst (λ (l : List Change). IsImage first l image) (take-append-le was.0 changes (change ∷ []) within) was.3)
  ]

  since_kept : (t : ℕ) (image : List ℕ) → WasImage first changes t image → WasImage first more t image
  since_kept t image was = (
    was.0,
    was.1,
    omega (arith, was.2, length-append changes (change ∷ [])),
    subst (λ (l : List Change). IsImage first l image) (sym (take-append-le was.0 changes (change ∷ []) was.2)) was.3,
  )

  makes_at : (old new : DiskState) (step : List ℕ → List ℕ → Type 0) → old.first ≡ first → old.changes ≡ changes → new.first ≡ first → new.changes ≡ more
      → Follows step (IsImage first changes) (left change (contents first changes) (IsImage first changes)) → Makes in_memory step old new
  makes_at old new step of oc nf nc follows = record {
    tells = refl;
    images = λ image is.
        let here : IsImage first more image = subst (λ (p : List ℕ × List Change). IsImage p.0 p.1 image) (λ i. (nf i, nc i)) is in
        let from = follows image (images-push changes first (λ bytes. bytes ≡ first) change image here) in (
          from.0,
          subst (λ (p : List ℕ × List Change). IsImage p.0 p.1 from.0) (sym (λ i. (of i, oc i))) from.1,
          from.2,
        );
    later = omega (arith, ap length oc, ap length nc, length-append changes (change ∷ []));
    nothing_else = λ t image le was.
        elim (since_more t image (omega (arith, le, ap length oc)) (subst (λ (p : List ℕ × List Change). WasImage p.0 p.1 t image) (λ i. (nf i, nc i)) was)) [
          | inl before ↦ inl (subst (λ (p : List ℕ × List Change). WasImage p.0 p.1 t image) (sym (λ i. (of i, oc i))) before)
          | inr now ↦ inr (subst (λ (p : List ℕ × List Change). IsImage p.0 p.1 image) (sym (λ i. (nf i, nc i))) now)
        ];
    keeps = λ t image le was.
        subst (λ (p : List ℕ × List Change). WasImage p.0 p.1 t image) (sym (λ i. (nf i, nc i)))
        (since_kept t image (subst (λ (p : List ℕ × List Change). WasImage p.0 p.1 t image) (λ i. (of i, oc i)) was));
  }

-- a change that the disk kept
pub makes_change : (old new : DiskState) (change : Change) (step : List ℕ → List ℕ → Type 0) → new.first ≡ old.first → new.changes ≡ old.changes ++ change ∷ []
    → Follows step (IsImage old.first old.changes) (left change (contents old.first old.changes) (IsImage old.first old.changes)) → Makes in_memory step old new
makes_change old new change step first changes follows = makes_at old.first old.changes change old new step refl refl first changes follows

-- what a read gives after it
pub contents_after : (old new : DiskState) (change : Change) → new.first ≡ old.first → new.changes ≡ old.changes ++ change ∷ [] → contents new.first new.changes ≡ changed change (contents old.first old.changes)
contents_after old new change first changes = (λ i. contents (first i) (changes i)) ∙ contents-push old.changes old.first change

module _ (old new : DiskState) (first : new.first ≡ old.first) where
  pub writes : {T E : Type 0} (place : ℕ) (bytes : List ℕ) (result : Result T E) → new.changes ≡ old.changes ++ Write place bytes (is_ok result) ∷ []
      → OnOk result (Writes place bytes (Some (contents old.first old.changes)) (Some (contents new.first new.changes)))
  writes place bytes (Ok x) changes = λ l same. let here : contents new.first new.changes ≡ _ = contents_after old new (Write place bytes true) first changes in let from : contents old.first old.changes ≡ l = cc in cc
  writes place bytes (Err e) changes = tt

  pub makes_write : (place : ℕ) (bytes : List ℕ) (is_done : Bool) → new.changes ≡ old.changes ++ Write place bytes is_done ∷ [] → Makes in_memory (Torn place (length bytes)) old new
  makes_write place bytes is_done changes = makes_change old new (Write place bytes is_done) (Torn place (length bytes)) first changes (λ image is. is)

  pub cuts : {T E : Type 0} (len : ℕ) (result : Result T E) → new.changes ≡ old.changes ++ Trim len (is_ok result) ∷ []
      → OnOk result (Cuts len (Some (contents old.first old.changes)) (Some (contents new.first new.changes)))
  cuts len (Ok x) changes = λ l same. let here : contents new.first new.changes ≡ _ = contents_after old new (Trim len true) first changes in let from : contents old.first old.changes ≡ l = cc in cc
  cuts len (Err e) changes = tt

  pub makes_cut : (len : ℕ) (is_done : Bool) → new.changes ≡ old.changes ++ Trim len is_done ∷ [] → Makes in_memory (Cut len) old new
  makes_cut len is_done changes = makes_change old new (Trim len is_done) (Cut len) first changes (λ image is. is)

  pub makes_sync : new.changes ≡ old.changes ++ Sync ∷ [] → Makes in_memory Kept old new
  makes_sync changes = makes_change old new Sync Kept first changes (λ image is. (contents old.first old.changes, contents_is_image old.first old.changes, is))

  pub durable : new.changes ≡ old.changes ++ Sync ∷ [] → (image : List ℕ) → IsImage new.first new.changes image → Some (contents new.first new.changes) ≡ Some image
  durable changes image is =
      let now : image ≡ contents old.first old.changes = images-push old.changes old.first (λ bytes. bytes ≡ old.first) Sync image (subst (λ (p : List ℕ × List Change). IsImage p.0 p.1 image) (λ i. (first i, changes i)) is) in
      ap Some (contents_after old new Sync first changes ∙ sym now)
