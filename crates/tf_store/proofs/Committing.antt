-- What is known of a store after a commit.
use Rattle.std.proofs.Common.{◌≡◌, ℕ, ◌+◌, ◌≤◌, List, [], ◌∷◌, ◌++◌, length, take, refl, sym, ◌∙◌, ap, subst, arith, length-append, Some, None, Option}
use Rattle.std.proofs.lemmas.List.{take-append-le, append-nil}
use Rattle.std.proofs.lemmas.List.Concat.{flat_map-append}
use Rattle.std.specs.List.{flat_map}
use Rattle.std.proofs.Math.Logic.{∥∥₁_elim}
use Rattle.std.proofs.Math.Nat.{ℕ_set}
use Rattle.tf_model.specs.declared.entry.Entry.{Entry}
use Rattle.tf_disk.specs.Disk.{Meaning}
use Rattle.tf_journal.specs.Sizes.{size_bytes}
use Rattle.tf_journal.specs.Frames.{magic, block, opened}
use Rattle.tf_journal.specs.Crashes as frames
use Rattle.tf_journal.specs.Standing as journal
use Rattle.tf_journal.specs.declared.state.Journal.{Journal}
use Rattle.tf_journal.proofs.Moments.{leaves_wider}
use Rattle.tf_core.specs.Legal.{AreTakenAfter}
use Rattle.tf_store.specs.Histories.{Spells}
use Rattle.tf_store.specs.Crashes.{IsBeforeOrAfter, Keeps}
use Rattle.tf_store.specs.Standing.{StandsFor, KnownAt, IsKnown}
use Rattle.tf_store.specs.Answers.{frame_size}
use Rattle.tf_store.proofs.Taken.{history_taken}
use Rattle.tf_store.proofs.Contents.{leads_more, spelled_more}
use Rattle.tf_store.proofs.Crashing.{before_or_after, stands_for, keeps_more}

-- a frame more
length-size : (size : ℕ) → length (size_bytes size) ≡ 8
unfolding size_bytes
length-size size = refl

length-opened : (bodies : List (List ℕ)) (body : List ℕ) → length (opened (bodies ++ body ∷ [])) ≡ length (opened bodies) + (length body + 9)
length-opened bodies body =
    let last : List ℕ = block body ++ [] in
    let all : flat_map block (bodies ++ body ∷ []) ≡ flat_map block bodies ++ last = flat_map-append block bodies (body ∷ []) in
    omega (arith, ap length all, length-append magic (flat_map block (bodies ++ body ∷ [])), length-append magic (flat_map block bodies), length-append (flat_map block bodies) last, ap length (append-nil (block body)), length-append (size_bytes (length body)) body, length-size (length body))

module _ {D : Type 0} (m : Meaning D) (held es : List Entry) (body : List ℕ) (old new : Journal D) (spells : Spells body es) (taken : AreTakenAfter held es) (unbroken : journal.broken_at old ≡ None) where
  -- what an append says of each list of frames
  abbrev pub LeavesFrames : Type 0
  LeavesFrames = (bodies : List (List ℕ)) → journal.StandsFor m bodies old → frames.LeavesOnly m (journal.disk_of old) (journal.disk_of new) (frames.IsBeforeOrAfter bodies body)

  abbrev pub AddsFrame : Type 0
  AddsFrame = (bodies : List (List ℕ)) → journal.StandsFor m bodies old → journal.StandsFor m (bodies ++ body ∷ []) new

  -- a crash leaves the history with the entries or without them
  pub leaves_history : LeavesFrames → StandsFor m held (journal.file_len old) (journal.disk_of old) → frames.LeavesOnly m (journal.disk_of old) (journal.disk_of new) (IsBeforeOrAfter held es)
  leaves_history leaves stands =
      leaves_wider m (journal.disk_of old) (journal.disk_of new) (frames.IsBeforeOrAfter stands.frames body) (IsBeforeOrAfter held es) (leaves stands.frames (unbroken, stands.file)) (before_or_after stands.frames body held es stands.holds spells taken)

  -- the file has the history with the entries
  pub stands_more : AddsFrame → StandsFor m held (journal.file_len old) (journal.disk_of old) → StandsFor m (held ++ es) (journal.file_len new) (journal.disk_of new)
  stands_more adds stands =
      stands_for m (stands.frames ++ body ∷ []) (held ++ es) (journal.file_len new) (journal.disk_of new) (leads_more [] stands.frames body held es stands.holds spells taken) (adds stands.frames (unbroken, stands.file)).1

  -- by how much the file has grown
  pub grows_by : (found : ℕ) (failed : List Entry) → AddsFrame → ∥ IsKnown m found held failed old ∥₁ → journal.file_len new ≡ journal.file_len old + frame_size es
  grows_by found failed adds known = ∥∥₁_elim known (hlevel ℕ_set) by_known
    where
      by_known : IsKnown m found held failed old → journal.file_len new ≡ journal.file_len old + frame_size es
      by_known known =
          let before = subst (λ (b : Option ℕ). KnownAt b m (journal.opened_at old) (take found held) held failed (journal.file_len old) (journal.disk_of old)) unbroken known.crashes in
          let after = adds before.0.frames (unbroken, before.0.file) in
          omega (arith, before.0.file.ends.place, after.1.ends.place, length-opened before.0.frames body, ap length spells.spelling)

  module _ (found : ℕ) (failed : List Entry) (opened : journal.opened_at new ≡ journal.opened_at old) (leaves : LeavesFrames) (known : IsKnown m found held failed old) where
    before : KnownAt None m (journal.opened_at old) (take found held) held failed (journal.file_len old) (journal.disk_of old)
    before = subst (λ (b : Option ℕ). KnownAt b m (journal.opened_at old) (take found held) held failed (journal.file_len old) (journal.disk_of old)) unbroken known.crashes

    kept : Keeps m (journal.opened_at new) (take found held) (held ++ es) (journal.disk_of new)
    kept = subst (λ (synced : D). Keeps m synced (take found held) (held ++ es) (journal.disk_of new)) (sym opened) (keeps_more m (journal.opened_at old) (take found held) held es (journal.disk_of old) (journal.disk_of new) before.1 (leaves_history leaves before.0))

    -- after a commit that answered `Ok`
    pub known_longer : journal.broken_at new ≡ journal.broken_at old → AddsFrame → IsKnown m found (held ++ es) failed new
    known_longer same adds = record {
      within = omega (arith, known.within, length-append held es);
      taken = history_taken held es known.taken taken;
      spelled = spelled_more held es known.spelled spells.has_spelling.each;
      crashes = subst (λ (b : Option ℕ). KnownAt b m (journal.opened_at new) (take found (held ++ es)) (held ++ es) failed (journal.file_len new) (journal.disk_of new)) (sym (same ∙ unbroken))
          (stands_more adds before.0, subst (λ (l : List Entry). Keeps m (journal.opened_at new) l (held ++ es) (journal.disk_of new)) (sym (take-append-le found held es known.within)) kept);
    }

    -- after a commit that answered `Disk`
    pub known_failed : (count : ℕ) → journal.broken_at new ≡ Some count → ((disk : D) (t : ℕ) (image : List ℕ) → t ≤ m.moment disk → m.may_leave disk image → m.left_since disk t image) → IsKnown m found held es new
    known_failed count broke counts_now = record {
      within = known.within;
      taken = known.taken;
      spelled = known.spelled;
      crashes = subst (λ (b : Option ℕ). KnownAt b m (journal.opened_at new) (take found held) held es (journal.file_len new) (journal.disk_of new)) (sym broke)
          (λ image left. (leaves_history leaves before.0).each image (counts_now (journal.disk_of new) (m.moment (journal.disk_of old)) image (leaves_history leaves before.0).later left), kept, taken);
    }
