-- What is known of a store after its opening, and what a refused one left.
use Rattle.std.proofs.Common.{◌≡◌, inl, inr, ⊎_elim, ℕ, List, length, take, refl, sym, subst, arith, None, Option}
use Rattle.std.proofs.lemmas.List.{take_all}
use Rattle.tf_model.specs.declared.entry.Entry.{Entry}
use Rattle.tf_disk.specs.Disk.{Meaning, Tells}
use Rattle.tf_journal.specs.Frames.{reading, whole, damaged}
use Rattle.tf_journal.specs.Crashes as frames
use Rattle.tf_journal.specs.Answers as journal_answers
use Rattle.tf_journal.specs.Standing as journal
use Rattle.tf_journal.specs.declared.state.Journal.{Journal}
use Rattle.tf_journal.specs.declared.error.JournalError.{JournalError}
use Rattle.tf_journal.specs.declared.error.JournalError.TheVariants as journal_error
use Rattle.tf_store.specs.Histories.{Holds, history, damage}
use Rattle.tf_store.specs.Crashes.{IsOpened, Keeps}
use Rattle.tf_store.specs.Standing.{KnownAt, IsKnown, IsFound}
use Rattle.tf_store.specs.Answers.{IsReplayRefusal, IsRefusalOf, LeavesContent, IsOpenRefusal}
use Rattle.tf_store.specs.declared.error.OpenError.{OpenError}
use Rattle.tf_store.specs.declared.error.OpenError.TheVariants as open_error
use Rattle.tf_store.proofs.Contents.{has_what, holds_spelled, holds_taken}
use Rattle.tf_store.proofs.Crashing.{stands_for, opened_same, keeps_opened}

module _ {D : Type 0} (m : Meaning D) (old : D) where
  module _ (new : D) (bodies : List (List ℕ)) (len : ℕ) (synced : D) (is : journal.IsFound m old new bodies len synced) where
    abbrev opened_to : IsOpened m old synced new is.bytes
    opened_to = opened_same m old synced new is.bytes (whole bodies) is.read is.opened

    abbrev content_left : LeavesContent m old new
    content_left = record { synced = synced; bytes = is.bytes; told = is.told; opened = opened_to }

    -- the history of the frames was found
    pub found_history : (held : List Entry) → Holds bodies held → journal.HasFrames m bodies len new → IsFound m old new held len synced
    found_history held holds file = record {
      bytes = is.bytes;
      told = is.told;
      has = has_what (whole bodies) is.bytes (history held) is.read holds;
      opened = opened_to;
      stands = stands_for m bodies held len new holds file;
    }

    -- the frames hold no history, or memory was wanted
    pub replay_refused : (error : OpenError) → IsReplayRefusal bodies error → IsOpenRefusal m old new error
    replay_refused open_error.Memory refused = content_left
    replay_refused (open_error.Damaged frame) refused = (content_left, has_what (whole bodies) is.bytes (damage frame) is.read refused)
    replay_refused (open_error.DiskFault count) refused = absurd refused

  -- just after an opening
  pub known_opened : (opened : Journal D) (held failed : List Entry) (found : ℕ) → IsFound m old (journal.disk_of opened) held (journal.file_len opened) (journal.opened_at opened) → found ≡ length held → journal.broken_at opened ≡ None → IsKnown m found held failed opened
  known_opened opened held failed found is count unbroken = record {
    within = omega (arith, count);
    taken = holds_taken is.stands.frames held is.stands.holds;
    spelled = holds_spelled is.stands.frames held is.stands.holds;
    crashes = subst (λ (b : Option ℕ). KnownAt b m (journal.opened_at opened) (take found held) held failed (journal.file_len opened) (journal.disk_of opened)) (sym unbroken)
        (is.stands, subst (λ (l : List Entry). Keeps m (journal.opened_at opened) l held (journal.disk_of opened)) (sym (take_all found held (omega (arith, count)))) (keeps_opened m old (journal.opened_at opened) (journal.disk_of opened) is.bytes held is.has is.opened));
  }

  -- the journal was not opened
  pub journal_refused : (new : D) (why : JournalError) (error : OpenError) → journal_answers.IsOpenRefusal m old new why → IsRefusalOf why error → IsOpenRefusal m old new error
  journal_refused new journal_error.Memory error is same =
      subst (λ (e : OpenError). IsOpenRefusal m old new e) (sym same) (record { synced = is.0; bytes = is.1; told = is.2; opened = opened_same m old is.0 new is.1 (reading is.1) refl is.3 })
  journal_refused new (journal_error.DiskFault count) error is same =
      subst (λ (e : OpenError). IsOpenRefusal m old new e) (sym same)
      (is.0, is.1, ⊎_elim (λ nothing. inl nothing) (λ (r : (synced : D) × (bytes : List ℕ) × Tells (m.seen old) bytes × frames.IsOpened m old synced new (reading bytes)). inr (record { synced = r.0; bytes = r.1; told = r.2; opened = opened_same m old r.0 new r.1 (reading r.1) refl r.3 })) is.2)
  journal_refused new (journal_error.Damaged frame before) open_error.Memory is same = record { synced = is.0; bytes = is.1; told = is.2; opened = opened_same m old is.0 new is.1 (reading is.1) refl is.4 }
  journal_refused new (journal_error.Damaged frame before) (open_error.Damaged other) is same =
      (record { synced = is.0; bytes = is.1; told = is.2; opened = opened_same m old is.0 new is.1 (reading is.1) refl is.4 }, has_what (damaged frame before) is.1 (damage other) is.3 same)
  journal_refused new (journal_error.Damaged frame before) (open_error.DiskFault count) is same = absurd same
  journal_refused new (journal_error.Broken count) error is same = absurd is
  journal_refused new (journal_error.Full len) error is same = absurd is
