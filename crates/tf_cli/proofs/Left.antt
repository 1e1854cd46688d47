-- What a run over a file leaves, from the answers of its steps.
use Rattle.std.proofs.Common.{◌≡◌, ◌⊎◌, ℕ, ◌+◌, ◌<◌, ◌≤◌, ◌^◌, List, Option, None, Some, length, take, reverse, refl, sym, subst, ◌∙◌, arith, inl, inr}
use Rattle.std.specs.Io.KnownBytes.{Appends}
use mathlib.Core.List.{IsPrefix}
use Rattle.tf_model.specs.declared.entry.Entry.{Entry}
use Rattle.tf_disk.specs.Disk.{Meaning}
use Rattle.tf_journal.specs.declared.state.Journal.{Journal}
use Rattle.tf_journal.specs.Standing.{broken_at, disk_of, file_len, opened_at}
use Rattle.tf_store.specs.Answers.{IsOpenRefusal, frame_size}
use Rattle.tf_store.specs.Standing.{IsKnown}
use Rattle.tf_store.specs.declared.error.OpenError.{OpenError}
use Rattle.tf_store.specs.declared.error.OpenError.TheVariants as open_error
use Rattle.tf_store.specs.declared.error.StoreError.{StoreError}
use Rattle.tf_store.specs.declared.error.StoreError.TheVariants as store_error
use Rattle.tf_serial.specs.Frames.{IsOfLines}
use Rattle.tf_serial.specs.Parts.{IsStop, IsWithin}
use Rattle.tf_serial.specs.Script.{history_after, output}
use Rattle.tf_cli.specs.Top.{HoldsAll, IsLeft, IsLeftOver, IsSound, IsWritten, stopped, unopened}
use Rattle.tf_cli.specs.declared.outcome.Outcome.{Outcome}
use Rattle.tf_cli.specs.declared.outcome.Outcome.TheVariants as outcome
use Rattle.tf_cli.proofs.Held.{holds_all, may_hold}

-- a file that is within its bounds after a script is so after the history that the lines make
pub fits_after : (first now last : List Entry) (len len_now : ℕ) → now ≡ last → IsWithin first now len len_now → (last ≡ first) ⊎ (len_now ≤ 2 ^ 40)
fits_after first now last len len_now is (inl same) = inl (sym is ∙ same.0)
fits_after first now last len len_now is (inr few) = inr few

module _ {D : Type 0} (m : Meaning D) (before : D) (written_before written_now : Option (List ℕ)) (sink_before sink_now : ℕ) (lines : List (List ℕ)) (first : List Entry) where
  -- a run that did not open it
  pub refused : (now : D) (e : OpenError) → IsOpenRefusal m before now e → IsLeft m before now written_before written_now sink_before sink_now lines (unopened e)
  refused now open_error.Memory left = inl left
  refused now (open_error.DiskFault count) left = (left.0, inl (record { none = refl; leaves = left.2 }))
  refused now (open_error.Damaged frame) left = record { leaves = left.0; damage = left.1 }

  -- a run that did all lines and came to writing
  pub ran : (now synced : D) (len : ℕ) (o : Outcome) (text : List ℕ) → IsWritten written_before written_now sink_before sink_now text o → text ≡ output (reverse first) 1 lines
      → IsSound first (history_after first lines) → ∥ HoldsAll m synced first (history_after first lines) len now ∥₁ → (history_after first lines ≡ first) ⊎ (len ≤ 2 ^ 40)
      → IsLeftOver m before now written_before written_now sink_before sink_now lines synced first o
  ran now synced len outcome.Done text written is sound held fits = record { wrote = subst (Appends written_before written_now) is written; sound = sound; len = len; held = held; fits = fits }
  ran now synced len (outcome.WriteFault taken) text written is sound held fits = (
    written.0,
    record {
      ran = record { wrote = subst (λ x. Appends written_before written_now (take taken x)) is written.2; sound = sound; len = len; held = held; fits = fits };
      partly = subst (λ x. taken < length x) is written.1;
    },
  )
  ran now synced len (outcome.DiskFault entries) text written is sound held fits = absurd written
  ran now synced len (outcome.Damaged frame) text written is sound held fits = absurd written
  ran now synced len outcome.Memory text written is sound held fits = absurd written
  ran now synced len (outcome.Full full) text written is sound held fits = absurd written

  -- a run whose script stopped
  pub stops : (left failed : List Entry) (found : ℕ) (journal : Journal D) (was : Option ℕ) (e : StoreError) → was ≡ None → found ≡ length first → IsPrefix first left → ∥ IsKnown m found left failed journal ∥₁ → IsSound first left
      → IsStop (IsOfLines (reverse first) 1 lines) first (history_after first lines) left failed was (broken_at journal) (file_len journal) (m.faults before) (m.faults (disk_of journal)) e
      → IsLeftOver m before (disk_of journal) written_before written_now sink_before sink_now lines (opened_at journal) first (stopped e (length left))
  stops left failed found journal was store_error.Memory whole count begun known sound stop = record {
    left = left;
    len = file_len journal;
    stopped = record { stops = stop.0; sound = sound; held = holds_all m first left failed found journal count begun known (stop.1 ∙ whole) };
  }
  stops left failed found journal was (store_error.Disk told) whole count begun known sound stop = (
    stop.4,
    record { left = left; next = failed; frame = stop.1; stops = stop.0; sound = sound; count = refl; held = may_hold m first left failed found journal count begun known told stop.2 },
  )
  stops left failed found journal was (store_error.Broken told) whole count begun known sound stop = absurd (let broken : ◌≡◌ {A = Option ℕ} None (Some told) = sym whole ∙ stop.1 in cc)
  stops left failed found journal was (store_error.Full told) whole count begun known sound stop =
      let len : file_len journal ≡ told = sym stop.1 in
      record {
        left = left;
        next = stop.0.next;
        frame = stop.0.frame;
        stopped = record { stops = stop.0.part; sound = sound; held = subst (λ n. ∥ HoldsAll m (opened_at journal) first left n (disk_of journal) ∥₁) len (holds_all m first left failed found journal count begun known stop.2) };
        passes = subst (λ n. 2 ^ 40 < n + frame_size stop.0.next) len stop.0.passes;
      }
