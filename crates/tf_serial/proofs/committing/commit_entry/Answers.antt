use Rattle.std.proofs.Common.{◌≡◌, ◌∷◌, [], ◌++◌, List, length, refl, sym, ap, subst, ◌∙◌, arith, rules}
use Rattle.tf_model.specs.declared.entry.Entry.{Entry}
use Rattle.tf_event.specs.Entries.{IsBody}
use Rattle.tf_event.specs.declared.grammar.Grammar.TheVariants.{First}
use Rattle.tf_core.specs.Legal.{AreTakenAfter}
use Rattle.tf_store.specs.Answers.{frame_size}
use Rattle.tf_store.specs.Words.{broken_at, disk_of, failed_of, file_len, history_of}
use Rattle.std.specs.Prelude.{IfErr}
use Rattle.tf_store.specs.declared.error.StoreError.TheVariants as store_error
use Rattle.tf_serial.specs.Frames.{IsOnly}
use Rattle.tf_serial.specs.Parts.{Stops}
use Rattle.tf_serial.proofs.GoingOn.{runs_entry, runs_itself, runs_same}
use Rattle.tf_serial.proofs.Prefixes.{prefix_more, prefix_self}
use Rattle.tf_serial.proofs.Stopping.{if_memory, memory_at, stop_of_commit, stuck_commit}
use Rattle.tf_serial.specs.Parts.{IsWithin}
use Rattle.std.specs.Prelude.{OnOk, Result, ℕ}
use Rattle.tf_store.specs.declared.error.StoreError.{StoreError}
use Rattle.tf_serial.proofs.Within.{within_commit}
use Rattle.tf_serial.proofs.committing.commit_entry.Goals as goal

pub commit-requires-clause-body : goal.commit-requires-clause-body
commit-requires-clause-body g c =
    subst (λ (es : List Entry). IsBody First es) (sym c.in_ok-entries.ensures) (record { some = omega arith; each = (c.requires.next.fits, tt) })

pub commit-requires-clause-taken : goal.commit-requires-clause-taken
commit-requires-clause-taken g c =
    subst (λ (es : List Entry). AreTakenAfter (history_of c.args.store.now) es) (sym c.in_ok-entries.ensures) (c.requires.next.taken, tt)

pub returns-in-Ok-clause-runs : goal.returns-in-Ok-clause-runs
returns-in-Ok-clause-runs g c =
    runs_entry g.D.Disk.meaning c.args.store.now c.commit.new.self c.args.entry (c.in-Ok.ensures.history ∙ ap (λ (l : List Entry). history_of c.args.store.now ++ l) c.in_ok-entries.ensures) c.requires.next.right c.in-Ok.ensures.opened c.in-Ok.ensures.found c.in-Ok.ensures.later
    (stuck_commit c.commit.result (history_of c.args.store.now) c.in_ok-entries.entries (history_of c.commit.new.self) (broken_at c.args.store.now) (broken_at c.commit.new.self) (file_len c.args.store.now) (frame_size c.in_ok-entries.entries) (length (history_of c.args.store.now ++ c.in_ok-entries.entries)) (g.D.Disk.meaning.faults (disk_of c.args.store.now)) (g.D.Disk.meaning.faults (disk_of c.commit.new.self)) c.commit.ensures.answer c.commit.ensures.history c.commit.ensures.broken)

pub returns-in-Err-clause-stops : goal.returns-in-Err-clause-stops
returns-in-Err-clause-stops g c =
    let m = g.D.Disk.meaning in
    let old = c.args.store.now in
    let new = c.commit.new.self in
    let es = c.in_ok-entries.entries in
    let error = c.in-Err.error in
    subst (λ (l : List Entry). Stops m (IsOnly (history_of old) l) old (history_of old ++ l) new error) c.in_ok-entries.ensures
    (stop_of_commit (history_of old) es (history_of new) (failed_of old) (failed_of new) (broken_at old) (broken_at new) (file_len old) (file_len new) (length (history_of old ++ es)) (m.faults (disk_of old)) (m.faults (disk_of new)) error
    c.in-Err.ensures.answer c.in-Err.ensures.history c.in-Err.ensures.broken c.in-Err.ensures.failed c.in-Err.ensures.same_len)

pub returns-in-Err-clause-runs : goal.returns-in-Err-clause-runs
returns-in-Err-clause-runs g c = runs_same g.D.Disk.meaning c.args.store.now c.commit.new.self c.in-Err.ensures.history c.in-Err.ensures.opened c.in-Err.ensures.found c.in-Err.ensures.later
    (stuck_commit c.commit.result (history_of c.args.store.now) c.in_ok-entries.entries (history_of c.commit.new.self) (broken_at c.args.store.now) (broken_at c.commit.new.self) (file_len c.args.store.now) (frame_size c.in_ok-entries.entries) (length (history_of c.args.store.now ++ c.in_ok-entries.entries)) (g.D.Disk.meaning.faults (disk_of c.args.store.now)) (g.D.Disk.meaning.faults (disk_of c.commit.new.self)) c.commit.ensures.answer c.commit.ensures.history c.commit.ensures.broken)

pub returns-in_err-entries-clause-stops : goal.returns-in_err-entries-clause-stops
returns-in_err-entries-clause-stops g c =
    let old = c.args.store.now in
    let is : IfErr c.from_residual.result (λ e. e ≡ store_error.Memory) = search rules in
    if_memory c.from_residual.result (Stops g.D.Disk.meaning (IsOnly (history_of old) (c.args.entry ∷ [])) old (history_of old ++ c.args.entry ∷ []) old) is
    (memory_at (history_of old) (history_of old) (history_of old ++ c.args.entry ∷ []) (broken_at old) (broken_at old) (prefix_self (history_of old)) (prefix_more (history_of old) (c.args.entry ∷ [])) refl)

pub returns-in_err-entries-clause-runs : goal.returns-in_err-entries-clause-runs
returns-in_err-entries-clause-runs g c = runs_itself g.D.Disk.meaning c.args.store.now

pub returns-in-Ok-clause-within : goal.returns-in-Ok-clause-within
returns-in-Ok-clause-within g c =
    let old = c.args.store.now in
    let new = c.commit.new.self in
    let es = c.in_ok-entries.entries in
    subst (λ (r : Result ℕ StoreError). OnOk r (IsWithin (history_of old) (history_of new) (file_len old) (file_len new))) c.in-Ok.is
    (within_commit c.commit.result (history_of old) es (history_of new) (broken_at old) (file_len old) (file_len new) (length (history_of old ++ es)) (g.D.Disk.meaning.faults (disk_of old)) (g.D.Disk.meaning.faults (disk_of new)) c.commit.ensures.answer c.commit.ensures.len)
