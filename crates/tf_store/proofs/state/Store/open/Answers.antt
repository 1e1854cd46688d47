use Rattle.std.proofs.Common.{sym, ◌∙◌, subst, List}
use Rattle.tf_model.specs.declared.entry.Entry.{Entry}
use Rattle.tf_journal.specs.Standing.{disk_of, file_len, opened_at}
use Rattle.tf_store.specs.Histories.{Holds}
use Rattle.tf_store.specs.Answers.{IsOpenRefusal}
use Rattle.tf_store.proofs.Opened.{found_history, replay_refused, known_opened, journal_refused}
use Rattle.tf_store.proofs.state.Store.open.Goals as goal

pub invariant_of-result : goal.invariant_of-result
invariant_of-result g c =
    let m = g.D.Disk.meaning in
    let opened = c.in-Ok.journal in
    let held = c.found.new.self.history in
    let holds = subst (λ (l : List Entry). Holds c.in-Ok.frames l) (sym c.found.ensures.history) c.in-Ok-replay.ensures.holds in
    let is = found_history m c.args.disk (disk_of opened) c.in-Ok.frames (file_len opened) (opened_at opened) c.in-Ok.ensures.found held holds c.in-Ok.ensures.stands.1 in record {
      breaks = sym c.in-Ok.ensures.stands.0;
      known = ∣ known_opened m c.args.disk opened held c.of-in-Ok-replay.result.value c.of-in-Ok-replay-2.result.value is (c.of-in-Ok-replay-2.ensures ∙ c.count-count.ensures) c.in-Ok.ensures.stands.0 ∣₁;
    }

pub returns-in-Ok-replay-clause-found : goal.returns-in-Ok-replay-clause-found
returns-in-Ok-replay-clause-found g c =
    let opened = c.in-Ok.journal in
    let holds = subst (λ (l : List Entry). Holds c.in-Ok.frames l) (sym c.found.ensures.history) c.in-Ok-replay.ensures.holds in
    found_history g.D.Disk.meaning c.args.disk (disk_of opened) c.in-Ok.frames (file_len opened) (opened_at opened) c.in-Ok.ensures.found c.found.new.self.history holds c.in-Ok.ensures.stands.1

pub returns-in-Err-replay-clause-refused : goal.returns-in-Err-replay-clause-refused
returns-in-Err-replay-clause-refused g c =
    let opened = c.in-Ok.journal in
    subst (λ d. IsOpenRefusal g.D.Disk.meaning c.args.disk d c.in-Err-replay.error) (sym c.into_disk.ensures) (replay_refused g.D.Disk.meaning c.args.disk (disk_of opened) c.in-Ok.frames (file_len opened) (opened_at opened) c.in-Ok.ensures.found c.in-Err-replay.error c.in-Err-replay.ensures.refused)

pub returns-in-Err-clause-refused : goal.returns-in-Err-clause-refused
returns-in-Err-clause-refused g c = journal_refused g.D.Disk.meaning c.args.disk c.in-Err.disk c.in-Err.error c.refusal.result c.in-Err.ensures.refused c.refusal.ensures
