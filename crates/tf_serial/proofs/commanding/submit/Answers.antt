use Rattle.std.proofs.Common.{◌≡◌, ◌++◌, ℤ, length, subst, rules, to_z, of_z, w64}
use Rattle.std.specs.Prelude.{IfErr, OnOk, reverse}
use Rattle.std.proofs.lemmas.Int.{to_z-of_z}
use Rattle.tf_store.specs.Commands.{entries_of}
use Rattle.tf_store.specs.Words.{broken_at, disk_of, failed_of, file_len, history_of}
use Rattle.tf_serial.specs.Frames.{IsOnly}
use Rattle.tf_serial.specs.Parts.{Stops}
use Rattle.tf_serial.proofs.GoingOn.{runs_submit}
use Rattle.tf_serial.proofs.RightLines.{asked_quiet}
use Rattle.tf_serial.proofs.Stopping.{stop_of_submit, stuck_submit, submit_grows, submit_keeps}
use Rattle.tf_serial.proofs.Within.{within_submit}
use Rattle.tf_serial.proofs.commanding.submit.Goals as goal

pub returns-clause-after : goal.returns-clause-after
returns-clause-after g c =
    let old = history_of c.args.store.now in
    let new = history_of c.submit.new.self in
    let given = to_z w64 (of_z w64 c.args.moment) in
    let same : given ≡ c.args.moment = to_z-of_z w64 c.args.moment (search rules) in
    let es = entries_of old 0 given c.args.command.now in
    subst (λ (ms : ℤ). OnOk c.submit.result (new ≡ old ++ entries_of old 0 ms c.args.command.now)) same (submit_grows c.submit.result (length (old ++ es)) old es new c.submit.ensures.history)

pub returns-clause-broken : goal.returns-clause-broken
returns-clause-broken g c =
    let old = c.args.store.now in
    let es = entries_of (history_of old) 0 (to_z w64 (of_z w64 c.args.moment)) c.args.command.now in
    submit_keeps c.submit.result (length (history_of old ++ es)) (broken_at old) (broken_at c.submit.new.self) c.submit.ensures.broken

pub returns-clause-stops : goal.returns-clause-stops
returns-clause-stops g c =
    let m = g.D.Disk.meaning in
    let old = c.args.store.now in
    let new = c.submit.new.self in
    let given = to_z w64 (of_z w64 c.args.moment) in
    let same : given ≡ c.args.moment = to_z-of_z w64 c.args.moment (search rules) in
    let es = entries_of (history_of old) 0 given c.args.command.now in
    subst (λ (ms : ℤ). IfErr c.submit.result (Stops m (IsOnly (history_of old) (entries_of (history_of old) 0 ms c.args.command.now)) old (history_of old ++ entries_of (history_of old) 0 ms c.args.command.now) new)) same
    (stop_of_submit c.submit.result (history_of old) es (history_of new) (failed_of old) (failed_of new) (broken_at old) (broken_at new) (file_len old) (file_len new) (length (history_of old ++ es)) (m.faults (disk_of old)) (m.faults (disk_of new))
    c.submit.ensures.answer c.submit.ensures.history c.submit.ensures.broken c.submit.ensures.failed c.submit.ensures.same_len)

pub returns-clause-runs : goal.returns-clause-runs
returns-clause-runs g c =
    let old = c.args.store.now in
    let given = to_z w64 (of_z w64 c.args.moment) in
    let es = entries_of (history_of old) 0 given c.args.command.now in
    runs_submit g.D.Disk.meaning c.submit.result old c.submit.new.self (length (history_of old ++ es)) es c.submit.ensures.history (asked_quiet (reverse (history_of old)) 0 given c.args.command.now.op)
    c.submit.ensures.opened c.submit.ensures.found c.submit.ensures.later
    (stuck_submit c.submit.result (history_of old) es (history_of c.submit.new.self) (broken_at old) (broken_at c.submit.new.self) (file_len old) (length (history_of old ++ es)) (g.D.Disk.meaning.faults (disk_of old)) (g.D.Disk.meaning.faults (disk_of c.submit.new.self)) c.submit.ensures.answer c.submit.ensures.history c.submit.ensures.broken)

pub returns-clause-within : goal.returns-clause-within
returns-clause-within g c =
    let old = c.args.store.now in
    let new = c.submit.new.self in
    let es = entries_of (history_of old) 0 (to_z w64 (of_z w64 c.args.moment)) c.args.command.now in
    within_submit c.submit.result (history_of old) es (history_of new) (broken_at old) (file_len old) (file_len new) (length (history_of old ++ es)) (g.D.Disk.meaning.faults (disk_of old)) (g.D.Disk.meaning.faults (disk_of new)) c.submit.ensures.answer c.submit.ensures.history c.submit.ensures.len
