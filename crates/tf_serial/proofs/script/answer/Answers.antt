use Rattle.std.proofs.Common.{◌≡◌, List, refl, rules, subst}
use Rattle.std.specs.Prelude.{IfErr, Result, reverse}
use Rattle.tf_model.specs.declared.entry.Entry.{Entry}
use Rattle.tf_command.specs.Commands.{command_of}
use Rattle.tf_command.specs.declared.command.Parts.{Parts}
use Rattle.tf_command.specs.declared.command.LineError.{LineError}
use Rattle.tf_store.specs.Words.{broken_at, file_len, history_of}
use Rattle.tf_store.specs.declared.error.StoreError.TheVariants as store_error
use Rattle.tf_serial.specs.Frames.{IsOfReading}
use Rattle.tf_serial.specs.Parts.{Stops}
use Rattle.tf_serial.specs.Script.{after_reading}
use Rattle.tf_serial.proofs.GoingOn.{runs_itself}
use Rattle.tf_serial.proofs.Prefixes.{prefix_self, reading_goes_on}
use Rattle.tf_serial.proofs.Stopping.{if_memory, memory_at}
use Rattle.tf_serial.proofs.Within.{within_itself}
use Rattle.tf_serial.proofs.script.answer.Goals as goal

pub returns-in_err-reply-in-Err-clause-stops : goal.returns-in_err-reply-in-Err-clause-stops
returns-in_err-reply-in-Err-clause-stops g c =
    let old = c.args.store.now in
    let past : List Entry = reverse (history_of old) in
    let read = command_of c.args.number c.args.line.now in
    let is : IfErr c.from_residual.result (λ e. e ≡ store_error.Memory) = search rules in
    if_memory c.from_residual.result (Stops g.D.Disk.meaning (IsOfReading past read) old (reverse (after_reading past read)) old) is
    (memory_at (history_of old) (history_of old) (reverse (after_reading past read)) (broken_at old) (broken_at old) (prefix_self (history_of old)) (reading_goes_on (history_of old) read) refl)

pub returns-in_err-reply-in-Err-clause-runs : goal.returns-in_err-reply-in-Err-clause-runs
returns-in_err-reply-in-Err-clause-runs g c = runs_itself g.D.Disk.meaning c.args.store.now

pub returns-in_ok-reply-in-Err-clause-runs : goal.returns-in_ok-reply-in-Err-clause-runs
returns-in_ok-reply-in-Err-clause-runs g c = runs_itself g.D.Disk.meaning c.args.store.now

pub returns-in-Ok-clause-stops : goal.returns-in-Ok-clause-stops
returns-in-Ok-clause-stops g c =
    let m = g.D.Disk.meaning in
    let old = c.args.store.now in
    let new = c.do_command.new.store in
    let past : List Entry = reverse (history_of old) in
    subst (λ (r : Result Parts LineError). IfErr c.do_command.result (Stops m (IsOfReading past r) old (reverse (after_reading past r)) new)) c.in-Ok.ensures.reading c.do_command.ensures.stops

pub returns-in_ok-reply-in-Err-clause-within : goal.returns-in_ok-reply-in-Err-clause-within
returns-in_ok-reply-in-Err-clause-within g c = within_itself (history_of c.args.store.now) (file_len c.args.store.now)
