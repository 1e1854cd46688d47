use Rattle.std.proofs.Common.{◌≡◌, ◌++◌, Err, length, rules}
use Rattle.tf_store.specs.Commands.{entries_of}
use Rattle.tf_store.specs.Words.{broken_at, disk_of, file_len, history_of}
use Rattle.tf_store.specs.declared.error.StoreError.TheVariants as store_error
use Rattle.tf_store.proofs.Refusing.{memory_refused}
use Rattle.tf_store.proofs.state.Store.submit.Goals as goal

pub returns-in_err-decision-clause-answer : goal.returns-in_err-decision-clause-answer
returns-in_err-decision-clause-answer g c =
    let old = c.args.self.now in
    let entries = entries_of (history_of old) c.args.actor c.args.now c.args.command.now in
    let faults = g.D.Disk.meaning.faults (disk_of old) in
    let is : c.from_residual.result ≡ Err store_error.Memory = search rules in
    memory_refused c.from_residual.result entries (broken_at old) (file_len old) (length (history_of old ++ entries)) faults faults is
