use Rattle.std.proofs.Common.{List, subst}
use Rattle.tf_model.specs.declared.entry.Entry.{Entry}
use Rattle.tf_core.specs.Legal.{IsTakenHistory}
use Rattle.tf_store.specs.Words.{history_of}
use Rattle.tf_serial.proofs.Grouped.{is_grouped, right_whole}
use Rattle.tf_serial.proofs.script.run_script.Goals as goal

pub returns-clause-grouped : goal.returns-clause-grouped
returns-clause-grouped g c right =
    let old = c.args.store.now in
    let new = c.do_lines-result.new.store in
    let runs = c.do_lines-result.ensures.runs in
    let taken = subst (λ (h : List Entry). IsTakenHistory h) c.core.ensures.history c.is_taken.ensures in
    is_grouped (history_of new) taken (right_whole (history_of old) (history_of new) runs.history.begun right runs.history.right)
