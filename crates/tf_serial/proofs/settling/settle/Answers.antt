use Rattle.std.proofs.Common.{List, refl, subst}
use Rattle.std.specs.Prelude.{reverse}
use Rattle.tf_model.specs.declared.entry.Entry.{Entry}
use Rattle.tf_store.specs.Words.{broken_at, history_of}
use Rattle.tf_serial.specs.Moves.{settled}
use Rattle.tf_serial.specs.Settling.{ArePaced}
use Rattle.tf_serial.proofs.GoingOn.{runs_itself}
use Rattle.tf_serial.proofs.OneMove.{taken_is_paced}
use Rattle.tf_serial.proofs.Prefixes.{prefix_self, settled_goes_on}
use Rattle.tf_serial.proofs.Stopping.{memory_at}
use Rattle.tf_serial.proofs.settling.settle.Goals as goal

pub make_passes-requires-clause-paced : goal.make_passes-requires-clause-paced
make_passes-requires-clause-paced g c = subst (λ (h : List Entry). ArePaced (reverse h)) c.core.ensures.history (taken_is_paced (reverse c.core.result.now.history) c.is_taken.ensures)

pub returns-in-Err-clause-stops : goal.returns-in-Err-clause-stops
returns-in-Err-clause-stops g c =
    let old = c.args.store.now in
    memory_at (history_of old) (history_of old) (reverse (settled c.args.moment (reverse (history_of old)))) (broken_at old) (broken_at old) (prefix_self (history_of old)) (settled_goes_on c.args.moment (history_of old)) refl

pub returns-in-Err-clause-runs : goal.returns-in-Err-clause-runs
returns-in-Err-clause-runs g c = runs_itself g.D.Disk.meaning c.args.store.now
