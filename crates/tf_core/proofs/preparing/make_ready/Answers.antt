use Rattle.tf_core.proofs.SameTables.{tables_itself}
use Rattle.tf_core.proofs.preparing.make_ready.Goals as goal

pub returns-in_err-steps-clause-transforms : goal.returns-in_err-steps-clause-transforms
returns-in_err-steps-clause-transforms c = tables_itself c.args.transforms.now.items
