use Rattle.std.proofs.Common.{arith}
use Rattle.tf_core.proofs.LastMoment.{last_held}
use Rattle.tf_core.proofs.taking.last_moment.Goals as goal

pub returns-in-Some : goal.returns-in-Some
returns-in-Some c = grind (arith, last_held)
