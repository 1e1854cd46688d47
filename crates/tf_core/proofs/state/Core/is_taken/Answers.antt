use Rattle.std.proofs.Common.{ap, subst}
use Rattle.tf_core.specs.Held.{Held}
use Rattle.tf_core.specs.Legal.{IsTakenHistory}
use Rattle.tf_core.proofs.state.Core.is_taken.Goals as goal

pub returns : goal.returns
returns c = subst IsTakenHistory (ap (λ (h : Held). h.history) c.self.view_is) c.self.invariant.stands.taken
