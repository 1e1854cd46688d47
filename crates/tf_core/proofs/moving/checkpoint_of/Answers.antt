use Rattle.std.proofs.lemmas.Result.{IfOk-weaker}
use Rattle.tf_core.specs.Job.{IsRunningAt}
use Rattle.tf_core.specs.Kept.{past_in}
use Rattle.tf_core.specs.Moves.{IsRunningOf}
use Rattle.tf_core.specs.Standing.{shared}
use Rattle.tf_core.proofs.Jobs.{running_at}
use Rattle.tf_core.proofs.moving.checkpoint_of.Goals as goal

pub returns : goal.returns
returns c =
    IfOk-weaker c.running_of.result (IsRunningOf c.args.found.now (shared c.args.docs.now)) (IsRunningAt (past_in c.args.entries.now) c.args.id.now)
    (λ r is. running_at (past_in c.args.entries.now) c.args.indices.now (shared c.args.docs.now) c.args.transforms.now c.requires.stands c.args.id.now c.args.found.now c.requires.found c.requires.moved r is) c.running_of.ensures
