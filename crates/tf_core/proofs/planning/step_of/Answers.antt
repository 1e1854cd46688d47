use Rattle.std.proofs.Common.{◌++◌}
use Rattle.tf_core.specs.Chain.{all_added}
use Rattle.tf_core.specs.Made.{pages_of}
use Rattle.tf_core.proofs.Opened.{put_step}
use Rattle.tf_core.proofs.planning.step_of.Goals as goal

pub returns-in_ok-opened-in-Put : goal.returns-in_ok-opened-in-Put
returns-in_ok-opened-in-Put c =
    put_step (c.args.indices.now ++ all_added c.args.steps.now) (pages_of c.args.behind.now) c.in-Put.id c.in-Put.config c.in_ok-opened-in-Put.field-0 c.in_ok-opened-in-Put.ensures c.args.entry.now c.in-Put.is
