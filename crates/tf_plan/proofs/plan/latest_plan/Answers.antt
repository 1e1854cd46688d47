use Rattle.std.proofs.Common.{subst, sym}
use Rattle.std.specs.Option.{option_copied}
use Rattle.tf_model.specs.Counted.{counted, window}
use Rattle.tf_reader.specs.Places.{documents}
use Rattle.tf_plan.specs.Newest.{AreNewest, newest_at}
use Rattle.tf_plan.specs.Shaped.{IsLatestPlan}
use Rattle.tf_plan.proofs.LatestLaws.{latest_plan_is}
use Rattle.tf_plan.proofs.plan.latest_plan.Goals as goal

pub returns-clause-plan : goal.returns-clause-plan
returns-clause-plan g c =
    let sources = c.args.sources.now in
    let config = c.args.config.now in
    let docs = documents c.args.reader.now in
    let after = option_copied c.args.after in
    let entries = c.in_ok-newest.newest.entries in
    let are = subst (λ sort. AreNewest sources sort config after (window config c.args.low c.args.high docs) (counted config c.args.high docs) (newest_at entries)) c.requires.sort c.in_ok-newest.ensures.newest in
    subst (IsLatestPlan sources config c.args.low c.args.high after docs) (sym c.new.ensures)
    (latest_plan_is sources config c.args.low c.args.high after docs entries c.in_ok-sorted.sorted c.in_ok-rows.rows are c.in_ok-sorted.ensures.same c.in_ok-sorted.ensures.ordered c.in_ok-rows.ensures)
