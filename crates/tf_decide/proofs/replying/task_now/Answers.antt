use Rattle.std.proofs.Common.{subst, ◌∙◌}
use Rattle.std.specs.Option.{option_copied}
use Rattle.tf_core.specs.Held.{life_in}
use Rattle.tf_core.specs.Lookups.{docs_in}
use Rattle.tf_core.specs.Table.{Tells}
use Rattle.tf_decide.proofs.Told.{none_stands, one_stands}
use Rattle.tf_decide.proofs.replying.task_now.Goals as goal

pub returns-in-None : goal.returns-in-None
returns-in-None c =
    let history = c.args.core.now.history in
    c.task.ensures
    ∙ none_stands c.args.line c.args.no c.args.id (docs_in history) (life_in c.args.id history)
    (subst (λ r. Tells (docs_in history) (option_copied r) (life_in c.args.id history)) c.in-None.is c.transform.ensures.life)

pub returns-in-Some : goal.returns-in-Some
returns-in-Some c =
    let history = c.args.core.now.history in
    c.task-in-Some.ensures
    ∙ one_stands c.args.line c.args.no c.args.id (docs_in history) c.in-Some.transform.now (life_in c.args.id history)
    (subst (λ r. Tells (docs_in history) (option_copied r) (life_in c.args.id history)) c.in-Some.is c.transform.ensures.life)
