use Rattle.std.proofs.Common.{ap, refl, subst, ◌∙◌}
use Rattle.std.specs.Prelude.{reverse}
use Rattle.std.specs.Option.{option_copied}
use Rattle.tf_core.specs.Held.{life_in}
use Rattle.tf_core.specs.Lookups.{docs_in}
use Rattle.tf_core.specs.Table.{Tells}
use Rattle.tf_reply.specs.declared.replies.Reply.TheVariants as reply
use Rattle.tf_decide.proofs.Told.{by_none, by_tells}
use Rattle.tf_decide.proofs.replying.started.Goals as goal

pub returns-in-None : goal.returns-in-None
returns-in-None c =
    let history = c.args.core.now.history in
    c.task.ensures
    ∙ by_none c.args.line c.args.no c.args.entries.now (reverse history) c.args.id (docs_in history) c.requires
    (subst (λ r. Tells (docs_in history) (option_copied r) (life_in c.args.id history)) c.in-None.is c.transform.ensures.life)

pub returns-in-Some : goal.returns-in-Some
returns-in-Some c =
    let history = c.args.core.now.history in
    c.task-in-Some.ensures
    ∙ (ap (λ s. reply.Task c.args.line c.args.no c.args.id s c.in-Some.transform.now.finished) c.started_state-state.ensures
    ∙ by_tells c.args.line c.args.no c.args.entries.now (reverse history) c.args.id (docs_in history) c.in-Some.transform.now (life_in c.args.id history) refl c.requires
    (subst (λ r. Tells (docs_in history) (option_copied r) (life_in c.args.id history)) c.in-Some.is c.transform.ensures.life))
