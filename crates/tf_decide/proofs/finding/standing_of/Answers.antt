use Rattle.std.proofs.Common.{Some, ap, subst, ◌∙◌}
use Rattle.std.specs.Option.{option_copied}
use Rattle.tf_core.specs.Held.{life_in}
use Rattle.tf_core.specs.Lookups.{docs_in}
use Rattle.tf_core.specs.Table.{Tells}
use Rattle.tf_decide.specs.declared.standing.Standing.{Standing}
use Rattle.tf_decide.proofs.Standings.{none_stands, one_stands}
use Rattle.tf_decide.proofs.finding.standing_of.Goals as goal

pub returns-in-None : goal.returns-in-None
returns-in-None c =
    let history = c.args.core.now.history in
    none_stands (docs_in history) (life_in c.args.id.now history) (subst (λ r. Tells (docs_in history) (option_copied r) (life_in c.args.id.now history)) c.in-None.is c.transform.ensures.life)

pub returns-in-Some : goal.returns-in-Some
returns-in-Some c =
    let history = c.args.core.now.history in
    let t = c.in-Some.transform.now in
    ap (λ b. let s : Standing = record { state = t.state; is_over = b } in Some s) c.is_over.ensures
    ∙ one_stands (docs_in history) t (life_in c.args.id.now history) (subst (λ r. Tells (docs_in history) (option_copied r) (life_in c.args.id.now history)) c.in-Some.is c.transform.ensures.life)
