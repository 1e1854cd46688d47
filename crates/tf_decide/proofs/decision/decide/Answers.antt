use Rattle.std.proofs.Common.{◌≤◌, ap, subst, sym, ◌∙◌}
use Rattle.std.specs.Prelude.{reverse}
use Rattle.tf_core.specs.Legal.{AreTaken}
use Rattle.tf_decide.specs.declared.asked.Asked.{Asked}
use Rattle.tf_decide.specs.declared.giving.Given.{Given}
use Rattle.tf_decide.proofs.AskedTaken.{asked_taken}
use Rattle.tf_decide.proofs.Parts.{if_ok}
use Rattle.tf_decide.proofs.decision.decide.Goals as goal

pub returns-clause-taken : goal.returns-clause-taken
returns-clause-taken c =
    let past = reverse c.args.core.now.history in
    if_ok _ _ c.decided.result c.decided.ensures.entries (λ d is.
    subst (AreTaken past) (sym (is ∙ ap (λ (a : Asked). a.entries) c.in_ok-asked.ensures.asked)) (asked_taken past c.given_by-given.result.actor c.given_by-given.result.at_ms c.parts-parts.result.now.op c.is_taken.ensures (subst (λ (g : Given). g.actor ≤ 15) (sym c.given_by-given.ensures) c.requires.actor) c.parts-parts.ensures.formed.1))
