use Rattle.std.proofs.Common.{◌∙◌, sym}
use Rattle.tf_core.specs.Chain.{all_added}
use Rattle.tf_core.proofs.Numbers.{number_left, number_right}
use Rattle.tf_core.proofs.catalogue.number_of.Goals as goal

pub returns-in-Some : goal.returns-in-Some
returns-in-Some c = sym (number_left c.args.name.now c.args.indices.now (all_added c.args.steps.now) c.in-Some.number (sym c.number_in.ensures ∙ c.in-Some.is))

pub returns-in-None : goal.returns-in-None
returns-in-None c = c.number_made.ensures ∙ sym (number_right c.args.name.now c.args.indices.now (all_added c.args.steps.now) (sym c.number_in.ensures ∙ c.in-None.is))
