use Rattle.std.proofs.Common.{◌∙◌}
use Rattle.tf_model.specs.Keys.{key_of}
use Rattle.tf_pivot.proofs.FoldsLaws.{not_above}
use Rattle.tf_pivot.proofs.folds.is_up_to_last.Goals as goal

pub returns-in-Some : goal.returns-in-Some
returns-in-Some c = λ k found has. c.is_up_to.ensures ∙ not_above (key_of c.args.config.now c.args.doc.now) c.in-Some.last.now k found (c.in-Some.ensures.greatest k has)
