use Rattle.std.proofs.Common.{◌∙◌}
use Rattle.tf_model.specs.Keys.{key_of}
use Rattle.tf_pivot.proofs.FoldsLaws.{not_below}
use Rattle.tf_pivot.proofs.folds.is_from_first.Goals as goal

pub returns-in-Some : goal.returns-in-Some
returns-in-Some c = λ k found has. c.is_from.ensures ∙ not_below (key_of c.args.config.now c.args.doc.now) c.in-Some.first.now k found (c.in-Some.ensures.least k has)
