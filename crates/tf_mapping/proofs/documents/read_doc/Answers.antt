use Rattle.std.specs.Arc.{arc_value}
use Rattle.std.specs.Option.{option_copied}
use Rattle.tf_mapping.proofs.DocumentLaws.{values_answer}
use Rattle.tf_mapping.proofs.FitLaws.{good_answer}
use Rattle.tf_mapping.proofs.documents.read_doc.Goals as goal

pub returns-clause-values : goal.returns-clause-values
returns-clause-values c = values_answer (arc_value c.args.mapping.now) (option_copied c.args.stamp) c.args.tree.now c.read_shared.result c.read_shared.ensures

pub returns-clause-good : goal.returns-clause-good
returns-clause-good c = good_answer (arc_value c.args.mapping.now) (option_copied c.args.stamp) c.args.tree.now c.read_shared.result c.read_shared.ensures
