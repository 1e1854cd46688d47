use Rattle.std.specs.Option.{option_copied}
use Rattle.tf_mapping.proofs.MappingLaws.{good_answer, stamped_answer}
use Rattle.tf_mapping.proofs.mappings.read_mapping.Goals as goal

pub returns-clause-good : goal.returns-clause-good
returns-clause-good c = good_answer (option_copied c.args.stamp) c.args.tree.now c.read_parts.result c.read_parts.ensures

pub returns-clause-stamped : goal.returns-clause-stamped
returns-clause-stamped c = stamped_answer (option_copied c.args.stamp) c.args.tree.now c.read_parts.result c.read_parts.ensures
