use Rattle.tf_config.proofs.ReadLaws.{passing}
use Rattle.tf_config.proofs.read.read_config.Goals as goal

pub returns-clause-passes : goal.returns-clause-passes
returns-clause-passes c = passing c.args.catalogue.now c.args.need_dest c.args.tree.now c.read_whole.result c.read_whole.ensures
