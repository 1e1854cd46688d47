use Rattle.std.proofs.Common.{subst}
use Rattle.tf_indexer.specs.Holding.{CanBePlanned}
use Rattle.tf_indexer.proofs.indexer.Indexer.work_on.Goals as goal

pub make-requires-clause-config : goal.make-requires-clause-config
make-requires-clause-config c = (subst CanBePlanned c.in-Page.is c.requires.planned).0

pub make-requires-clause-docs : goal.make-requires-clause-docs
make-requires-clause-docs c = (subst CanBePlanned c.in-Page.is c.requires.planned).1
