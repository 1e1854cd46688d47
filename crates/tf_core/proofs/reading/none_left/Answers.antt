use Rattle.std.proofs.Common.{sym, subst}
use Rattle.tf_model.specs.Conditions.{AllFit}
use Rattle.tf_core.specs.Standing.{shared}
use Rattle.tf_core.proofs.Passed.{unpassed_fit}
use Rattle.tf_core.proofs.reading.none_left.Goals as goal

pub none_after-requires-clause-docs : goal.none_after-requires-clause-docs
none_after-requires-clause-docs c =
    subst (AllFit c.args.transform.now.config) (sym c.in_ok-reader.ensures) (unpassed_fit c.args.transform.now (shared c.args.docs.now) c.requires.marked c.requires.fit)
