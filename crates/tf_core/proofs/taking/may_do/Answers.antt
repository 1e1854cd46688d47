use Rattle.std.proofs.Common.{◌≡◌, sym, subst}
use Rattle.std.specs.Prelude.{IfOk}
use Rattle.tf_core.specs.Allowing.{may_do}
use Rattle.tf_core.specs.Kept.{past_in}
use Rattle.tf_core.specs.Standing.{shared}
use Rattle.tf_core.proofs.AllowedKinds.{have_shards, named_once}
use Rattle.tf_core.proofs.taking.may_do.Goals as goal

pub takes_document-requires-clause-shards : goal.takes_document-requires-clause-shards
takes_document-requires-clause-shards c = have_shards (past_in c.args.entries.now) c.args.indices.now (shared c.args.docs.now) c.args.transforms.now c.requires.stands

pub takes_transform-requires : goal.takes_transform-requires
takes_transform-requires c = named_once (past_in c.args.entries.now) c.args.indices.now (shared c.args.docs.now) c.args.transforms.now c.requires.stands

pub returns-in-Put : goal.returns-in-Put
returns-in-Put c = subst (λ k. IfOk c.takes_transform.result (λ may. may ≡ may_do c.args.indices.now (shared c.args.docs.now) c.args.transforms.now c.args.at_ms k)) (sym c.in-Put.is) c.takes_transform.ensures
