use Rattle.std.proofs.Common.{◌≡◌, Some, sym, ap, ◌∙◌}
use Rattle.std.specs.Option.{option_copied}
use Rattle.tf_core.specs.Kept.{past_in}
use Rattle.tf_core.specs.Standing.{shared}
use Rattle.tf_core.specs.Table.{transform_at}
use Rattle.tf_core.proofs.AllowedKinds.{config_in_range, docs_fit}
use Rattle.tf_core.proofs.Jobs.{is_marked}
use Rattle.tf_core.proofs.taking.may_be_finished.Goals as goal

pub none_left-requires-clause-config : goal.none_left-requires-clause-config
none_left-requires-clause-config c =
    let there : transform_at c.args.id.now c.args.transforms.now ≡ Some c.in-Some.found.now = sym c.find.ensures ∙ ap option_copied c.in-Some.is in
    config_in_range (past_in c.args.entries.now) c.args.indices.now (shared c.args.docs.now) c.args.transforms.now c.requires c.args.id.now c.in-Some.found.now there

pub none_left-requires-clause-fit : goal.none_left-requires-clause-fit
none_left-requires-clause-fit c =
    let there : transform_at c.args.id.now c.args.transforms.now ≡ Some c.in-Some.found.now = sym c.find.ensures ∙ ap option_copied c.in-Some.is in
    docs_fit (past_in c.args.entries.now) c.args.indices.now (shared c.args.docs.now) c.args.transforms.now c.requires c.args.id.now c.in-Some.found.now there

pub none_left-requires-clause-marked : goal.none_left-requires-clause-marked
none_left-requires-clause-marked c =
    let there : transform_at c.args.id.now c.args.transforms.now ≡ Some c.in-Some.found.now = sym c.find.ensures ∙ ap option_copied c.in-Some.is in
    is_marked (past_in c.args.entries.now) c.args.indices.now (shared c.args.docs.now) c.args.transforms.now c.requires c.args.id.now c.in-Some.found.now there
