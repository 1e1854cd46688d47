use Rattle.std.proofs.Common.{◌≡◌, Some, sym, ap, ◌∙◌}
use Rattle.std.specs.Option.{option_copied}
use Rattle.tf_core.specs.Kept.{past_in}
use Rattle.tf_core.specs.Standing.{shared}
use Rattle.tf_core.specs.Table.{transform_at}
use Rattle.tf_core.proofs.AllowedKinds.{config_in_range}
use Rattle.tf_core.proofs.Jobs.{begun_span, is_marked}
use Rattle.tf_core.proofs.taking.may_be_begun.Goals as goal

pub may_begin-requires-clause-config : goal.may_begin-requires-clause-config
may_begin-requires-clause-config c =
    let there : transform_at c.args.id.now c.args.transforms.now ≡ Some c.in-Some.found.now = sym c.find.ensures ∙ ap option_copied c.in-Some.is in
    config_in_range (past_in c.args.entries.now) c.args.indices.now (shared c.args.docs.now) c.args.transforms.now c.requires.stands c.args.id.now c.in-Some.found.now there

pub may_begin-requires-clause-begun : goal.may_begin-requires-clause-begun
may_begin-requires-clause-begun c =
    let there : transform_at c.args.id.now c.args.transforms.now ≡ Some c.in-Some.found.now = sym c.find.ensures ∙ ap option_copied c.in-Some.is in
    begun_span (past_in c.args.entries.now) c.args.indices.now (shared c.args.docs.now) c.args.transforms.now c.requires.stands c.args.id.now c.in-Some.found.now there

pub may_begin-requires-clause-marked : goal.may_begin-requires-clause-marked
may_begin-requires-clause-marked c =
    let there : transform_at c.args.id.now c.args.transforms.now ≡ Some c.in-Some.found.now = sym c.find.ensures ∙ ap option_copied c.in-Some.is in
    is_marked (past_in c.args.entries.now) c.args.indices.now (shared c.args.docs.now) c.args.transforms.now c.requires.stands c.args.id.now c.in-Some.found.now there
