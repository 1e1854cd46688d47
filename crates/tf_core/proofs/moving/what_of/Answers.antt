use Rattle.std.proofs.Common.{◌≡◌, ◌≤◌, List, length, arith, rules, ◌∙◌}
use Rattle.std.proofs.lemmas.List.{length-map, length-reverse}
use Rattle.tf_core.specs.declared.kept.Kept.{Kept}
use Rattle.tf_core.specs.declared.moving.Next.TheVariants as turn
use Rattle.tf_core.specs.Kept.{entry_of, past_in}
use Rattle.tf_core.specs.Moves.{moment_after, what_next}
use Rattle.tf_core.specs.Standing.{shared}
use Rattle.tf_core.proofs.AllowedKinds.{config_in_range}
use Rattle.tf_core.proofs.Jobs.{begun_span, finished_few, is_marked}
use Rattle.tf_core.proofs.NextKind.{begin_deed, no_deed, stop_deed}
use Rattle.tf_core.proofs.moving.what_of.Goals as goal

pub what_next-requires-clause-config : goal.what_next-requires-clause-config
what_next-requires-clause-config c = config_in_range (past_in c.args.entries.now) c.args.indices.now (shared c.args.docs.now) c.args.transforms.now c.requires.stands c.args.id.now c.args.found.now c.requires.found

pub what_next-requires-clause-begun : goal.what_next-requires-clause-begun
what_next-requires-clause-begun c = begun_span (past_in c.args.entries.now) c.args.indices.now (shared c.args.docs.now) c.args.transforms.now c.requires.stands c.args.id.now c.args.found.now c.requires.found

pub what_next-requires-clause-marked : goal.what_next-requires-clause-marked
what_next-requires-clause-marked c = is_marked (past_in c.args.entries.now) c.args.indices.now (shared c.args.docs.now) c.args.transforms.now c.requires.stands c.args.id.now c.args.found.now c.requires.found

as_many : (entries : List Kept) → length (past_in entries) ≡ length entries
as_many entries = length-reverse _ ∙ length-map entries entry_of

pub what_next-requires-clause-few : goal.what_next-requires-clause-few
what_next-requires-clause-few c =
    let few : c.args.found.now.finished ≤ length (past_in c.args.entries.now)
    = finished_few (past_in c.args.entries.now) c.args.indices.now (shared c.args.docs.now) c.args.transforms.now c.requires.stands c.args.id.now c.args.found.now c.requires.found in
    omega (arith, few, as_many c.args.entries.now, c.requires.few)

pub returns-in-Stopped : goal.returns-in-Stopped
returns-in-Stopped c =
    let past = past_in c.args.entries.now in
    let next : what_next c.args.found.now (shared c.args.docs.now) (moment_after past c.args.now) ≡ turn.Stopped = search rules in
    stop_deed past c.args.indices.now (shared c.args.docs.now) c.args.transforms.now c.requires.stands c.args.id.now c.args.found.now c.requires.found (moment_after past c.args.now) next

pub returns-in-Begin : goal.returns-in-Begin
returns-in-Begin c =
    let past = past_in c.args.entries.now in
    let next : what_next c.args.found.now (shared c.args.docs.now) (moment_after past c.args.now) ≡ turn.Begin c.in-Begin.n c.in-Begin.bound = search rules in
    begin_deed past c.args.indices.now (shared c.args.docs.now) c.args.transforms.now c.requires.stands c.args.id.now c.args.found.now c.requires.found (moment_after past c.args.now) c.in-Begin.n c.in-Begin.bound next

pub returns-in-Nothing : goal.returns-in-Nothing
returns-in-Nothing c =
    let past = past_in c.args.entries.now in
    let next : what_next c.args.found.now (shared c.args.docs.now) (moment_after past c.args.now) ≡ turn.Nothing = search rules in
    no_deed past c.args.indices.now (shared c.args.docs.now) c.args.transforms.now c.requires.stands c.args.id.now c.args.found.now c.requires.found (moment_after past c.args.now) next
