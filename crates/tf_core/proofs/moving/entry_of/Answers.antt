use Rattle.std.proofs.Common.{◌≡◌, ◌<◌, ◌^◌, List, length, rules, sym, subst}
use Rattle.std.specs.Arc.{arc_value}
use Rattle.std.specs.declared.alloc.Global.{Global}
use Rattle.std.specs.declared.sync.Arc.{Arc}
use Rattle.std.proofs.lemmas.List.{length-map}
use Rattle.tf_model.specs.declared.doc.Doc.{Doc}
use Rattle.tf_model.specs.declared.entry.Entry.{Entry}
use Rattle.tf_core.specs.Job.{kind_for}
use Rattle.tf_core.specs.Kept.{past_in}
use Rattle.tf_core.specs.Legal.{IsTaken}
use Rattle.tf_core.specs.Moves.{moment_after, moved}
use Rattle.tf_core.specs.Standing.{shared}
use Rattle.tf_core.specs.Texts.{IsShortKind}
use Rattle.tf_core.proofs.NextTaken.{work_short, work_taken}
use Rattle.tf_core.proofs.moving.entry_of.Goals as goal

few : (docs : List (Arc Doc Global)) → length docs < 2 ^ 63 → length (shared docs) < 2 ^ 63
few docs h = subst (λ n. n < 2 ^ 63) (sym (length-map docs (λ doc. arc_value doc))) h

pub returns-clause-taken : goal.returns-clause-taken
returns-clause-taken c =
    let past = past_in c.args.entries.now in
    let made : c.moved_by-entry.result ≡ moved (moment_after past c.args.now) (kind_for c.args.id.now c.args.work) = search rules in
    subst (IsTaken past) (sym made)
    (work_taken past c.args.indices.now (shared c.args.docs.now) c.args.transforms.now c.requires.stands (few c.args.docs.now c.requires.few) c.args.id.now c.args.now c.args.work c.requires.fits)

pub returns-clause-short : goal.returns-clause-short
returns-clause-short c = λ known puts.
    let past = past_in c.args.entries.now in
    let made : c.moved_by-entry.result ≡ moved (moment_after past c.args.now) (kind_for c.args.id.now c.args.work) = search rules in
    subst (λ (e : Entry). IsShortKind e.kind) (sym made)
    (work_short past c.args.indices.now (shared c.args.docs.now) c.args.transforms.now c.requires.stands (few c.args.docs.now c.requires.few) c.args.id.now c.args.now c.args.work c.requires.fits known puts)
