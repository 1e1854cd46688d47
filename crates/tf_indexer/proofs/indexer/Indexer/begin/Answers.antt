use Rattle.std.proofs.Common.{ℕ, List, sym, ap, subst, ◌∙◌, to_z, of_z, w64}
use Rattle.std.specs.Prelude.{Some, reverse}
use Rattle.tf_core.specs.Job.{IsJob, IsWhat, kind_for}
use Rattle.tf_core.specs.Moves.{moment_after}
use Rattle.tf_indexer.proofs.Holding.{can_be_planned}
use Rattle.tf_indexer.proofs.indexer.Indexer.begin.Goals as goal

pub work_on-requires-clause-planned : goal.work_on-requires-clause-planned
work_on-requires-clause-planned c =
    let past = reverse c.args.core.now.history in
    let moment = moment_after past (to_z w64 (of_z w64 c.args.now)) in
    let job = c.in-Some.job in
    let is = subst (IsJob past moment c.args.id.now) c.in-Some.is c.in_ok-job.ensures in
    can_be_planned past moment c.args.id.now job.what is.1

pub returns-in_ok-work-in-Some-clause-behind : goal.returns-in_ok-work-in-Some-clause-behind
returns-in_ok-work-in-Some-clause-behind c = λ e kind.
    let past = reverse c.args.core.now.history in
    let moment = moment_after past (to_z w64 (of_z w64 c.args.now)) in
    let job = c.in-Some.job in
    let work = c.in_ok-work-in-Some.work in
    let is = subst (IsJob past moment c.args.id.now) c.in-Some.is c.in_ok-job.ensures in
    let own = subst (λ (id : List ℕ). IsWhat past moment id (Some job.what)) (sym is.0) is.1 in
    c.in_ok-work-in-Some.ensures.behind past moment own e (kind ∙ ap (λ (id : List ℕ). kind_for id work) (sym is.0))
