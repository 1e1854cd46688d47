use Rattle.std.proofs.Common.{rules, ap, subst, w64}
use Rattle.std.proofs.lemmas.Int.{to_z-of_z}
use Rattle.tf_core.specs.Job.{IsWhat}
use Rattle.tf_core.specs.Kept.{past_in}
use Rattle.tf_core.specs.Moves.{moment_after}
use Rattle.tf_core.proofs.moving.job_of.Goals as goal

pub returns-in_ok-copy-in-Some : goal.returns-in_ok-copy-in-Some
returns-in_ok-copy-in-Some c =
    let past = past_in c.args.entries.now in
    let given = ap (moment_after past) (to_z-of_z w64 c.args.now (search rules)) in
    let is = subst (λ moment. IsWhat past moment c.args.id.now c.in_ok-what.field-0) given c.in_ok-what.ensures in
    (c.in_ok-copy-in-Some.ensures, subst (IsWhat past (moment_after past c.args.now) c.args.id.now) c.in-Some.is is)

pub returns-in-None : goal.returns-in-None
returns-in-None c =
    let past = past_in c.args.entries.now in
    let given = ap (moment_after past) (to_z-of_z w64 c.args.now (search rules)) in
    let is = subst (λ moment. IsWhat past moment c.args.id.now c.in_ok-what.field-0) given c.in_ok-what.ensures in
    subst (IsWhat past (moment_after past c.args.now) c.args.id.now) c.in-None.is is
