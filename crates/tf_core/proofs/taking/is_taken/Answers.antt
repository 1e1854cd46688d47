use Rattle.std.proofs.Common.{◌≡◌, ◌↔◌, true, false, ap, ◌∙◌, sym, subst, refl, rules, w64}
use Rattle.std.proofs.lemmas.Int.{to_z-of_z}
use Rattle.std.proofs.lemmas.Result.{IfOk-weaker}
use Rattle.tf_model.specs.Conditions.{IsSpan}
use Rattle.tf_core.specs.Allowing.{is_timely, may_do}
use Rattle.tf_core.specs.Held.{last_ms_of}
use Rattle.tf_core.specs.Kept.{history_in, past_in}
use Rattle.tf_core.specs.Legal.{IsTaken}
use Rattle.tf_core.specs.Standing.{shared}
use Rattle.tf_core.proofs.Allowed.{in_span}
use Rattle.tf_core.proofs.AllowedKinds.{taken_by}
use Rattle.tf_core.proofs.taking.is_taken.Goals as goal

pub may_do-requires-clause-at : goal.may_do-requires-clause-at
may_do-requires-clause-at c =
    let timely : is_timely (last_ms_of (history_in c.args.entries.now)) c.args.entry.now.at_ms c.args.entry.now.actor ≡ true = sym c.is_in_time.ensures ∙ c.if-not-is_in_time.false in
    subst IsSpan (sym (to_z-of_z w64 c.args.entry.now.at_ms (search rules))) (in_span (last_ms_of (history_in c.args.entries.now)) c.args.entry.now.at_ms c.args.entry.now.actor timely)

pub returns-then-not-is_in_time : goal.returns-then-not-is_in_time
returns-then-not-is_in_time c =
    let may = may_do c.args.indices.now (shared c.args.docs.now) c.args.transforms.now c.args.entry.now.at_ms c.args.entry.now.kind in
    taken_by (history_in c.args.entries.now) c.args.indices.now (shared c.args.docs.now) c.args.transforms.now c.args.entry.now false may c.requires.stands (sym c.if-not-is_in_time.true ∙ c.is_in_time.ensures) refl

pub returns : goal.returns
returns c =
    let all = may_do c.args.indices.now (shared c.args.docs.now) c.args.transforms.now in
    let same = to_z-of_z w64 c.args.entry.now.at_ms (search rules) in
    IfOk-weaker c.may_do.result (λ may. may ≡ all _ c.args.entry.now.kind) (λ taken. (taken ≡ true) ↔ IsTaken (past_in c.args.entries.now) c.args.entry.now)
    (λ may is.
    taken_by (history_in c.args.entries.now) c.args.indices.now (shared c.args.docs.now) c.args.transforms.now c.args.entry.now true may c.requires.stands (sym c.if-not-is_in_time.false ∙ c.is_in_time.ensures)
    (is ∙ ap (λ ms. all ms c.args.entry.now.kind) same)) c.may_do.ensures
