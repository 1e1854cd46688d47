use Rattle.std.proofs.Common.{Some, ap, ◌++◌, subst, sym}
use Rattle.tf_core.specs.Chain.{HasRoom}
use Rattle.tf_core.specs.Counts.{HaveCounts}
use Rattle.tf_core.specs.Held.{Held}
use Rattle.tf_core.specs.Ids.{AreIndexed, all_docs}
use Rattle.tf_core.specs.Kept.{past_in}
use Rattle.tf_core.specs.Legal.{AreTaken, AreTakenAfter}
use Rattle.tf_core.specs.Preparing.{AllFit, ArePrepared}
use Rattle.tf_core.specs.Standing.{IsCore, shared}
use Rattle.tf_core.proofs.ReadyCore.{all_fit, idle_core, new_ids, ready_core}
use Rattle.tf_core.proofs.state.Core.prepare.Goals as goal

pub make_ready-made-requires-clause-fit : goal.make_ready-made-requires-clause-fit
make_ready-made-requires-clause-fit c =
    subst (λ ss. AllFit ss c.args.entries) c.self.invariant.stands.indices_are
    (all_fit (past_in c.self.inside.entries.items) c.args.entries (subst (λ history. AreTakenAfter history c.args.entries) (sym (ap (λ (h : Held). h.history) c.self.view_is)) c.requires.taken))

pub make_ready-made-requires-clause-new : goal.make_ready-made-requires-clause-new
make_ready-made-requires-clause-new c =
    new_ids (past_in c.self.inside.entries.items) c.self.inside.indices.items (shared c.self.inside.docs.items) c.self.inside.transforms.items c.args.entries c.self.invariant.stands
    (subst (λ history. AreTakenAfter history c.args.entries) (sym (ap (λ (h : Held). h.history) c.self.view_is)) c.requires.taken)

pub invariant_of-self : goal.invariant_of-self
invariant_of-self c =
    let old = c.self.inside in
    let made = c.make_ready-made in
    let new = made.new in
    let taken : AreTaken (past_in old.entries.items) c.args.entries = subst (λ history. AreTakenAfter history c.args.entries) (sym (ap (λ (h : Held). h.history) c.self.view_is)) c.requires.taken in
    let steps = sym c.new-ready.ensures.steps in
    subst (λ b. IsCore new.ids new.counts new.entries new.indices new.docs new.transforms (Some b)) (sym c.of.ensures)
    (ready_core new.ids old.counts new.counts old.entries new.entries old.indices new.indices old.docs new.docs old.transforms new.transforms made.ensures.entries made.ensures.indices made.ensures.docs made.ensures.transforms c.self.invariant.stands made.ensures.indexed made.ensures.counted c.self.invariant.counted c.self.invariant.mentioned
    c.args.entries c.new-ready.result taken
    (subst (ArePrepared old.indices.items c.args.entries) steps c.in-Ok.ensures.steps)
    (subst (λ xs. HasRoom xs new.entries new.indices new.docs new.transforms) steps c.in-Ok.ensures.room)
    (subst (λ xs. AreIndexed new.ids (shared old.docs.items ++ all_docs xs)) steps c.in-Ok.ensures.places)
    (subst (HaveCounts new.counts) steps c.in-Ok.ensures.counts))

pub invariant_of-self-in-Err : goal.invariant_of-self-in-Err
invariant_of-self-in-Err c =
    let old = c.self.inside in
    let made = c.make_ready-made in
    let new = made.new in
    idle_core new.ids old.counts new.counts old.entries new.entries old.indices new.indices old.docs new.docs old.transforms new.transforms made.ensures.entries made.ensures.indices made.ensures.docs made.ensures.transforms c.self.invariant.stands made.ensures.indexed made.ensures.counted c.self.invariant.counted c.self.invariant.mentioned
