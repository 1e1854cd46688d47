use Rattle.std.proofs.Common.{◌≡◌, ◌<◌, length, ap, ◌∙◌, subst, sym}
use Rattle.tf_core.specs.declared.ready.Step.TheVariants.{Change}
use Rattle.tf_core.specs.Rooms.{CanStep}
use Rattle.tf_core.specs.Table.{place_in}
use Rattle.tf_core.proofs.Set.{changed_at}
use Rattle.tf_core.proofs.stepping.take_step.Goals as goal

pub returns-in-Change-clause-transforms : goal.returns-in-Change-clause-transforms
returns-in-Change-clause-transforms c =
    let can : CanStep (Change c.in-Change.id c.in-Change.by) c.args.indices.now c.args.docs.now c.args.transforms.now = subst (λ s. CanStep s c.args.indices.now c.args.docs.now c.args.transforms.now) c.in-Change.is c.requires.can in
    let place : c.place_of-at.result ≡ place_in c.in-Change.id c.args.transforms.now.items = c.place_of-at.ensures.place ∙ ap (place_in c.in-Change.id) c.as_slice.ensures.value in
    rw c.in-Change.is (changed_at _ c.len.result c.in-Change.id c.in-Change.by c.args.transforms.now.items c.place_of-at.result c.index_mut.result.now c.change.new.transform place (subst (λ n. n < length c.args.transforms.now.items) (sym place) can.0) c.index_mut.ensures.value (c.len.ensures ∙ c.args.docs.now.ok.0) c.change.ensures)
