use Rattle.std.proofs.Common.{◌++◌, ◌∷◌, [], sym, ◌∙◌, ap}
use Rattle.tf_disk.specs.InMemory.{changed, contents}
use Rattle.tf_disk.proofs.Changes.{contents-push}
use Rattle.tf_disk.proofs.memory.MemDisk.make.Goals as goal

pub invariant_of-self-2 : goal.invariant_of-self-2
invariant_of-self-2 c =
    let pushed = contents-push c.self.inside.changes.items c.self.inside.first.items c.args.change in
    c.in_ok-apply.ensures.ok ∙ ap (changed c.args.change) c.self.invariant ∙ sym (ap (contents c.self.inside.first.items) (c.push_reserved.ensures.items ∙ ap (λ l. l ++ c.args.change ∷ []) c.reserve.ensures.items) ∙ pushed)
