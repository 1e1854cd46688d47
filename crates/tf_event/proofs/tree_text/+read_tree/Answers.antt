use Rattle.std.proofs.Common.{◌∷◌, Bool, if◌then◌else◌, ap, ◌∙◌}
use Rattle.tf_event.proofs.PrintedTrees.{items_end, members_end}
use Rattle.tf_event.proofs.tree_text.+read_tree.Goals as goal

pub read_items-returns-then-ends-clause-text : goal.read_items-returns-then-ends-clause-text
read_items-returns-then-ends-clause-text t c =
    let closes = c.in_ok-ends.ensures ∙ ap (λ (b : Bool). (if b then 93 else 44) ∷ c.in_ok-ends.after.now) c.if-ends.true in
    rw c.in_ok-push.ensures.ok (items_end c.args.text.now c.loop.rest.now c.in_ok-tree.after.now c.in_ok-ends.after.now c.loop.items c.in_ok-tree.tree c.loop.invariant.0 c.in_ok-tree.ensures.text closes)

pub read_members-returns-then-ends-clause-text : goal.read_members-returns-then-ends-clause-text
read_members-returns-then-ends-clause-text t c =
    let closes = c.in_ok-ends.ensures ∙ ap (λ (b : Bool). (if b then 125 else 44) ∷ c.in_ok-ends.after.now) c.if-ends.true in
    rw c.in_ok-push.ensures.ok (members_end c.args.text.now c.loop.rest.now c.in_ok-name.value.now c.in_ok-tree.after.now c.in_ok-ends.after.now c.loop.members (c.in_ok-name.name, c.in_ok-tree.tree)
    c.loop.invariant.0 c.in_ok-name.ensures.text c.in_ok-tree.ensures.text closes)
