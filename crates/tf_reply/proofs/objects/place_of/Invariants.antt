use Rattle.std.proofs.Common.{◌≡◌, ◌++◌, take, drop}
use Rattle.tf_model.specs.declared.tree.Tree.{Tree}
use Rattle.tf_reply.specs.Objects.{with_member}
use Rattle.tf_reply.proofs.objects.place_of.Given as goal

abbrev pub invariant-loop-at : goal.invariant-loop-at
invariant-loop-at l = (t : Tree) → with_member l.members (l.name, t) ≡ take l.at l.members ++ with_member (drop l.at l.members) (l.name, t)
