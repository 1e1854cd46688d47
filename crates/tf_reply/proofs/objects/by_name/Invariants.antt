use Rattle.std.proofs.Common.{◌≡◌, length}
use Rattle.tf_reply.specs.Objects.{by_name}
use Rattle.tf_reply.proofs.Placing.{onto}
use Rattle.tf_reply.proofs.objects.by_name.Given as goal

abbrev pub invariant-loop-member : goal.invariant-loop-member
invariant-loop-member l = onto l.sorted l.members ≡ by_name l.fn.members

abbrev pub decreases-loop-member : goal.decreases-loop-member
decreases-loop-member l = length l.members
