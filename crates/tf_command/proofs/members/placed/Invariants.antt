use Rattle.std.proofs.Common.{◌≡◌, length}
use Rattle.tf_command.specs.Commands.{members_of}
use Rattle.tf_command.proofs.Putting.{put_all}
use Rattle.tf_command.proofs.members.placed.Given as goal

abbrev pub invariant-loop-name : goal.invariant-loop-name
invariant-loop-name l = put_all l.members l.said ≡ members_of l.fn.members

abbrev pub decreases-loop-name : goal.decreases-loop-name
decreases-loop-name l = length l.members
