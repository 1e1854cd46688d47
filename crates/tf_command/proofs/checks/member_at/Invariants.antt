use Rattle.std.proofs.Common.{◌≡◌, drop}
use Rattle.tf_model.specs.Trees as trees
use Rattle.tf_command.proofs.checks.member_at.Given as goal

abbrev pub invariant-loop-member : goal.invariant-loop-member
invariant-loop-member l = trees.member_at (drop l.member-index l.members) l.name ≡ trees.member_at l.members l.name
