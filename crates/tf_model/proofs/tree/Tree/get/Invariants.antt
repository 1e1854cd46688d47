use Rattle.std.proofs.Common.{◌≡◌, drop}
use Rattle.tf_model.specs.Trees.{member_at, member_of}
use Rattle.tf_model.proofs.tree.Tree.get.Given as goal

abbrev pub invariant-loop-member : goal.invariant-loop-member
invariant-loop-member l = member_at (drop l.member-index l.member-items) l.name ≡ member_of l.self l.name
