use Rattle.std.proofs.Common.{◌≡◌, drop}
use Rattle.tf_mapping.specs.Least.{is_one_of}
use Rattle.tf_config.specs.Members.{names_of}
use Rattle.tf_config.proofs.members.has.Given as goal

abbrev pub invariant-loop-member : goal.invariant-loop-member
invariant-loop-member l = is_one_of (names_of (drop l.member-index l.members)) l.name ≡ is_one_of (names_of l.members) l.name
