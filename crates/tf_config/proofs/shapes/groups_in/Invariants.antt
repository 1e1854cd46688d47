use Rattle.std.proofs.Common.{◌≡◌, ◌++◌, drop}
use Rattle.std.specs.List.{filter_map}
use Rattle.tf_config.specs.Drafts.{group_of}
use Rattle.tf_config.proofs.shapes.groups_in.Given as goal

abbrev pub invariant-loop-name : goal.invariant-loop-name
invariant-loop-name l = l.groups ++ filter_map group_of (drop l.name-index l.members) ≡ filter_map group_of l.members
