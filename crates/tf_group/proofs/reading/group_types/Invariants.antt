use Rattle.std.proofs.Common.{◌≡◌, map, take}
use Rattle.tf_group.specs.Reading.{group_type}
use Rattle.tf_group.proofs.reading.group_types.Given as goal

abbrev pub invariant-loop-group : goal.invariant-loop-group
invariant-loop-group l = l.types ≡ map (group_type l.fields) (take l.group-index l.groups)
