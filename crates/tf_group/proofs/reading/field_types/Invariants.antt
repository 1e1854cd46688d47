use Rattle.std.proofs.Common.{◌≡◌, map, take}
use Rattle.tf_model.specs.Values.{type_of}
use Rattle.tf_group.proofs.reading.field_types.Given as goal

abbrev pub invariant-loop-name : goal.invariant-loop-name
invariant-loop-name l = l.types ≡ map (type_of l.fields) (take l.name-index l.names)
