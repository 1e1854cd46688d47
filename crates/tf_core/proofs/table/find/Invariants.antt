use Rattle.std.proofs.Common.{◌≡◌, drop}
use Rattle.tf_core.specs.Table.{transform_at}
use Rattle.tf_core.proofs.table.find.Given as goal

abbrev pub invariant-loop-transform : goal.invariant-loop-transform
invariant-loop-transform l = transform_at l.id (drop l.transform-index l.transforms) ≡ transform_at l.id l.transforms
