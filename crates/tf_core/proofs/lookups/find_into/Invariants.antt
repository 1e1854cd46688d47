use Rattle.std.proofs.Common.{◌≡◌, drop}
use Rattle.tf_core.specs.Lookups.{into_at}
use Rattle.tf_core.proofs.lookups.find_into.Given as goal

abbrev pub invariant-loop-transform : goal.invariant-loop-transform
invariant-loop-transform l = into_at l.name (drop l.transform-index l.transforms) ≡ into_at l.name l.transforms
