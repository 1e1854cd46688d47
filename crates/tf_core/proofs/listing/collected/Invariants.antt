use Rattle.std.proofs.Common.{◌≡◌, map, take}
use Rattle.tf_core.specs.declared.transform.Transform.{Transform}
use Rattle.tf_core.specs.Listing.{ascending}
use Rattle.tf_core.proofs.listing.collected.Given as goal

abbrev pub invariant-loop-transform : goal.invariant-loop-transform
invariant-loop-transform l = l.ids.keys ≡ ascending (map (λ (t : Transform). t.id) (take l.transform-index l.transforms))
