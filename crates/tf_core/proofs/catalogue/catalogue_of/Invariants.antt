use Rattle.std.proofs.Common.{◌≡◌, take}
use Rattle.tf_core.specs.Sources.{catalogued}
use Rattle.tf_core.proofs.catalogue.catalogue_of.Given as goal

abbrev pub invariant-loop-index : goal.invariant-loop-index
invariant-loop-index l = l.catalogue ≡ catalogued (take l.index-index l.indices)
