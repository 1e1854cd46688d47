use Rattle.std.proofs.Common.{◌≡◌, drop}
use Rattle.std.specs.Prelude.{slice_get}
use Rattle.tf_core.specs.Chain.{all_added}
use Rattle.tf_core.proofs.catalogue.made_at.Given as goal

abbrev pub invariant-loop-prepared : goal.invariant-loop-prepared
invariant-loop-prepared l = slice_get (all_added (drop l.prepared-index l.steps)) l.left ≡ slice_get (all_added l.steps) l.at
