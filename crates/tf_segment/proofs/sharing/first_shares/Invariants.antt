use Rattle.std.proofs.Common.{◌≡◌, take}
use Rattle.tf_segment.specs.Segments.{shared}
use Rattle.tf_segment.proofs.sharing.first_shares.Given as goal

abbrev pub invariant-loop-item : goal.invariant-loop-item
invariant-loop-item g l = shared l.first ≡ shared (take l.item-index l.item-items)
