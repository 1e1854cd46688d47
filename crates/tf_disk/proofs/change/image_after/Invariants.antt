use Rattle.std.proofs.Common.{◌≡◌, drop}
use Rattle.tf_disk.specs.InMemory.{image_from}
use Rattle.tf_disk.proofs.change.image_after.Given as goal

abbrev pub invariant-loop-change : goal.invariant-loop-change
invariant-loop-change l = image_from l.fill l.keep (drop l.change-index l.changes) l.now.items l.image.items l.to_keep ≡ image_from l.fill l.keep l.changes l.first l.first l.keep
