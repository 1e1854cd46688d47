use Rattle.std.proofs.Common.{◌≡◌, ◌++◌, take, drop, map}
use Rattle.tf_core.specs.Passed.{marked}
use Rattle.tf_core.specs.Standing.{shared}
use Rattle.tf_core.proofs.marks.move_marks.Given as goal

abbrev pub invariant-loop-transform : goal.invariant-loop-transform
invariant-loop-transform l = l.transform-items ≡ map (marked (shared l.docs)) (take l.transform-index l.fn.transforms.items) ++ drop l.transform-index l.fn.transforms.items
