use Rattle.tf_io.proofs.Cut.{IsCutTo}
use Rattle.tf_io.proofs.lines.cut.Given as goal

abbrev pub invariant-loop-place : goal.invariant-loop-place
invariant-loop-place l = IsCutTo l.fn.text.items l.ends.items l.start l.place
