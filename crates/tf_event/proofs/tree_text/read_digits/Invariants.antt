use Rattle.std.proofs.Common.{◌≡◌, ◌++◌, ◌<◌, drop}
use Rattle.std.specs.Fmt.{decimal}
use Rattle.tf_event.proofs.tree_text.read_digits.Given as goal

-- the number so far, and the rest
abbrev pub invariant-loop-place : goal.invariant-loop-place
invariant-loop-place l = (0 < l.number) × (decimal l.first ++ l.text ≡ decimal l.number ++ drop l.place l.text)
