use Rattle.std.proofs.Common.{◌≡◌, drop}
use Rattle.std.specs.Option.{option_copied}
use Rattle.tf_core.specs.Allowing.{ascends}
use Rattle.tf_core.proofs.allowing.ascends.Given as goal

abbrev pub invariant-loop-row : goal.invariant-loop-row
invariant-loop-row l = ascends (option_copied l.last) (drop l.row-index l.rows) ≡ ascends (option_copied l.position) l.rows
