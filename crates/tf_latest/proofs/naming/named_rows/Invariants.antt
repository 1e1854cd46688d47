use Rattle.std.proofs.Common.{◌≡◌, map, take}
use Rattle.std.specs.Option.{option_copied}
use Rattle.tf_latest.specs.Newest.{named}
use Rattle.tf_latest.proofs.naming.named_rows.Given as goal

abbrev pub invariant-loop-at : goal.invariant-loop-at
invariant-loop-at l = l.rows ≡ named (take l.at l.keys) (map option_copied (take l.at l.found))
