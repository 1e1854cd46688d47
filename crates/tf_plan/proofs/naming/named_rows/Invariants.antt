use Rattle.std.proofs.Common.{◌≡◌, ◌++◌}
use Rattle.std.specs.List.{filter_map}
use Rattle.tf_plan.specs.Newest.{named}
use Rattle.tf_plan.proofs.naming.named_rows.Given as goal

abbrev pub invariant-loop-key : goal.invariant-loop-key
invariant-loop-key l = l.rows ++ filter_map named l.key-iterator ≡ filter_map named l.fn.newest.entries
