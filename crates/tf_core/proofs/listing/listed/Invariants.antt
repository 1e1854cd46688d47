use Rattle.std.proofs.Common.{◌≡◌, ◌++◌}
use Rattle.tf_core.proofs.listing.listed.Given as goal

abbrev pub invariant-loop-id : goal.invariant-loop-id
invariant-loop-id l = l.list ++ l.id-iterator ≡ l.fn.ids.keys
