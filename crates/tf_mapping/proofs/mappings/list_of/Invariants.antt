use Rattle.std.proofs.Common.{◌≡◌}
use Rattle.tf_mapping.proofs.mappings.list_of.Given as goal

abbrev pub invariant-loop-field : goal.invariant-loop-field
invariant-loop-field l = l.list ≡ l.yielded
