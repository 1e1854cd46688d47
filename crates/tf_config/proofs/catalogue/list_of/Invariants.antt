use Rattle.std.proofs.Common.{◌≡◌}
use Rattle.tf_config.proofs.catalogue.list_of.Given as goal

abbrev pub invariant-loop-field : goal.invariant-loop-field
invariant-loop-field l = l.list ≡ l.yielded
