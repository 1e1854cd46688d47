use Rattle.std.proofs.Common.{◌≡◌, drop}
use Rattle.tf_command.specs.Commands as spec
use Rattle.tf_command.proofs.checks.first_bad.Given as goal

abbrev pub invariant-loop-name : goal.invariant-loop-name
invariant-loop-name l = spec.first_bad l.op (drop l.name-index l.members) ≡ spec.first_bad l.op l.members
