use Rattle.std.proofs.Common.{◌≡◌, drop, map}
use Rattle.tf_command.specs.Commands as spec
use Rattle.tf_command.specs.Seen.{seen}
use Rattle.tf_command.proofs.checks.first_absent.Given as goal

abbrev pub invariant-loop-name : goal.invariant-loop-name
invariant-loop-name l = spec.first_absent l.members (map seen (drop l.name-index l.wanted)) ≡ spec.first_absent l.members (map seen l.wanted)
