use Rattle.std.proofs.Common.{◌≡◌, map, take}
use Rattle.std.specs.Prelude.{None}
use Rattle.std.specs.Option.{option_copied}
use Rattle.tf_latest.proofs.keeping.none_yet.Given as goal

abbrev pub invariant-loop : goal.invariant-loop
invariant-loop l = map option_copied l.found.items ≡ map (λ _. None) (take l.index l.keys)
