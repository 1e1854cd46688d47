use Rattle.std.proofs.Common.{◌≡◌, ℕ, ◌+◌, drop}
use Rattle.std.specs.Prelude.{option_map}
use Rattle.tf_history.specs.Catalogue.{number_of}
use Rattle.tf_core.proofs.catalogue.number_in.Given as goal

abbrev pub invariant-loop-at : goal.invariant-loop-at
invariant-loop-at l = number_of l.name l.indices ≡ option_map (λ (n : ℕ). l.at + n) (number_of l.name (drop l.at l.indices))
