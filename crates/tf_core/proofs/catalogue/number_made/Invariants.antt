use Rattle.std.proofs.Common.{◌≡◌, ℕ, ◌+◌, ◌≤◌, drop}
use Rattle.std.specs.Prelude.{option_map}
use Rattle.tf_history.specs.Catalogue.{number_of}
use Rattle.tf_core.specs.Chain.{all_added}
use Rattle.tf_core.proofs.catalogue.number_made.Given as goal

abbrev pub invariant-loop-prepared : goal.invariant-loop-prepared
invariant-loop-prepared l = record {
  number : option_map (λ (n : ℕ). l.at + n) (number_of l.name (all_added (drop l.prepared-index l.steps))) ≡ option_map (λ (n : ℕ). l.first + n) (number_of l.name (all_added l.steps));
  low : l.at ≤ l.first + l.prepared-index;
}
