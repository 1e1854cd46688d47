use Rattle.std.proofs.Common.{◌≡◌, drop}
use Rattle.std.specs.List.{list_any}
use Rattle.std.specs.Str.{bytes_eq}
use Rattle.tf_history.specs.Catalogue.{SourceIndex}
use Rattle.tf_core.proofs.lookups.names_index.Given as goal

abbrev pub invariant-loop-index : goal.invariant-loop-index
invariant-loop-index l = list_any (λ (s : SourceIndex). bytes_eq l.name s.name) (drop l.index-index l.indices) ≡ list_any (λ (s : SourceIndex). bytes_eq l.name s.name) l.indices
