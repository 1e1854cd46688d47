use Rattle.std.proofs.Common.{◌≡◌, drop}
use Rattle.std.specs.List.{list_any}
use Rattle.std.specs.Str.{bytes_eq}
use Rattle.tf_core.specs.declared.transform.Transform.{Transform}
use Rattle.tf_core.proofs.lookups.names_dest.Given as goal

abbrev pub invariant-loop-transform : goal.invariant-loop-transform
invariant-loop-transform l = list_any (λ (t : Transform). bytes_eq l.name t.config.dest) (drop l.transform-index l.transforms) ≡ list_any (λ (t : Transform). bytes_eq l.name t.config.dest) l.transforms
