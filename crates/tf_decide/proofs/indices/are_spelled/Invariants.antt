use Rattle.std.proofs.Common.{drop, IsUtf8}
use Rattle.std.specs.List.{AllByRecursion}
use Rattle.tf_event.specs.Values.{Field}
use Rattle.tf_decide.proofs.indices.are_spelled.Given as goal

abbrev pub invariant-loop-field : goal.invariant-loop-field
invariant-loop-field l = AllByRecursion (λ (f : Field). IsUtf8 f.0) (drop l.field-index l.field-items) → AllByRecursion (λ (f : Field). IsUtf8 f.0) l.field-items
