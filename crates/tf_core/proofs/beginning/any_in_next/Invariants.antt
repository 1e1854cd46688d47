use Rattle.std.proofs.Common.{◌≡◌, drop, map}
use Rattle.std.specs.Arc.{arc_value}
use Rattle.std.specs.List.{list_any}
use Rattle.tf_core.specs.Allowing.{is_in_next}
use Rattle.tf_core.proofs.beginning.any_in_next.Given as goal

abbrev pub invariant-loop-doc : goal.invariant-loop-doc
invariant-loop-doc l = list_any (is_in_next l.transform l.bound) (map (λ doc. arc_value doc) (drop l.doc-index l.docs)) ≡ list_any (is_in_next l.transform l.bound) (map (λ doc. arc_value doc) l.docs)
