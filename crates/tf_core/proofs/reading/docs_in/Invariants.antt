use Rattle.std.proofs.Common.{◌≡◌, filter, map, take}
use Rattle.std.specs.Arc.{arc_value}
use Rattle.tf_core.specs.Sources.{is_among}
use Rattle.tf_core.proofs.reading.docs_in.Given as goal

abbrev pub invariant-loop-doc : goal.invariant-loop-doc
invariant-loop-doc l = map (λ doc. arc_value doc) l.found ≡ filter (is_among l.sources) (map (λ doc. arc_value doc) (take l.doc-index l.docs))
