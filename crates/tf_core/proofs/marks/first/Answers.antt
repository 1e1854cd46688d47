use Rattle.std.proofs.Common.{sym}
use Rattle.std.specs.Arc.{arc_value}
use Rattle.std.proofs.lemmas.List.{take-map}
use Rattle.tf_core.proofs.marks.first.Goals as goal

pub returns-else-docs-count : goal.returns-else-docs-count
returns-else-docs-count c = sym (take-map (λ doc. arc_value doc) c.args.count c.args.docs.now)
