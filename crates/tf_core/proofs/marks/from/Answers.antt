use Rattle.std.proofs.Common.{ap, sym, ◌∙◌}
use Rattle.std.specs.Arc.{arc_value}
use Rattle.std.proofs.lemmas.List.{drop-map, take_rest}
use Rattle.tf_core.specs.Standing.{shared}
use Rattle.tf_core.proofs.marks.from.Goals as goal

pub returns-else-docs-count : goal.returns-else-docs-count
returns-else-docs-count c = ap shared (take_rest c.args.docs.now c.args.count) ∙ sym (drop-map (λ doc. arc_value doc) c.args.count c.args.docs.now)
