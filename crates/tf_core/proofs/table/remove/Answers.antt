use Rattle.std.proofs.Common.{rules}
use Rattle.std.proofs.lemmas.Fn.{filter_same}
use Rattle.tf_core.specs.Table.{is_other}
use Rattle.tf_core.proofs.table.remove.Goals as goal

pub returns-clause-items : goal.returns-clause-items
returns-clause-items c = filter_same _ (is_other c.args.id.now) _ (λ x b f' k. search rules) _ _ c.retain.ensures.filtered
