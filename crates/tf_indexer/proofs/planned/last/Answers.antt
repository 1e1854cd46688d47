use Rattle.std.proofs.Common.{Some, ap, ◌∙◌, sym}
use Rattle.tf_core.proofs.LastKey.{last_key_is}
use Rattle.tf_indexer.proofs.planned.last.Goals as goal

pub returns : goal.returns
returns c = last_key_is c.args.rows.now c.index-rows-rows.result c.requires c.index-rows-rows.is ∙ ap Some (sym c.key.ensures)
