use Rattle.std.proofs.Common.{sym, ◌∙◌}
use Rattle.tf_shard.proofs.Ids.{next_at}
use Rattle.tf_shard.proofs.parts.is_next.Goals as goal

pub returns-in-Some : goal.returns-in-Some
returns-in-Some c = c.eq.ensures ∙ next_at c.args.parts.now.ids.keys c.args.parts.now.count c.in-Some.next.now c.args.id.now (sym c.in-Some.ensures.key)
