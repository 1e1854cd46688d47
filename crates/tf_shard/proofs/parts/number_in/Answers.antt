use Rattle.std.proofs.Common.{sym, ◌∙◌}
use Rattle.tf_shard.specs.Parts.{docs_of}
use Rattle.tf_shard.proofs.Ids.{number_found, number_not_found}
use Rattle.tf_shard.proofs.parts.number_in.Goals as goal

pub returns-in-Some : goal.returns-in-Some
returns-in-Some c =
    let parts = c.args.parts.now in
    c.below.ensures ∙ number_found (docs_of parts) parts.ids.keys parts.count c.requires.entered c.requires.counted c.args.id.now c.in-Some.at (sym c.in-Some.ensures.index)

pub returns-in-None : goal.returns-in-None
returns-in-None c =
    let parts = c.args.parts.now in
    number_not_found (docs_of parts) parts.ids.keys parts.count c.requires.entered c.requires.counted c.args.id.now (sym c.in-None.ensures.index)
