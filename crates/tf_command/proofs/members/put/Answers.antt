use Rattle.std.proofs.Common.{sym, ◌∙◌}
use Rattle.std.specs.Prelude.{codes}
use Rattle.tf_command.proofs.Putting.{differs, unplaced}
use Rattle.tf_command.proofs.members.put.Goals as goal

pub returns-in_default : goal.returns-in_default
returns-in_default c =
    let name = c.args.name.now in
    c.without.ensures ∙ sym (unplaced name c.args.tree c.args.said
    (differs name (codes "after") c.in_default.not-after)
    (differs name (codes "at") c.in_default.not-at)
    (differs name (codes "checkpoint") c.in_default.not-checkpoint)
    (differs name (codes "config") c.in_default.not-config)
    (differs name (codes "doc") c.in_default.not-doc)
    (differs name (codes "docs") c.in_default.not-docs)
    (differs name (codes "force") c.in_default.not-force)
    (differs name (codes "id") c.in_default.not-id)
    (differs name (codes "index") c.in_default.not-index)
    (differs name (codes "lane") c.in_default.not-lane)
    (differs name (codes "mappings") c.in_default.not-mappings)
    (differs name (codes "shards") c.in_default.not-shards)
    (differs name (codes "size") c.in_default.not-size)
    (differs name (codes "stamp") c.in_default.not-stamp)
    (differs name (codes "wait_for_checkpoint") c.in_default.not-wait_for_checkpoint))
