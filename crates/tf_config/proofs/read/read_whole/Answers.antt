use Rattle.std.proofs.Common.{◌∙◌}
use Rattle.std.specs.Option.{option_copied}
use Rattle.tf_config.proofs.ReadLaws.{whole}
use Rattle.tf_config.proofs.read.read_whole.Goals as goal

pub returns : goal.returns
returns c =
    whole c.args.catalogue.now c.args.need_dest c.args.tree.now c.as_slice.result.now c.in_ok-fields.fields (option_copied c.query_tree.result) c.in_ok-query.query c.in_ok-query.faults c.read_with.result
    (c.as_slice.ensures ∙ c.in_ok-sources.ensures) c.in_ok-fields.ensures c.query_tree.ensures c.in_ok-query.ensures c.read_with.ensures
