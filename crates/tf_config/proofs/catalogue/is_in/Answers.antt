use Rattle.std.proofs.Common.{◌∙◌}
use Rattle.tf_mapping.proofs.GatheringLaws.{found_by_name}
use Rattle.tf_config.proofs.catalogue.is_in.Goals as goal

pub returns : goal.returns
returns c = c.contains_key.ensures ∙ found_by_name c.args.name.now c.args.fields.now.entries
