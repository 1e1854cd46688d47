use Rattle.tf_config.proofs.FieldLaws as laws
use Rattle.tf_config.proofs.laws.passing_has_types.Goals as goal

pub returns : goal.returns
returns c = laws.passing_has_types
