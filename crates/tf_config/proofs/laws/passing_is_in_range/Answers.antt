use Rattle.tf_config.proofs.ClearLaws as laws
use Rattle.tf_config.proofs.laws.passing_is_in_range.Goals as goal

pub returns : goal.returns
returns c = laws.passing_is_in_range
