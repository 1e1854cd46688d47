use Rattle.tf_config.proofs.TypeLaws as laws
use Rattle.tf_config.proofs.laws.passing_has_pivot_types.Goals as goal

pub returns : goal.returns
returns c = laws.passing_has_pivot_types
