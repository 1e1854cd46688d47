use Rattle.tf_config.proofs.TypeLaws as laws
use Rattle.tf_config.proofs.laws.passing_fits.Goals as goal

pub returns : goal.returns
returns c = laws.passing_fits
