use Rattle.tf_config.proofs.FormClean as laws
use Rattle.tf_config.proofs.laws.form_suffices.Goals as goal

pub returns : goal.returns
returns c = laws.form_suffices
