use Rattle.tf_config.proofs.FieldLaws as laws
use Rattle.tf_config.proofs.laws.fields_are_typed.Goals as goal

pub returns : goal.returns
returns c = laws.fields_are_typed
