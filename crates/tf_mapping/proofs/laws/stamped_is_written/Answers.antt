use Rattle.tf_mapping.proofs.WrittenLaws as laws
use Rattle.tf_mapping.proofs.laws.stamped_is_written.Goals as goal

pub returns : goal.returns
returns c = laws.stamped_is_written
