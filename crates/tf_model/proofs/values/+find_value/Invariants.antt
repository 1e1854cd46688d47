use Rattle.std.proofs.Common.{length}
use Rattle.tf_model.proofs.values.+find_value.Given as goal

abbrev pub decreases-find_value : goal.decreases-find_value
decreases-find_value l = length l.fields.now
