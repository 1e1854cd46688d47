use Rattle.tf_order.proofs.Rows.{values_in_any_order}
use Rattle.tf_order.proofs.values_in_any_order.Goals as goal

pub returns : goal.returns
returns c = values_in_any_order
