use Rattle.tf_order.proofs.Rows.{windows_in_any_order}
use Rattle.tf_order.proofs.windows_in_any_order.Goals as goal

pub returns : goal.returns
returns c = windows_in_any_order
