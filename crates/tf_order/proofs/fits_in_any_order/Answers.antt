use Rattle.tf_order.proofs.Rows.{fits_in_any_order}
use Rattle.tf_order.proofs.fits_in_any_order.Goals as goal

pub returns : goal.returns
returns c = fits_in_any_order
