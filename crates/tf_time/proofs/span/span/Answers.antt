use Rattle.tf_time.proofs.Fronts.{leading_digits_front}
use Rattle.tf_time.proofs.span.span.Goals as goal

pub number-requires-clause-are_digits : goal.number-requires-clause-are_digits
number-requires-clause-are_digits c = rw c.leading_digits-count.ensures.value (leading_digits_front c.args.text.now)
