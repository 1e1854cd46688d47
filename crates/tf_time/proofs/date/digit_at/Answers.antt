use Rattle.std.proofs.Common.{arith}
use Rattle.tf_time.proofs.Fronts.{leading_digits_le, digit_in_front}
use Rattle.tf_time.proofs.date.digit_at.Goals as goal

pub bounds-text-place : goal.bounds-text-place
bounds-text-place c = omega (arith, leading_digits_le c.args.text.now)

pub overflow_sub-text : goal.overflow_sub-text
overflow_sub-text c = (digit_in_front c.args.text.now c.args.place (omega arith)).0

pub returns-then-place-count-clause-bound : goal.returns-then-place-count-clause-bound
returns-then-place-count-clause-bound c =
    omega (arith, (digit_in_front c.args.text.now c.args.place (omega arith)).1)
