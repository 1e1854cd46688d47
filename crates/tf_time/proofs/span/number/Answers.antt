use Rattle.std.proofs.Common.{arith}
use Rattle.std.proofs.lemmas.List.Sums.{fold_more}
use Rattle.tf_time.proofs.Fronts.{digit_in_front, ten_to_few, one_more}
use Rattle.tf_time.proofs.span.number.Goals as goal

pub overflow_mul-value : goal.overflow_mul-value
overflow_mul-value c = omega (arith, ten_to_few c.loop-digit.digit-index (omega arith))

pub overflow_sub-digit : goal.overflow_sub-digit
overflow_sub-digit c = (digit_in_front c.args.digits.now c.loop-digit.digit-index (omega arith)).0

pub overflow_add-value : goal.overflow_add-value
overflow_add-value c =
    let d = digit_in_front c.args.digits.now c.loop-digit.digit-index (omega arith) in
    omega (arith, ten_to_few c.loop-digit.digit-index (omega arith))

pub loop-digit-preserved : goal.loop-digit-preserved
loop-digit-preserved c =
    let d = digit_in_front c.args.digits.now c.loop-digit.digit-index (omega arith) in
    (grind (arith, fold_more), one_more c.loop-digit.value c.from.result c.loop-digit.digit-index c.loop-digit.invariant.1 (omega arith))

pub returns-clause-bound : goal.returns-clause-bound
returns-clause-bound c = omega (arith, ten_to_few c.loop-digit.digit-index (omega arith))
