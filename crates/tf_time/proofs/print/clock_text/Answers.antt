use Rattle.std.proofs.Common.{◌∙◌, arith, ◌/◌, ◌%◌}
use Rattle.std.proofs.lemmas.Result.{IfOk-weaker}
use Rattle.tf_time.proofs.Digits.{clock_shown}
use Rattle.tf_time.proofs.print.clock_text.Goals as goal

pub returns : goal.returns
returns c =
    let ms = c.args.ms in
    IfOk-weaker c.format.result _ _
    (λ s h. h ∙ rw (c.laid_out.ensures, c.laid_out-2.ensures, c.laid_out-3.ensures, c.laid_out-4.ensures)
    (clock_shown (ms / 3_600_000) (ms / 60_000 % 60) (ms / 1_000 % 60) (ms % 1_000) (omega arith) (omega arith) (omega arith) (omega arith)))
    c.format.ensures.ok
