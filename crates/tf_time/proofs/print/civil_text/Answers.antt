use Rattle.std.proofs.Common.{◌∙◌}
use Rattle.std.proofs.lemmas.Result.{IfOk-weaker}
use Rattle.tf_time.proofs.Digits.{civil_shown}
use Rattle.tf_time.proofs.print.civil_text.Goals as goal

pub returns : goal.returns
returns c =
    let a = c.args in
    IfOk-weaker c.format.result _ _
    (λ s h. h ∙ rw (c.laid_out.ensures, c.laid_out-2.ensures, c.laid_out-3.ensures) (civil_shown a.year a.month a.day c.requires.year_in c.requires.month_in c.requires.day_in))
    c.format.ensures.ok
