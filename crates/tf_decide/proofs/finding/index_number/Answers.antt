use Rattle.std.proofs.Common.{sym, ◌∙◌, arith}
use Rattle.tf_decide.proofs.Sound.{number_fits}
use Rattle.tf_decide.proofs.finding.index_number.Goals as goal

pub overflow_cast-result : goal.overflow_cast-result
overflow_cast-result c =
    let fits = number_fits c.args.core.now.history c.args.name.now c.in-Some.number c.is_taken.ensures (sym c.index_number.ensures ∙ c.in-Some.is) in
    omega (arith, fits)
