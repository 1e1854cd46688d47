use Rattle.tf_decide.proofs.SameAnswers.{told_the_same}
use Rattle.tf_decide.proofs.laws.no_refusal_depends_on_the_moment.Goals as goal

pub returns : goal.returns
returns c = told_the_same
