use Rattle.tf_serial.proofs.Settled.{settlings_follow_the_rule}
use Rattle.tf_serial.proofs.laws.settlings_follow_the_rule.Goals as goal

pub returns : goal.returns
returns c = settlings_follow_the_rule
