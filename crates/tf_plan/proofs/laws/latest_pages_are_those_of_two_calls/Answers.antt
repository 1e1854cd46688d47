use Rattle.tf_plan.proofs.CallsLaw as law
use Rattle.tf_plan.proofs.laws.latest_pages_are_those_of_two_calls.Goals as goal

pub returns : goal.returns
returns c = law.latest_pages_are_those_of_two_calls
