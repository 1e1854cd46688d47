use Rattle.tf_event.proofs.PrintedTrees.{names_push, lt_less}
use Rattle.tf_event.proofs.tree_text.may_follow.Goals as goal

pub returns-in-Some : goal.returns-in-Some
returns-in-Some c names less tree =
    names_push c.args.members.now c.in-Some.last.now c.args.name.now tree names c.in-Some.ensures.value (lt_less c.lt.result _ c.lt.ensures less)
