use Rattle.tf_reply.proofs.Placing.{onto_next}
use Rattle.tf_reply.proofs.objects.by_name.Goals as goal

pub loop-member-preserved : goal.loop-member-preserved
loop-member-preserved c = onto_next _ _ _ _ _ _ c.in-Some.ensures c.in_ok-place.ensures c.loop-member.invariant
