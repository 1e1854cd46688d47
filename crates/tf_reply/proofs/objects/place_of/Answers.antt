use Rattle.std.proofs.Common.{◌∙◌, sym}
use Rattle.tf_reply.proofs.Placing.{equal_at}
use Rattle.tf_reply.proofs.objects.place_of.Goals as goal

pub returns-in-Equal-clause-member : goal.returns-in-Equal-clause-member
returns-in-Equal-clause-member c =
    equal_at c.args.members.now c.loop-at.at c.args.name.now c.index-members-at.result c.loop-at-test.true c.index-members-at.is (sym c.compare.ensures ∙ c.in-Equal.is) c.loop-at.invariant
