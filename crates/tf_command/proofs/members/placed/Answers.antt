use Rattle.std.proofs.Common.{rules, ap, ◌∙◌}
use Rattle.tf_command.specs.Commands.{members_of}
use Rattle.tf_command.proofs.Putting.{put_all, put_step, put_whole}
use Rattle.tf_command.proofs.members.placed.Goals as goal

pub loop-name-init : goal.loop-name-init
loop-name-init c = ap (put_all c.args.members) c.nothing-said.ensures ∙ put_whole c.args.members

pub loop-name-preserved : goal.loop-name-preserved
loop-name-preserved c =
    put_step c.loop-name.members c.pop.new.self c.in-Some.name c.as_str.result.now c.in-Some.tree c.loop-name.said c.in_ok-said.said (members_of c.args.members)
    (search rules) (search rules) (search rules) c.loop-name.invariant
