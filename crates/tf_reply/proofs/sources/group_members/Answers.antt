use Rattle.std.specs.Iterator.Adapters.{zip_first, zip_second}
use Rattle.std.specs.Slice.Iter.{iter_rest}
use Rattle.std.proofs.lemmas.Slice.Zip.{either_empty_from_Zip}
use Rattle.tf_reply.proofs.Showing.{ended}
use Rattle.tf_reply.proofs.sources.group_members.Goals as goal

pub returns : goal.returns
returns c =
    ended (λ group. group.name) c.args.epoch_millis (iter_rest (zip_first c.loop-group.group-iterator)) (iter_rest (zip_second c.loop-group.group-iterator)) c.loop-group.members _
    (either_empty_from_Zip c.loop-group.group-iterator c.next.new.self c.next.result c.in-None.is c.next.ensures.steps) c.loop-group.invariant.0
