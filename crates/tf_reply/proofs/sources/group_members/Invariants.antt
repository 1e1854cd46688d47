use Rattle.std.proofs.Common.{◌≡◌, ◌++◌}
use Rattle.std.specs.Iterator.Adapters.{zip_first, zip_second}
use Rattle.std.specs.Slice.Iter.{iter_rest}
use Rattle.tf_reply.specs.Sources.{AreShowable, group_members}
use Rattle.tf_reply.proofs.sources.group_members.Given as goal

abbrev pub invariant-loop-group : goal.invariant-loop-group
invariant-loop-group l =
    let groups = iter_rest (zip_first l.group-iterator) in
    let parts = iter_rest (zip_second l.group-iterator) in
    (l.members ++ group_members l.epoch_millis groups parts ≡ group_members l.epoch_millis l.groups l.parts) × AreShowable parts
