use Rattle.std.proofs.Common.{◌≡◌, ◌++◌}
use Rattle.std.specs.Iterator.Adapters.{zip_first, zip_second}
use Rattle.std.specs.Slice.Iter.{iter_rest}
use Rattle.tf_reply.specs.Sources.{AreShowable, agg_members}
use Rattle.tf_reply.proofs.sources.agg_members.Given as goal

abbrev pub invariant-loop-agg : goal.invariant-loop-agg
invariant-loop-agg l =
    let aggs = iter_rest (zip_first l.agg-iterator) in
    let values = iter_rest (zip_second l.agg-iterator) in
    (l.members ++ agg_members l.epoch_millis aggs values ≡ agg_members l.epoch_millis l.aggs l.values) × AreShowable values
