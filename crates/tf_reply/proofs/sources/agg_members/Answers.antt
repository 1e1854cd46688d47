use Rattle.std.specs.Iterator.Adapters.{zip_first, zip_second}
use Rattle.std.specs.Slice.Iter.{iter_rest}
use Rattle.std.proofs.lemmas.Slice.Zip.{either_empty_from_Zip}
use Rattle.tf_reply.proofs.Showing.{ended}
use Rattle.tf_reply.proofs.sources.agg_members.Goals as goal

pub returns : goal.returns
returns c =
    ended (λ agg. agg.name) c.args.epoch_millis (iter_rest (zip_first c.loop-agg.agg-iterator)) (iter_rest (zip_second c.loop-agg.agg-iterator)) c.loop-agg.members _
    (either_empty_from_Zip c.loop-agg.agg-iterator c.next.new.self c.next.result c.in-None.is c.next.ensures.steps) c.loop-agg.invariant.0
