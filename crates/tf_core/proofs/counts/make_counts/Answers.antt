use Rattle.tf_core.proofs.CountsLaws.{have_more, same_more}
use Rattle.tf_core.proofs.counts.make_counts.Goals as goal

pub loop-prepared-preserved : goal.loop-prepared-preserved
loop-prepared-preserved c =
    let l = c.loop-prepared in
    let made = c.in_ok-make_count.ensures in
    record {
      same = same_more c.args.counts.now l.counts c.make_count.new.counts made.same l.invariant.same;
      there = have_more l.counts c.make_count.new.counts c.args.steps.now l.prepared-index c.prepared-item.result c.loop-prepared-test.true c.prepared-item.is made.kept l.invariant.there made.there;
    }
