use Rattle.std.proofs.Common.{take}
use Rattle.tf_core.specs.Counts.{HaveCounts, SameCounts}
use Rattle.tf_core.proofs.counts.make_counts.Given as goal

abbrev pub invariant-loop-prepared : goal.invariant-loop-prepared
invariant-loop-prepared l = record {
  same : SameCounts l.fn.counts l.counts;
  there : HaveCounts l.counts (take l.prepared-index l.steps);
}
