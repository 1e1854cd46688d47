use Rattle.std.proofs.Common.{◌≡◌, length}
use Rattle.std.specs.Prelude.{reverse}
use Rattle.tf_decide.specs.Bulk.{AreCounts}
use Rattle.tf_decide.proofs.bulk.first_counts.Given as goal

abbrev pub invariant-loop-shard : goal.invariant-loop-shard
invariant-loop-shard l = record {
  counts : AreCounts (reverse l.core.history) l.index l.shard l.counts;
  long : length l.counts ≡ l.shard;
}
