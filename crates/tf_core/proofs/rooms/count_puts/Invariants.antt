use Rattle.std.proofs.Common.{◌≡◌, ◌+◌, ◌≤◌, drop}
use Rattle.tf_core.specs.Chain.{put_count}
use Rattle.tf_core.proofs.rooms.count_puts.Given as goal

abbrev pub invariant-loop-prepared : goal.invariant-loop-prepared
invariant-loop-prepared l = record {
  count : l.count + put_count (drop l.prepared-index l.steps) ≡ put_count l.steps;
  low : l.count ≤ l.prepared-index;
}
