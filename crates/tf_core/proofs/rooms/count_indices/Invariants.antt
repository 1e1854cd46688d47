use Rattle.std.proofs.Common.{◌≡◌, ◌+◌, ◌≤◌, drop}
use Rattle.tf_core.specs.Chain.{index_count}
use Rattle.tf_core.proofs.rooms.count_indices.Given as goal

abbrev pub invariant-loop-prepared : goal.invariant-loop-prepared
invariant-loop-prepared l = record {
  count : l.count + index_count (drop l.prepared-index l.steps) ≡ index_count l.steps;
  low : l.count ≤ l.prepared-index;
}
