use Rattle.std.proofs.Common.{◌≡◌, ◌++◌, map}
use Rattle.std.specs.Vec.Iter.{into_iter_items}
use Rattle.tf_core.specs.Chain.{entries_in}
use Rattle.tf_core.specs.Counts.{AreCounted, AreMentioned, HaveCounts}
use Rattle.tf_core.specs.Ids.{all_docs}
use Rattle.tf_core.specs.Kept.{entry_of, past_in}
use Rattle.tf_core.specs.Standing.{IsReady, Stands, shared}
use Rattle.tf_core.proofs.applying.apply_all.Given as goal

abbrev pub invariant-loop-prepared : goal.invariant-loop-prepared
invariant-loop-prepared l = record {
  stands : Stands (past_in l.entries.items) l.indices.items (shared l.docs.items) l.transforms.items;
  ready : IsReady l.entries l.indices l.docs l.transforms (into_iter_items l.prepared-iterator);
  counted : AreCounted l.counts (shared l.docs.items);
  mentioned : AreMentioned l.counts (past_in l.entries.items);
  counts : HaveCounts l.counts (into_iter_items l.prepared-iterator);
  history : map entry_of l.entries.items ++ entries_in (into_iter_items l.prepared-iterator) ≡ map entry_of l.fn.entries.items ++ entries_in l.fn.steps.items;
  docs : shared l.docs.items ++ all_docs (into_iter_items l.prepared-iterator) ≡ shared l.fn.docs.items ++ all_docs l.fn.steps.items;
}
