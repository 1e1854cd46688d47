use Rattle.std.proofs.Common.{◌≡◌, ◌+◌, ◌≤◌, ◌++◌, take, drop, length}
use Rattle.tf_core.specs.Ids.{AreIndexed, AreNew, all_docs}
use Rattle.tf_core.specs.Standing.{shared}
use Rattle.tf_core.proofs.ids.enter_all.Given as goal

abbrev pub invariant-loop-prepared : goal.invariant-loop-prepared
invariant-loop-prepared l = record {
  indexed : AreIndexed l.ids (shared l.docs ++ all_docs (take l.prepared-index l.steps));
  new : AreNew (shared l.docs ++ all_docs (take l.prepared-index l.steps)) (drop l.prepared-index l.steps);
  place : l.place ≡ length (shared l.docs ++ all_docs (take l.prepared-index l.steps));
  low : l.place ≤ length l.docs + l.prepared-index;
}
