use Rattle.std.proofs.Common.{◌≡◌, ◌+◌, drop}
use Rattle.std.specs.List.{prefix_len}
use Rattle.tf_core.specs.Passed.{is_passed}
use Rattle.tf_core.specs.Standing.{shared}
use Rattle.tf_core.proofs.marks.count_passed.Given as goal

abbrev pub invariant-loop-doc : goal.invariant-loop-doc
invariant-loop-doc l = record {
  count : l.count ≡ l.doc-index;
  rest : prefix_len (is_passed l.config l.low) (shared l.docs) ≡ l.count + prefix_len (is_passed l.config l.low) (drop l.doc-index (shared l.docs));
}
