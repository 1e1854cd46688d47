use Rattle.std.proofs.Common.{◌≡◌, length}
use Rattle.tf_model.specs.Rows.{aggs_of}
use Rattle.tf_fold.proofs.tests.fold.Given as goal

abbrev pub invariant-loop-number : goal.invariant-loop-number
invariant-loop-number l = record {
  same : length l.acc.parts ≡ length (aggs_of l.config.shape);
  weight : l.acc.weight ≡ l.number-index;
}
