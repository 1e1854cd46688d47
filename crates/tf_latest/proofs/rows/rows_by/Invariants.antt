use Rattle.std.proofs.Common.{◌≡◌, ◌+◌, map, take}
use Rattle.std.specs.Option.{option_copied}
use Rattle.tf_model.specs.Counted.{counted}
use Rattle.tf_reader.specs.Places.{documents}
use Rattle.tf_latest.specs.Newest.{AreNewest}
use Rattle.tf_latest.proofs.rows.rows_by.Given as goal

abbrev pub invariant-loop-place : goal.invariant-loop-place
invariant-loop-place g l = record {
  newest : AreNewest l.sources l.sort l.config (take l.place-index (counted l.config l.fn.high (documents l.reader))) l.keys (map option_copied l.found.items);
  steps : l.steps ≡ l.initial.steps + l.place-index;
}
