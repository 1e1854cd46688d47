use Rattle.std.proofs.Common.{◌≡◌, ◌+◌, ◌≤◌, [], length, take}
use Rattle.std.specs.Option.{option_copied}
use Rattle.tf_model.specs.Counted.{counted, window}
use Rattle.tf_reader.specs.Places.{documents}
use Rattle.tf_plan.specs.Newest.{AreNewest, newest_at}
use Rattle.tf_plan.proofs.scanning.window_newest.Given as goal

abbrev pub invariant-loop-place : goal.invariant-loop-place
invariant-loop-place g l = record {
  newest : AreNewest l.sources l.sort l.config (option_copied l.after) (take l.place-index (window l.config l.fn.low l.fn.high (documents l.reader))) [] (newest_at l.newest.entries);
  steps : l.steps ≡ l.initial.steps + l.place-index;
}

abbrev pub invariant-loop-spot : goal.invariant-loop-spot
invariant-loop-spot g l = record {
  newest : AreNewest l.sources l.sort l.config (option_copied l.after) (window l.config l.fn.low l.fn.high (documents l.reader)) (take l.spot-index (counted l.config l.fn.high (documents l.reader))) (newest_at l.newest.entries);
  within : l.spot-index ≤ length (counted l.config l.fn.high (documents l.reader));
  steps : l.steps ≤ l.fn.steps + length (window l.config l.fn.low l.fn.high (documents l.reader)) + l.spot-index;
}
