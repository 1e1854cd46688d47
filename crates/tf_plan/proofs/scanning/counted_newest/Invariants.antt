use Rattle.std.proofs.Common.{◌≡◌, ◌+◌, take}
use Rattle.std.specs.Option.{option_copied}
use Rattle.tf_model.specs.Counted.{counted}
use Rattle.tf_reader.specs.Places.{documents}
use Rattle.tf_plan.specs.Newest.{AreNewest, newest_at}
use Rattle.tf_plan.proofs.scanning.counted_newest.Given as goal

abbrev pub invariant-loop-place : goal.invariant-loop-place
invariant-loop-place g l =
    let docs = take l.place-index (counted l.config l.fn.high (documents l.reader)) in
    record {
      newest : AreNewest l.sources l.sort l.config (option_copied l.after) docs docs (newest_at l.newest.entries);
      steps : l.steps ≡ l.initial.steps + l.place-index;
    }
