use Rattle.std.proofs.Common.{◌≡◌, drop}
use Rattle.tf_core.specs.Allowing.{ascends_above}
use Rattle.tf_core.proofs.allowing.ascend_above.Given as goal

abbrev pub invariant-loop-field : goal.invariant-loop-field
invariant-loop-field l = ascends_above l.last (drop l.field-index l.fields) ≡ ascends_above l.name l.fields
