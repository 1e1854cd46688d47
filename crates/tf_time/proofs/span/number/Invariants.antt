use Rattle.std.proofs.Common.{◌≡◌, ◌^◌, ◌<◌, take}
use Rattle.tf_time.specs.Spans.{value}
use Rattle.tf_time.proofs.span.number.Given as goal

abbrev pub invariant-loop-digit : goal.invariant-loop-digit
invariant-loop-digit l = (l.value ≡ value (take l.digit-index l.digits)) × (l.value < 10 ^ l.digit-index)
