use Rattle.std.proofs.Common.{◌≡◌, ◌+◌, drop}
use Rattle.tf_time.specs.Reader.{leading_digits}
use Rattle.tf_time.proofs.reader.leading_digits.Given as goal

abbrev pub invariant-loop-byte : goal.invariant-loop-byte
invariant-loop-byte l =
    (l.count ≡ l.byte-index) × (leading_digits l.text ≡ l.count + leading_digits (drop l.count l.text))
