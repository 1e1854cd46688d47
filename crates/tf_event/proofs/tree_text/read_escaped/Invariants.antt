use Rattle.std.proofs.Common.{◌≡◌, ◌++◌, flat_map}
use Rattle.tf_model.specs.Print.{escaped}
use Rattle.tf_event.proofs.tree_text.read_escaped.Given as goal

-- the bytes so far, escaped, and the rest
abbrev pub invariant-loop : goal.invariant-loop
invariant-loop l = l.text ≡ flat_map escaped l.bytes ++ l.rest
