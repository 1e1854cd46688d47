use Rattle.std.proofs.Common.{◌≡◌, false, drop}
use Rattle.tf_model.specs.Names.{parts_have_bytes}
use Rattle.tf_model.proofs.names.parts_have_bytes.Given as goal

abbrev pub invariant-loop-byte : goal.invariant-loop-byte
invariant-loop-byte l = parts_have_bytes l.had (drop l.byte-index l.path) ≡ parts_have_bytes false l.path
