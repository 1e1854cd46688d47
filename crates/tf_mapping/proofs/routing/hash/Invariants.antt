use Rattle.std.proofs.Common.{◌≡◌, drop}
use Rattle.std.specs.List.{fold}
use Rattle.tf_mapping.specs.Routes.{hash_step, hash_of}
use Rattle.tf_mapping.proofs.routing.hash.Given as goal

abbrev pub invariant-loop-byte : goal.invariant-loop-byte
invariant-loop-byte l = fold hash_step l.hash (drop l.byte-index l.id) ≡ hash_of l.id
