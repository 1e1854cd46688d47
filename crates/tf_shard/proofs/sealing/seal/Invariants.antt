use Rattle.std.proofs.Common.{◌≡◌, vec_len}
use Rattle.tf_shard.specs.Parts.{HasTheSame, IsWhole, spare_of}
use Rattle.tf_shard.proofs.sealing.seal.Given as goal

abbrev pub invariant-loop-alloc : goal.invariant-loop-alloc
invariant-loop-alloc l = record { whole : IsWhole l.parts; same : HasTheSame l.fn.parts l.parts; spare : spare_of l.parts ≡ spare_of l.fn.parts }

abbrev pub decreases-loop-alloc : goal.decreases-loop-alloc
decreases-loop-alloc l = vec_len l.parts.tail
