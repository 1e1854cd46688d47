use Rattle.std.proofs.Common.{◌≡◌, take}
use Rattle.tf_shard.specs.Parts.{HasTheSame, IsWhole, spare_of}
use Rattle.tf_shard.proofs.entering.make_all_room.Given as goal

abbrev pub invariant-loop-id : goal.invariant-loop-id
invariant-loop-id l = record { whole : IsWhole l.parts; same : HasTheSame l.fn.parts l.parts; spare : spare_of l.parts ≡ take l.id-index l.id-items }
