use Rattle.std.proofs.Common.{◌≡◌, drop, nat_eq}
use Rattle.std.specs.List.{position_from}
use Rattle.tf_latest.proofs.age.place_in.Given as goal

abbrev pub invariant-loop-place : goal.invariant-loop-place
invariant-loop-place l = position_from (nat_eq l.index) l.place (drop l.place l.sources) ≡ position_from (nat_eq l.index) 0 l.sources
