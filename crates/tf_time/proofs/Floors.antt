-- A number less its remainder by a positive step is the greatest multiple below.
use Rattle.std.proofs.Common.{ℤ, pos, negsuc, ◌<ℤ◌, arith}
use Rattle.std.specs.Int.{int_div_euclid}
use Rattle.jiff_core.proofs.SignedLemmas.{signed_arith}
use Rattle.tf_time.specs.Floors.{floor_of, IsFloor}

pub floor_is : (ms step : ℤ) → pos 0 <ℤ step → IsFloor ms step (floor_of ms step)
floor_is (pos a) (pos k) h = record { multiple = (int_div_euclid (pos a) (pos k), omega (arith, signed_arith)); below = omega (arith, signed_arith); greatest = omega (arith, signed_arith) }
floor_is (negsuc a) (pos k) h = record { multiple = (int_div_euclid (negsuc a) (pos k), omega (arith, signed_arith)); below = omega (arith, signed_arith); greatest = omega (arith, signed_arith) }
floor_is (pos a) (negsuc k) h = absurd (omega (arith, signed_arith))
floor_is (negsuc a) (negsuc k) h = absurd (omega (arith, signed_arith))
