-- The greatest multiple of a step that is at most a number.
use Rattle.std.specs.Prelude.{◌≡◌, ℤ, ◌+ℤ◌, ◌-ℤ◌, ◌*ℤ◌, ◌≤ℤ◌, ◌<ℤ◌}
use Rattle.std.specs.Int.{int_rem_euclid}

-- a number less its remainder
abbrev pub floor_of : ℤ → ℤ → ℤ
floor_of ms step = ms -ℤ int_rem_euclid ms step

abbrev pub IsMultiple : ℤ → ℤ → Type 0
IsMultiple step z = (k : ℤ) × (z ≡ k *ℤ step)

-- a multiple of the step that is at most the number, and the next one is above it
pub record IsFloor (ms step floor : ℤ) : Type 0 where
  pub multiple : IsMultiple step floor
  pub below : floor ≤ℤ ms
  pub greatest : ms <ℤ (floor +ℤ step)
