-- Moments that lie so near 1970 that sums of them and spans fit.
use Rattle.std.specs.Prelude.{ℕ, ℤ, pos, ◌-ℤ◌}
use Rattle.tf_model.specs.Conditions.{IsBetween}

-- within plus and minus so many milliseconds
abbrev pub IsWithin : ℕ → ℤ → Type 0
IsWithin most ms = IsBetween (pos 0 -ℤ pos most) (pos most) ms
