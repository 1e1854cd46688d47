-- Spans as texts: 1 to 15 digits and a unit.
use Rattle.std.specs.Prelude.{ℕ, ◌+◌, ◌-◌, ◌*◌, ◌&&◌, nat_lt, nat_le, List, take, drop, fold, Option, Some, None, if◌then◌else◌, ℤ, pos, codes}
use Rattle.std.specs.Str.{bytes_eq}
use Rattle.tf_time.specs.Reader.{leading_digits, ◌>>=◌}

-- the number that digits write
abbrev pub value : List ℕ → ℕ
value digits = fold (λ n c. 10 * n + (c - 48)) 0 digits

-- the milliseconds of a unit
abbrev pub unit : List ℕ → Option ℕ
unit text =
    if bytes_eq text (codes "ms") then Some 1
    else (if bytes_eq text (codes "s") then Some 1_000
    else (if bytes_eq text (codes "m") then Some 60_000
    else (if bytes_eq text (codes "h") then Some 3_600_000
    else (if bytes_eq text (codes "d") then Some 86_400_000
    else None))))

-- from 0 to the greatest moment, in milliseconds
abbrev pub span : List ℕ → Option ℤ
span text =
    let n = leading_digits text in
    if nat_lt 0 n && nat_lt n 16
    then (do
      ms ← unit (drop n text)
      if nat_le (value (take n text) * ms) 253_402_300_799_999 then Some (pos (value (take n text) * ms)) else None)
    else None
