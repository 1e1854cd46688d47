-- Dates as texts: `YYYY-MM-DD`, and then nothing, or `T`, a time and a zone.
use Rattle.std.specs.Prelude.{ℕ, ◌+◌, ◌-◌, ◌*◌, ◌&&◌, ◌==◌, nat_lt, Bool, List, [], ◌∷◌, drop, slice_index, Option, Some, None, option_map, Result, Ok, Err, if◌then◌else◌, ℤ, pos, neg_ℤ, ◌+ℤ◌, ◌-ℤ◌, ◌*ℤ◌, int_le}
use Rattle.tf_time.specs.Reader.{Read, ◌>>=◌, byte, two_digits, four_digits, leading_digits}
use Rattle.tf_time.specs.Calendar.{day_number}
use Rattle.tf_time.specs.declared.date.DateError.{DateError}
use Rattle.tf_time.specs.declared.date.DateError.TheVariants.{NotADate, OutOfRange}

-- the day number
abbrev pub date : List ℕ → Read ℤ
date text = do
  year ← four_digits text
  a ← byte 45 year.1
  month ← two_digits a
  b ← byte 45 month.1
  day ← two_digits b
  number ← day_number year.0 month.0 day.0
  Some (number, day.1)

-- `HH:MM`, in minutes
abbrev pub clock : List ℕ → Read ℕ
clock text = do
  hour ← two_digits text
  a ← byte 58 hour.1
  minute ← two_digits a
  if nat_lt hour.0 24 && nat_lt minute.0 60 then Some (60 * hour.0 + minute.0, minute.1) else None

-- digit k of the n that a text begins with, or 0 past them
abbrev pub digit_at : List ℕ → ℕ → ℕ → ℕ
digit_at text n k = if nat_lt k n then slice_index text k - 48 else 0

-- one to nine digits of a fraction, in whole thousandths
abbrev pub thousandths : List ℕ → Read ℕ
thousandths text =
    let n = leading_digits text in
    if nat_lt 0 n && nat_lt n 10
    then Some (100 * digit_at text n 0 + 10 * digit_at text n 1 + digit_at text n 2, drop n text)
    else None

-- a dot and a fraction, if a dot stands there
abbrev pub fraction : List ℕ → Read ℕ
fraction [] = Some (0, [])
fraction (c ∷ rest) = if c == 46 then thousandths rest else Some (0, c ∷ rest)

-- `:SS` with its fraction, if a colon stands there, in milliseconds
abbrev pub seconds : List ℕ → Read ℕ
seconds [] = Some (0, [])
seconds (c ∷ rest) =
    if c == 58
    then (do
      second ← two_digits rest
      part ← fraction second.1
      if nat_lt second.0 60 then Some (1000 * second.0 + part.0, part.1) else None)
    else Some (0, c ∷ rest)

-- `Z`, `+HH:MM`, `-HH:MM` or nothing, in minutes east of UTC
abbrev pub zone : List ℕ → Read ℤ
zone [] = Some (pos 0, [])
zone (c ∷ rest) =
    if c == 90 then Some (pos 0, rest)
    else (if c == 43 then option_map (λ p. (pos p.0, p.1)) (clock rest)
    else (if c == 45 then option_map (λ p. (neg_ℤ (pos p.0), p.1)) (clock rest)
    else None))

-- a time and its zone, in milliseconds from the date's midnight in UTC
abbrev pub time_of_day : List ℕ → Read ℤ
time_of_day text = do
  minutes ← clock text
  part ← seconds minutes.1
  offset ← zone part.1
  Some (pos (60_000 * minutes.0 + part.0) -ℤ offset.0 *ℤ pos 60_000, offset.1)

-- the same after a `T`, if a text goes on after its date
abbrev pub time : List ℕ → Read ℤ
time [] = Some (pos 0, [])
time (c ∷ rest) = if c == 84 then time_of_day rest else None

-- what was read, where nothing is left
abbrev pub at_end : Read ℤ → Option ℤ
at_end None = None
at_end (Some (z, [])) = Some z
at_end (Some (z, c ∷ rest)) = None

-- the milliseconds since 1970 of a text that is a real date
abbrev pub moment : List ℕ → Option ℤ
moment text = at_end (do
  day ← date text
  ms ← time day.1
  Some (day.0 *ℤ pos 86_400_000 +ℤ ms.0, ms.1))

-- from the first to the last millisecond of the years 0 to 9999
abbrev pub is_date : ℤ → Bool
is_date ms = int_le (neg_ℤ (pos 62_167_219_200_000)) ms && int_le ms (pos 253_402_300_799_999)

-- the refusals of a text: no real date, and one outside the years 0 to 9999
abbrev pub date_of_moment : Option ℤ → Result ℤ DateError
date_of_moment None = Err NotADate
date_of_moment (Some ms) = if is_date ms then Ok ms else Err OutOfRange

-- the moment of a date's text, or why it has none
abbrev pub date_of : List ℕ → Result ℤ DateError
date_of text = date_of_moment (moment text)
