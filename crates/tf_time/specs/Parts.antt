-- The calendar day and the clock of a moment.
use Rattle.std.specs.Prelude.{ℕ, zero, suc, ◌+◌, ◌-◌, ◌/◌, ◌%◌, nat_lt, if◌then◌else◌, ℤ, pos, ◌+ℤ◌, unsigned_abs, List, [], ◌∷◌, ◌++◌}
use Rattle.std.specs.Int.{int_div_euclid, int_rem_euclid}
use Rattle.jiff.specs.Words.{days_in_year, days_in_month}

-- The year that a day falls in, and how many of the year's days are before it. The day is counted from 1 January of `year`, and the first number bounds the years.
unfoldable pub year_from : ℕ → ℕ → ℕ → ℕ × ℕ
year_from zero year left = (year, left)
year_from (suc years) year left =
    if nat_lt left (days_in_year (pos year)) then (year, left)
    else year_from years (year + 1) (left - days_in_year (pos year))

-- the same of the months of a year
unfoldable pub month_from : ℕ → ℕ → ℕ → ℕ → ℕ × ℕ
month_from year zero month left = (month, left)
month_from year (suc months) month left =
    if nat_lt left (days_in_month (pos year) month) then (month, left)
    else month_from year months (month + 1) (left - days_in_month (pos year) month)

-- the year, the month and the day of a day number, from the year 0 to 9999
unfoldable pub civil_of : ℤ → ℕ × ℕ × ℕ
civil_of day =
    let year = year_from 10_000 0 (unsigned_abs (day +ℤ pos 719_528)) in
    let month = month_from year.0 12 1 year.1 in
    (year.0, month.0, month.1 + 1)

-- numbers of two, three and four digits
abbrev pub two : ℕ → List ℕ
two n = (48 + n / 10) ∷ (48 + n % 10) ∷ []

abbrev pub three : ℕ → List ℕ
three n = (48 + n / 100) ∷ two (n % 100)

abbrev pub four : ℕ → List ℕ
four n = two (n / 100) ++ two (n % 100)

-- `YYYY-MM-DD`
abbrev pub civil_text : ℕ × ℕ × ℕ → List ℕ
civil_text c = four c.0 ++ 45 ∷ two c.1 ++ 45 ∷ two c.2

-- `HH:MM:SS.mmm`, of the milliseconds since midnight
abbrev pub clock_text : ℕ → List ℕ
clock_text ms = two (ms / 3_600_000) ++ 58 ∷ two (ms / 60_000 % 60) ++ 58 ∷ two (ms / 1_000 % 60) ++ 46 ∷ three (ms % 1_000)

-- `YYYY-MM-DDTHH:MM:SS.mmmZ`
abbrev pub date_text : ℤ → List ℕ
date_text ms =
    civil_text (civil_of (int_div_euclid ms (pos 86_400_000))) ++ 84 ∷ clock_text (unsigned_abs (int_rem_euclid ms (pos 86_400_000))) ++ 90 ∷ []
