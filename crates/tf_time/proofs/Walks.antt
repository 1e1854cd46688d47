-- The walk over years and months finds the date of a day number.
use Rattle.std.proofs.Common.{◌≡◌, ℕ, zero, suc, ◌+◌, ◌-◌, ◌<◌, ◌≤◌, inl, inr, cond, nat_lt, ℤ, pos, negsuc, neg_ℤ, ◌+ℤ◌, ◌<ℤ◌, ◌≤ℤ◌, unsigned_abs, refl, sym, ap, ap₂, ◌∙◌, subst, arith}
use Rattle.std.proofs.lemmas.Bool.{cases_order}
use Rattle.std.proofs.lemmas.Bool.Decides.{nat_tests}
use Rattle.std.proofs.lemmas.Int.{by_lt_z}
use Rattle.jiff.specs.Types.{Date}
use Rattle.jiff.specs.Words.{days_in_month, days_in_year, epoch_day}
use Rattle.jiff_core.specs.Calendar.{day_count, day_of_year, days_of_months, days_from_civil, IsCivilDate}
use Rattle.jiff_core.proofs.SignedLemmas.{signed_arith}
use Rattle.jiff_core.proofs.MarchLemmas.{day_count-early}
use Rattle.jiff_core.proofs.CalendarLemmas.{days_from_civil-day_count, day_count-day_of_year, day_of_year_bound, day_count-lt_year, day_count-later_year, day_count-next_year, days_of_months_more, days_of_months_mono, days_of_months-zero}
use Rattle.jiff_core.proofs.DateLemmas.{civil}
use Rattle.tf_time.specs.Parts.{year_from, month_from, civil_of}

stays : (left size year : ℕ) (more : ℕ × ℕ) → left < size → cond (nat_lt left size) (year, left) more ≡ (year, left)
stays left size year more h = grind (arith, nat_tests)

goes : (left size year : ℕ) (more : ℕ × ℕ) → size ≤ left → cond (nat_lt left size) (year, left) more ≡ more
goes left size year more h = grind (arith, nat_tests)

-- the days that are left are counted from 1 January of `first`
pub year_from_is : (years first left year m d : ℕ) → IsCivilDate (pos year) m d → first ≤ year → year < first + years
    → day_count (pos first) 1 1 + left ≡ day_count (pos year) m d → year_from years first left ≡ (year, day_of_year (pos year) m d - 1)
unfolding year_from
year_from_is zero first left year m d h low high e = absurd (omega arith)
year_from_is (suc years) first left year m d h low high e =
    let whole = day_count-day_of_year (pos year) m d h.2.0 in
    let bound = day_of_year_bound (pos year) m d h in
    let some : 1 ≤ day_of_year (pos year) m d = omega (arith, h.2.0) in
    elim (cases_order first year) [
      | inl same ↦
          let start : day_count (pos first) 1 1 ≡ day_count (pos year) 1 1 = ap (λ y. day_count (pos y) 1 1) same in
          let size : days_in_year (pos first) ≡ days_in_year (pos year) = ap (λ y. days_in_year (pos y)) same in
          let here : left ≡ day_of_year (pos year) m d - 1 = omega arith in
          let lt : left < days_in_year (pos first) = omega arith in
          stays left _ first _ lt ∙ ap₂ (λ a b. (a, b)) same here
      | inr (inl before) ↦
          let low_year : neg_ℤ (pos 10000) ≤ℤ pos first = omega (arith, signed_arith) in
          let lt_year : pos first <ℤ pos year = omega (arith, signed_arith) in
          let later = day_count-later_year (pos first) (pos year) low_year lt_year in
          let next = day_count-next_year (pos first) (pos (first + 1)) low_year refl in
          let ge : days_in_year (pos first) ≤ left = omega arith in
          goes left _ first _ ge ∙ year_from_is years (first + 1) (left - days_in_year (pos first)) year m d h (omega arith) (omega arith) (omega arith)
      | inr (inr after) ↦ absurd (omega arith)
    ]

pub month_from_is : (year months first left m d : ℕ) → IsCivilDate (pos year) m d → 1 ≤ first → first ≤ m → m < first + months
    → days_of_months (pos year) (first - 1) + left + 1 ≡ day_of_year (pos year) m d → month_from year months first left ≡ (m, d - 1)
unfolding month_from
month_from_is year zero first left m d h one low high e = absurd (omega arith)
month_from_is year (suc months) first left m d h one low high e =
    elim (cases_order first m) [
      | inl same ↦
          let start : days_of_months (pos year) (first - 1) ≡ days_of_months (pos year) (m - 1) = ap (λ k. days_of_months (pos year) (k - 1)) same in
          let size : days_in_month (pos year) first ≡ days_in_month (pos year) m = ap (λ k. days_in_month (pos year) k) same in
          let last : d ≤ days_in_month (pos year) m = h.2.1 in
          let here : left ≡ d - 1 = omega (arith, h.2.0) in
          let lt : left < days_in_month (pos year) first = omega (arith, h.2.0) in
          stays left _ first _ lt ∙ ap₂ (λ a b. (a, b)) same here
      | inr (inl before) ↦
          let more = days_of_months_more (pos year) first one in
          let later = days_of_months_mono (pos year) first (m - 1) (omega arith) in
          let ge : days_in_month (pos year) first ≤ left = omega (arith, h.2.0) in
          let back : days_of_months (pos year) (first + 1 - 1) ≡ days_of_months (pos year) first = ap (λ k. days_of_months (pos year) k) (omega arith) in
          goes left _ first _ ge ∙ month_from_is year months (first + 1) (left - days_in_month (pos year) first) m d h (omega arith) (omega arith) (omega arith) (omega arith)
      | inr (inr after) ↦ absurd (omega arith)
    ]

day_count-zero : day_count (pos 0) 1 1 ≡ 3_652_425
day_count-zero = day_count-early (pos 0) 9999 1 1 refl (omega arith) (omega arith) (omega arith)

after_zero : (year : ℕ) → 3_652_425 ≤ day_count (pos year) 1 1
after_zero zero = omega (arith, day_count-zero)
after_zero (suc year) =
    let later = day_count-later_year (pos 0) (pos (suc year)) (omega (arith, signed_arith)) (omega (arith, signed_arith)) in
    omega (arith, day_count-zero)

abs_of_natural : (z : ℤ) → pos 0 ≤ℤ z → z ≡ pos (unsigned_abs z)
abs_of_natural (pos n) h = refl
abs_of_natural (negsuc n) h = absurd (omega (arith, signed_arith))

civil_of_is : (day : ℤ) (year m d : ℕ) → IsCivilDate (pos year) m d → day ≡ days_from_civil (pos year) m d → civil_of day ≡ (year, m, d)
unfolding civil_of
civil_of_is day year m d h e =
    let count = days_from_civil-day_count (pos year) m d in
    let whole = day_count-day_of_year (pos year) m d h.2.0 in
    let first = after_zero year in
    let left = unsigned_abs (day +ℤ pos 719_528) in
    let natural : pos 0 ≤ℤ (day +ℤ pos 719_528) = omega (arith, signed_arith, h.2.0) in
    let same = abs_of_natural (day +ℤ pos 719_528) natural in
    let starts : day_count (pos 0) 1 1 + left ≡ day_count (pos year) m d = omega (arith, signed_arith, h.2.0, day_count-zero) in
    let y : year_from 10_000 0 left ≡ (year, day_of_year (pos year) m d - 1) = year_from_is 10_000 0 left year m d h (omega arith) (omega (arith, signed_arith, h.0)) starts in
    let some : days_of_months (pos year) 0 + (day_of_year (pos year) m d - 1) + 1 ≡ day_of_year (pos year) m d = omega (arith, h.2.0, days_of_months-zero (pos year)) in
    let n : month_from year 12 1 (day_of_year (pos year) m d - 1) ≡ (m, d - 1) = month_from_is year 12 1 _ m d h (omega arith) h.1.0 (omega (arith, h.1.1)) some in
    ap (λ p. let q = month_from p.0 12 1 p.1 in (p.0, q.0, q.1 + 1)) y ∙ ap (λ q. (year, q.0, q.1 + 1)) n ∙ ap (λ k. (year, m, k)) (omega (arith, h.2.0))

year_is_natural : (d : Date) → neg_ℤ (pos 719_528) ≤ℤ epoch_day d → pos 0 ≤ℤ d.year
year_is_natural d h =
    let c = civil d in
    by_lt_z d.year (pos 0)
    (λ lt. absurd (omega (arith, signed_arith, day_count-zero, days_from_civil-day_count d.year d.month d.day, day_count-lt_year d.year d.month d.day (pos 0) 1 1 c (omega arith) lt)))
    (λ le. le)

pub civil_of_date : (day : ℤ) (d : Date) → neg_ℤ (pos 719_528) ≤ℤ day → epoch_day d ≡ day → (pos 0 ≤ℤ d.year) × ((unsigned_abs d.year, d.month, d.day) ≡ civil_of day)
civil_of_date day d low e =
    let natural = year_is_natural d (omega (arith, signed_arith)) in
    let year = abs_of_natural d.year natural in
    let h = subst (λ y. IsCivilDate y d.month d.day) year (civil d) in
    (natural, sym (civil_of_is day (unsigned_abs d.year) d.month d.day h (sym e ∙ ap (λ y. days_from_civil y d.month d.day) year)))
