-- The calendar's test, and what `jiff` says of a date.
use Rattle.std.proofs.Common.{◌≡◌, ℕ, ◌≤◌, true, cond, Some, None, pos, unsigned_abs, sym, ap, ◌∙◌, arith}
use Rattle.std.proofs.lemmas.Bool.Decides.{nat_tests}
use Rattle.jiff.specs.Words.{IsYmd, epoch_day, days_in_month}
use Rattle.jiff.specs.Types.{Date}
use Rattle.jiff_core.specs.Calendar.{days_from_civil}
use Rattle.jiff_core.proofs.DateLemmas.{civil}
use Rattle.tf_time.specs.Calendar.{is_real, day_number}

real_when : (year month day : ℕ) → 1 ≤ month → month ≤ 12 → 1 ≤ day → day ≤ days_in_month (pos year) month → is_real year month day ≡ true
real_when year month day a b c d = grind (arith, nat_tests)

pub number_of_date : (d : Date) (year month day : ℕ) → IsYmd (pos year) (pos month) (pos day) d → Some (epoch_day d) ≡ day_number year month day
number_of_date d year month day parts =
    let c = civil d in
    let m : d.month ≡ month = ap unsigned_abs parts.1 in
    let n : d.day ≡ day = ap unsigned_abs parts.2 in
    let last : day ≤ days_in_month (pos year) month = rw (parts.0, m, n) at c.2.1 in
    let real = real_when year month day (omega arith) (omega arith) (omega arith) last in
    let same : epoch_day d ≡ days_from_civil (pos year) month day = rw (parts.0, m, n) in
    ap Some same ∙ sym (ap (λ b. cond b (Some (days_from_civil (pos year) month day)) None) real)
