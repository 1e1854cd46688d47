-- Texts and moments known from outside.
use Rattle.std.proofs.Common.{◌≡◌, pos, negsuc, neg_ℤ, codes, Some, None, Ok, Err, refl}
use Rattle.jiff_core.specs.Calendar.{days_from_civil, day_count, days_of_years, days_of_months}
use Rattle.tf_time.specs.Dates.{date_of}
use Rattle.tf_time.specs.Spans.{span}
use Rattle.tf_time.specs.Parts.{date_text, civil_of, year_from, month_from}
use Rattle.tf_time.specs.declared.date.DateError.TheVariants.{NotADate, OutOfRange}

utc_is_read : date_of (codes "2024-03-01T10:00:00Z") ≡ Ok (pos 1709287200000)
unfolding days_from_civil day_count days_of_years days_of_months
utc_is_read = refl

an_offset_is_taken_off : date_of (codes "2024-03-02T08:00:00+02:00") ≡ Ok (pos 1709359200000)
unfolding days_from_civil day_count days_of_years days_of_months
an_offset_is_taken_off = refl

the_first_date : date_of (codes "0000-01-01") ≡ Ok (neg_ℤ (pos 62167219200000))
unfolding days_from_civil day_count days_of_years days_of_months
the_first_date = refl

before_the_first_date : date_of (codes "0000-01-01T00:00+00:01") ≡ Err OutOfRange
unfolding days_from_civil day_count days_of_years days_of_months
before_the_first_date = refl

the_last_date : date_of (codes "9999-12-31T23:59:59.999999999Z") ≡ Ok (pos 253402300799999)
unfolding days_from_civil day_count days_of_years days_of_months
the_last_date = refl

no_leap_day : date_of (codes "2023-02-29") ≡ Err NotADate
no_leap_day = refl

no_hour_24 : date_of (codes "2024-02-29T24:00") ≡ Err NotADate
unfolding days_from_civil day_count days_of_years days_of_months
no_hour_24 = refl

a_moment_before_1970 : date_of (codes "1969-12-31T23:59:59.9-00:00") ≡ Ok (negsuc 99)
unfolding days_from_civil day_count days_of_years days_of_months
a_moment_before_1970 = refl

the_day_19783 : civil_of (pos 19783) ≡ (2024, 3, 1)
unfolding civil_of year_from month_from
the_day_19783 = refl

a_midnight_is_printed : date_text (pos 1709251200000) ≡ codes "2024-03-01T00:00:00.000Z"
unfolding civil_of year_from month_from
a_midnight_is_printed = refl

the_moment_before_1970_is_printed : date_text (negsuc 0) ≡ codes "1969-12-31T23:59:59.999Z"
unfolding civil_of year_from month_from
the_moment_before_1970_is_printed = refl

seconds_are_read : span (codes "60s") ≡ Some (pos 60000)
seconds_are_read = refl

the_longest_span : span (codes "253402300799999ms") ≡ Some (pos 253402300799999)
the_longest_span = refl

sixteen_digits_are_none : span (codes "1000000000000000ms") ≡ None
sixteen_digits_are_none = refl
