use Rattle.std.proofs.Common.{◌≡◌, pos, w32, to_z, of_z, ap, ◌∙◌, arith, Some}
use Rattle.std.proofs.lemmas.Int.{ints}
use Rattle.jiff.specs.Words.{epoch_day}
use Rattle.tf_time.proofs.RealDays.{number_of_date}
use Rattle.tf_time.proofs.calendar.day_number.Goals as goal

pub returns-in-Ok-clause-value : goal.returns-in-Ok-clause-value
returns-in-Ok-clause-value c =
    let h = c.in-Ok.ensures.value in
    let d = c.in-Ok.date in
    let year : d.year ≡ pos c.args.year = h.0 ∙ omega (arith, ints) in
    let month : pos d.month ≡ pos c.args.month = h.1 ∙ omega (arith, ints) in
    let day : pos d.day ≡ pos c.args.day = h.2 ∙ omega (arith, ints) in
    let same : c.to_unix_epoch_day.result ≡ epoch_day d = c.to_unix_epoch_day.ensures.value ∙ ap epoch_day c.to_plain.ensures in
    let kept : to_z w32 (of_z w32 c.to_unix_epoch_day.result) ≡ c.to_unix_epoch_day.result = omega (arith, ints) in
    ap Some (kept ∙ same) ∙ number_of_date d c.args.year c.args.month c.args.day (year, month, day)
