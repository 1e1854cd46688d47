use Rattle.std.proofs.Common.{◌≡◌, arith}
use Rattle.std.proofs.lemmas.Int.{ints}
use Rattle.jiff.specs.Words.{epoch_day}
use Rattle.tf_time.proofs.Walks.{civil_of_date}
use Rattle.tf_time.proofs.print.civil.Goals as goal

pub returns-clause-value : goal.returns-clause-value
returns-clause-value c =
    let d = c.from_days_since_min.result in
    let day : epoch_day d ≡ c.args.day = omega (arith, ints) in
    (civil_of_date c.args.day d c.requires.0 day).1

pub returns-clause-year : goal.returns-clause-year
returns-clause-year c =
    let d = c.from_days_since_min.result in
    let day : epoch_day d ≡ c.args.day = omega (arith, ints) in
    ((civil_of_date c.args.day d c.requires.0 day).0, d.year_in.1)
