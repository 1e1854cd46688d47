use Rattle.std.proofs.Common.{◌≡◌, ◌∙◌, ℤ, ap, rules, to_z, of_z, w64}
use Rattle.std.specs.Prelude.{reverse}
use Rattle.std.proofs.lemmas.Int.{to_z-of_z}
use Rattle.tf_serial.specs.Moves.{next_move}
use Rattle.tf_serial.proofs.NextMoves.{move_is_next}
use Rattle.tf_serial.proofs.settling.next_entry.Goals as goal

pub returns-clause-next : goal.returns-clause-next
returns-clause-next c =
    let history = c.args.core.now.history in
    let same : to_z w64 (of_z w64 c.args.moment) ≡ c.args.moment = to_z-of_z w64 c.args.moment (search rules) in
    move_is_next c.args.moment history c.args.id.now c.in_ok-entry.entry c.is_taken.ensures c.requires.spelled (c.in_ok-entry.ensures.next ∙ ap (λ (ms : ℤ). next_move ms c.args.id.now (reverse history)) same) c.in_ok-entry.ensures.taken c.numbers_fit.ensures
    c.in_ok-entry.ensures.short
