use Rattle.std.proofs.Common.{◌≡◌, ℤ, rules, subst, to_z, of_z, w64}
use Rattle.std.proofs.lemmas.Int.{to_z-of_z}
use Rattle.std.specs.Prelude.{reverse}
use Rattle.tf_store.specs.Words.{history_of}
use Rattle.tf_serial.specs.Frames.{IsMove}
use Rattle.tf_serial.specs.Moves.{moves}
use Rattle.tf_serial.specs.Parts.{Stops}
use Rattle.tf_serial.proofs.settling.step.Goals as goal

pub returns-clause-stops : goal.returns-clause-stops
returns-clause-stops g c =
    let m = g.D.Disk.meaning in
    let old = c.args.store.now in
    let new = c.advance.new.store in
    let id = c.args.id.now in
    let past = reverse (history_of old) in
    let same : to_z w64 (of_z w64 c.args.moment) ≡ c.args.moment = to_z-of_z w64 c.args.moment (search rules) in
    subst (λ (t : ℤ). Stops m (IsMove t id past) old (reverse (moves t 1 id past)) new c.in-Err.error) same c.in-Err.ensures.stops
