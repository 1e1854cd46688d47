use Rattle.std.proofs.Common.{◌≡◌, ◌∷◌, [], ◌++◌, List, Some, refl, rules, sym, ap, subst, ◌∙◌, ℤ, to_z, of_z, w64}
use Rattle.std.proofs.lemmas.Int.{to_z-of_z}
use Rattle.std.specs.Prelude.{IfErr, reverse}
use Rattle.tf_model.specs.declared.entry.Entry.{Entry}
use Rattle.tf_store.specs.Words.{broken_at, disk_of, failed_of, file_len, history_of}
use Rattle.tf_serial.specs.Frames.{IsMove, IsOnly}
use Rattle.tf_serial.specs.Moves.{moves, next_move}
use Rattle.tf_serial.specs.Parts.{Stops}
use Rattle.tf_serial.proofs.GoingOn.{runs_itself}
use Rattle.tf_serial.proofs.Prefixes.{history_begins, moves_begin, one_move, prefix_self}
use Rattle.tf_serial.proofs.Frames.{first_move}
use Rattle.tf_serial.proofs.Stopping.{memory_at, stop_in}
use Rattle.tf_serial.proofs.Within.{within_itself}
use Rattle.tf_serial.proofs.settling.advance.Goals as goal

pub returns-in_err-commit_entry-in-Ok-Some-clause-stops : goal.returns-in_err-commit_entry-in-Ok-Some-clause-stops
returns-in_err-commit_entry-in-Ok-Some-clause-stops g c =
    let old = c.args.store.now in
    let e = c.in-Ok-Some.entry in
    let m = g.D.Disk.meaning in
    let new = c.commit_entry.new.store in
    let id = c.args.id.now in
    let past = reverse (history_of old) in
    let here : IfErr c.from_residual.result (Stops m (IsOnly (history_of old) (e ∷ [])) old (history_of old ++ e ∷ []) new) = search rules in
    let given = to_z w64 (of_z w64 c.args.moment) in
    let same : given ≡ c.args.moment = to_z-of_z w64 c.args.moment (search rules) in
    let next : next_move c.args.moment id past ≡ Some e =
    ap (λ (t : ℤ). next_move t id past) (sym same) ∙ (ap (λ (h : List Entry). next_move given id (reverse h)) (sym c.core.ensures.history) ∙ (sym c.in-Ok-Some.ensures.moved ∙ c.in-Ok-Some.field-0-is)) in
    subst (λ (w : List Entry). IfErr c.from_residual.result (Stops m (IsMove c.args.moment id past) old w new)) (sym (one_move c.args.moment (history_of old) id e next))
    (stop_in c.from_residual.result (IsOnly (history_of old) (e ∷ [])) (IsMove c.args.moment id past) (history_of old) (history_of old ++ e ∷ []) (history_of new) (failed_of new) (broken_at old) (broken_at new) (file_len new) (m.faults (disk_of old)) (m.faults (disk_of new))
    (first_move c.args.moment id (history_of old) e next) here)

pub returns-in-Ok-None-clause-runs : goal.returns-in-Ok-None-clause-runs
returns-in-Ok-None-clause-runs g c = runs_itself g.D.Disk.meaning c.args.store.now

pub returns-in-Err-clause-stops : goal.returns-in-Err-clause-stops
returns-in-Err-clause-stops g c =
    let old = c.args.store.now in
    memory_at (history_of old) (history_of old) (reverse (moves c.args.moment 1 c.args.id.now (reverse (history_of old)))) (broken_at old) (broken_at old) (prefix_self (history_of old)) (history_begins (history_of old) (reverse (moves c.args.moment 1 c.args.id.now (reverse (history_of old)))) (moves_begin c.args.moment (reverse (history_of old)) 1 c.args.id.now)) refl

pub returns-in-Err-clause-runs : goal.returns-in-Err-clause-runs
returns-in-Err-clause-runs g c = runs_itself g.D.Disk.meaning c.args.store.now

pub returns-in-Ok-None-clause-within : goal.returns-in-Ok-None-clause-within
returns-in-Ok-None-clause-within g c = within_itself (history_of c.args.store.now) (file_len c.args.store.now)
