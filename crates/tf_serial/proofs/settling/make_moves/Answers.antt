use Rattle.std.proofs.Common.{◌≡◌, Bool, ℤ, refl, ap, subst, ◌∙◌, rules, to_z, of_z, w64}
use Rattle.std.proofs.lemmas.Int.{to_z-of_z}
use Rattle.std.specs.Prelude.{reverse}
use Rattle.tf_store.specs.Words.{broken_at, disk_of, failed_of, file_len, history_of}
use Rattle.tf_serial.specs.Frames.{IsMove}
use Rattle.tf_serial.specs.Moves.{moved_out, moves}
use Rattle.tf_serial.specs.Parts.{Stops}
use Rattle.tf_serial.specs.Settling.{IsAdvanced}
use Rattle.tf_serial.proofs.Frames.{all_made, fewer_now, move_frames, next_begins, one_more}
use Rattle.tf_serial.proofs.GoingOn.{runs_itself, runs_through}
use Rattle.tf_serial.proofs.Stopping.{stop_wider}
use Rattle.tf_serial.proofs.Within.{within_itself, within_through}
use Rattle.tf_serial.proofs.settling.make_moves.Goals as goal

pub moves-init : goal.moves-init
moves-init g c = record { at = c.new-indexer.ensures (reverse (history_of c.args.store.now)); broken = refl; within = within_itself (history_of c.args.store.now) (file_len c.args.store.now); so_far = (0, refl); runs = runs_itself g.D.Disk.meaning c.args.store.now }

pub moves-smaller : goal.moves-smaller
moves-smaller g c =
    let given = to_z w64 (of_z w64 c.args.moment) in
    let id = c.args.id.now in
    let past = reverse (history_of c.moves.store) in
    let now = reverse (history_of c.advance.new.store) in
    let advanced = subst (λ (b : Bool). IsAdvanced given b id past now) c.in-Ok-true.field-0-test c.in-Ok-true.ensures.moved in
    fewer_now given id (reverse (history_of c.args.store.now)) past c.moves.invariant.so_far c.requires.paced now advanced.0 advanced.1 advanced.2

pub moves-preserved : goal.moves-preserved
moves-preserved g c =
    let given = to_z w64 (of_z w64 c.args.moment) in
    let id = c.args.id.now in
    let past = reverse (history_of c.moves.store) in
    let now = reverse (history_of c.advance.new.store) in
    let advanced = subst (λ (b : Bool). IsAdvanced given b id past now) c.in-Ok-true.field-0-test c.in-Ok-true.ensures.moved in
    record {
      at = c.in-Ok-true.ensures.at;
      broken = c.in-Ok-true.ensures.broken ∙ c.moves.invariant.broken;
      within = within_through (history_of c.args.store.now) (history_of c.moves.store) (history_of c.advance.new.store) (file_len c.args.store.now) (file_len c.moves.store) (file_len c.advance.new.store) c.moves.invariant.within c.in-Ok-true.ensures.within;
      so_far = one_more given id (reverse (history_of c.args.store.now)) past c.moves.invariant.so_far now advanced.0 advanced.1 advanced.2;
      runs = runs_through g.D.Disk.meaning c.args.store.now c.moves.store c.advance.new.store c.moves.invariant.runs c.in-Ok-true.ensures.runs;
    }

pub returns-in-Ok-false-clause-after : goal.returns-in-Ok-false-clause-after
returns-in-Ok-false-clause-after g c =
    let given = to_z w64 (of_z w64 c.args.moment) in
    let same : given ≡ c.args.moment = to_z-of_z w64 c.args.moment (search rules) in
    let id = c.args.id.now in
    let first = reverse (history_of c.args.store.now) in
    let past = reverse (history_of c.moves.store) in
    let now = reverse (history_of c.advance.new.store) in
    let advanced = subst (λ (b : Bool). IsAdvanced given b id past now) c.in-Ok-false.field-0-test c.in-Ok-false.ensures.moved in
    all_made given id first past c.moves.invariant.so_far c.requires.paced now advanced ∙ ap (λ (t : ℤ). moved_out t id first) same

pub returns-in-Ok-false-clause-runs : goal.returns-in-Ok-false-clause-runs
returns-in-Ok-false-clause-runs g c = runs_through g.D.Disk.meaning c.args.store.now c.moves.store c.advance.new.store c.moves.invariant.runs c.in-Ok-false.ensures.runs

pub returns-in-Err-clause-stops : goal.returns-in-Err-clause-stops
returns-in-Err-clause-stops g c =
    let m = g.D.Disk.meaning in
    let at = c.moves in
    let id = c.args.id.now in
    let given = to_z w64 (of_z w64 c.args.moment) in
    let same : given ≡ c.args.moment = to_z-of_z w64 c.args.moment (search rules) in
    let old = c.args.store.now in
    let new = c.advance.new.store in
    let first = reverse (history_of old) in
    let past = reverse (history_of at.store) in
    subst (λ (t : ℤ). Stops m (IsMove t id first) old (reverse (moved_out t id first)) new c.in-Err.error) same
    (stop_wider (IsMove given id past) (IsMove given id first) (history_of old) (history_of at.store) (reverse (moves given 1 id past)) (reverse (moved_out given id first)) (history_of new) (failed_of new) (broken_at old) (broken_at at.store) (broken_at new) (file_len new) (m.faults (disk_of old)) (m.faults (disk_of at.store)) (m.faults (disk_of new)) c.in-Err.error
    (move_frames given id first past at.invariant.so_far) at.invariant.runs.history.begun (next_begins given id first past at.invariant.so_far c.requires.paced) at.invariant.broken at.invariant.runs.later c.in-Err.ensures.stops)

pub returns-in-Err-clause-runs : goal.returns-in-Err-clause-runs
returns-in-Err-clause-runs g c = runs_through g.D.Disk.meaning c.args.store.now c.moves.store c.advance.new.store c.moves.invariant.runs c.in-Err.ensures.runs

pub returns-in-Ok-false-clause-within : goal.returns-in-Ok-false-clause-within
returns-in-Ok-false-clause-within g c = within_through (history_of c.args.store.now) (history_of c.moves.store) (history_of c.advance.new.store) (file_len c.args.store.now) (file_len c.moves.store) (file_len c.advance.new.store) c.moves.invariant.within c.in-Ok-false.ensures.within
