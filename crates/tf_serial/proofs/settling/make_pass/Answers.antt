use Rattle.std.proofs.Common.{◌≡◌, ◌<◌, ℤ, length, refl, sym, ap, subst, ◌∙◌, arith, rules, take, get_or, to_z, of_z, w64}
use Rattle.std.proofs.lemmas.Int.{to_z-of_z}
use Rattle.std.proofs.lemmas.List.{take_all}
use Rattle.std.specs.Prelude.{reverse}
use Rattle.tf_store.specs.Words.{broken_at, disk_of, failed_of, file_len, history_of}
use Rattle.tf_serial.specs.Frames.{IsMove, IsOfPass}
use Rattle.tf_serial.specs.Moves.{moved_out, pass}
use Rattle.tf_serial.specs.Parts.{Stops}
use Rattle.tf_serial.specs.Settling.{ArePaced}
use Rattle.tf_serial.proofs.Frames.{out_begins, pass_frames, pass_more}
use Rattle.tf_serial.proofs.GoingOn.{runs_itself, runs_through}
use Rattle.tf_serial.proofs.Passes.{pass_paced}
use Rattle.tf_serial.proofs.Stopping.{stop_wider}
use Rattle.tf_serial.proofs.Within.{within_itself, within_through}
use Rattle.tf_serial.proofs.settling.make_pass.Goals as goal

pub loop-id-init : goal.loop-id-init
loop-id-init g c = record { broken = refl; within = within_itself (history_of c.args.store.now) (file_len c.args.store.now); so_far = search rules; runs = runs_itself g.D.Disk.meaning c.args.store.now }

pub make_moves-requires : goal.make_moves-requires
make_moves-requires g c =
    let given = to_z w64 (of_z w64 c.args.moment) in
    record { paced = subst ArePaced (sym c.loop-id.invariant.so_far) (pass_paced given (take c.loop-id.id-index c.args.ids.now) (reverse (history_of c.args.store.now)) c.requires.paced) }

pub loop-id-preserved : goal.loop-id-preserved
loop-id-preserved g c =
    let given = to_z w64 (of_z w64 c.args.moment) in
    let ids = c.args.ids.now in
    let i = c.loop-id.id-index in
    let id = c.id-item.result in
    let within : i < length ids = omega (arith, ap length c.as_slice-id-items.ensures) in
    let at : id ≡ get_or ids i id = c.id-item.is ∙ ap (λ l. get_or l i id) c.as_slice-id-items.ensures in
    record {
      broken = c.in-Ok.ensures.broken ∙ c.loop-id.invariant.broken;
      within = within_through (history_of c.args.store.now) (history_of c.loop-id.store) (history_of c.make_moves.new.store) (file_len c.args.store.now) (file_len c.loop-id.store) (file_len c.make_moves.new.store) c.loop-id.invariant.within c.in-Ok.ensures.within;
      so_far = pass_more given ids i id (reverse (history_of c.args.store.now)) (reverse (history_of c.loop-id.store)) within at c.loop-id.invariant.so_far (reverse (history_of c.make_moves.new.store)) c.in-Ok.ensures.after;
      runs = runs_through g.D.Disk.meaning c.args.store.now c.loop-id.store c.make_moves.new.store c.loop-id.invariant.runs c.in-Ok.ensures.runs;
    }

pub returns-in-Err-clause-stops : goal.returns-in-Err-clause-stops
returns-in-Err-clause-stops g c =
    let m = g.D.Disk.meaning in
    let given = to_z w64 (of_z w64 c.args.moment) in
    let same : given ≡ c.args.moment = to_z-of_z w64 c.args.moment (search rules) in
    let at = c.loop-id in
    let ids = c.args.ids.now in
    let id = c.id-item.result in
    let old = c.args.store.now in
    let new = c.make_moves.new.store in
    let first = reverse (history_of old) in
    let past = reverse (history_of at.store) in
    let within : at.id-index < length ids = omega (arith, ap length c.as_slice-id-items.ensures) in
    let own : id ≡ get_or ids at.id-index id = c.id-item.is ∙ ap (λ l. get_or l at.id-index id) c.as_slice-id-items.ensures in
    subst (λ (t : ℤ). Stops m (IsOfPass t ids first) old (reverse (pass t ids first)) new c.in-Err.error) same
    (stop_wider (IsMove given id past) (IsOfPass given ids first) (history_of old) (history_of at.store) (reverse (moved_out given id past)) (reverse (pass given ids first)) (history_of new) (failed_of new) (broken_at old) (broken_at at.store) (broken_at new) (file_len new) (m.faults (disk_of old)) (m.faults (disk_of at.store)) (m.faults (disk_of new)) c.in-Err.error
    (pass_frames given ids at.id-index id first past within own at.invariant.so_far) at.invariant.runs.history.begun (out_begins given ids at.id-index id first past within own at.invariant.so_far) at.invariant.broken at.invariant.runs.later c.in-Err.ensures.stops)

pub returns-in-Err-clause-runs : goal.returns-in-Err-clause-runs
returns-in-Err-clause-runs g c = runs_through g.D.Disk.meaning c.args.store.now c.loop-id.store c.make_moves.new.store c.loop-id.invariant.runs c.in-Err.ensures.runs

pub returns-clause-after : goal.returns-clause-after
returns-clause-after g c =
    let given = to_z w64 (of_z w64 c.args.moment) in
    let same : given ≡ c.args.moment = to_z-of_z w64 c.args.moment (search rules) in
    let ids = c.args.ids.now in
    let first = reverse (history_of c.args.store.now) in
    c.loop-id.invariant.so_far ∙ (ap (λ l. pass given l first) (take_all c.loop-id.id-index ids (omega (arith, ap length c.as_slice-id-items.ensures))) ∙ ap (λ (t : ℤ). pass t ids first) same)
