use Rattle.std.proofs.Common.{◌≡◌, ℤ, refl, sym, ap, subst, ◌∙◌, arith, rules, to_z, of_z, w64}
use Rattle.std.proofs.lemmas.Int.{to_z-of_z}
use Rattle.std.proofs.lemmas.List.{length-reverse}
use Rattle.std.specs.Prelude.{reverse}
use Rattle.tf_store.specs.Words.{broken_at, disk_of, failed_of, file_len, history_of}
use Rattle.tf_serial.specs.Frames.{IsOfPass, IsSettling}
use Rattle.tf_serial.specs.Moves.{IsSettled, pass, settled}
use Rattle.tf_serial.specs.Parts.{Stops}
use Rattle.tf_serial.proofs.Frames.{pass_once, pass_settles, passed_paced, settling_frames}
use Rattle.tf_serial.proofs.GoingOn.{runs_itself, runs_through}
use Rattle.tf_serial.proofs.Prefixes.{prefix_same}
use Rattle.tf_serial.proofs.Settled.{fewer_to_pass, settled_ends}
use Rattle.tf_serial.proofs.Stopping.{stop_wider}
use Rattle.tf_serial.proofs.Within.{within_itself, within_through}
use Rattle.tf_serial.proofs.settling.make_passes.Goals as goal

pub passes-init : goal.passes-init
passes-init g c = record { broken = refl; within = within_itself (history_of c.args.store.now) (file_len c.args.store.now); so_far = (0, refl); runs = runs_itself g.D.Disk.meaning c.args.store.now }

pub make_pass-requires : goal.make_pass-requires
make_pass-requires g c =
    let given = to_z w64 (of_z w64 c.args.moment) in
    record { paced = passed_paced given c.args.ids.now (reverse (history_of c.args.store.now)) (reverse (history_of c.passes.store)) c.requires.ids c.passes.invariant.so_far c.requires.paced }

pub passes-smaller : goal.passes-smaller
passes-smaller g c =
    let given = to_z w64 (of_z w64 c.args.moment) in
    let ids = c.args.ids.now in
    let past = reverse (history_of c.passes.store) in
    let now = reverse (history_of c.make_pass.new.store) in
    let paced = passed_paced given ids (reverse (history_of c.args.store.now)) past c.requires.ids c.passes.invariant.so_far c.requires.paced in
    fewer_to_pass given ids past now paced c.in-Ok.ensures.after
    (λ same. c.if-count.false (omega (arith, same, length-reverse (history_of c.passes.store), length-reverse (history_of c.make_pass.new.store), c.count.ensures, c.count-count.ensures)))

pub passes-preserved : goal.passes-preserved
passes-preserved g c =
    let given = to_z w64 (of_z w64 c.args.moment) in
    record {
      broken = c.in-Ok.ensures.broken ∙ c.passes.invariant.broken;
      within = within_through (history_of c.args.store.now) (history_of c.passes.store) (history_of c.make_pass.new.store) (file_len c.args.store.now) (file_len c.passes.store) (file_len c.make_pass.new.store) c.passes.invariant.within c.in-Ok.ensures.within;
      so_far = pass_once given c.args.ids.now (reverse (history_of c.args.store.now)) (reverse (history_of c.passes.store)) c.requires.ids c.passes.invariant.so_far (reverse (history_of c.make_pass.new.store)) c.in-Ok.ensures.after;
      runs = runs_through g.D.Disk.meaning c.args.store.now c.passes.store c.make_pass.new.store c.passes.invariant.runs c.in-Ok.ensures.runs;
    }

pub returns-then-count-clause-after : goal.returns-then-count-clause-after
returns-then-count-clause-after g c =
    let given = to_z w64 (of_z w64 c.args.moment) in
    let same : given ≡ c.args.moment = to_z-of_z w64 c.args.moment (search rules) in
    let first = reverse (history_of c.args.store.now) in
    c.in-Ok.ensures.after ∙ (pass_settles given c.args.ids.now first (reverse (history_of c.passes.store)) c.requires.ids c.passes.invariant.so_far c.requires.paced ∙ ap (λ (t : ℤ). settled t first) same)

pub returns-then-count-clause-ends : goal.returns-then-count-clause-ends
returns-then-count-clause-ends g c =
    let given = to_z w64 (of_z w64 c.args.moment) in
    let same : given ≡ c.args.moment = to_z-of_z w64 c.args.moment (search rules) in
    let first = reverse (history_of c.args.store.now) in
    let now = reverse (history_of c.make_pass.new.store) in
    let made : now ≡ settled given first = c.in-Ok.ensures.after ∙ pass_settles given c.args.ids.now first (reverse (history_of c.passes.store)) c.requires.ids c.passes.invariant.so_far c.requires.paced in
    subst (λ (t : ℤ). IsSettled t now) same (subst (λ past. IsSettled given past) (sym made) (settled_ends given first c.requires.paced))

pub returns-then-count-clause-runs : goal.returns-then-count-clause-runs
returns-then-count-clause-runs g c = runs_through g.D.Disk.meaning c.args.store.now c.passes.store c.make_pass.new.store c.passes.invariant.runs c.in-Ok.ensures.runs

pub returns-in-Err-clause-stops : goal.returns-in-Err-clause-stops
returns-in-Err-clause-stops g c =
    let m = g.D.Disk.meaning in
    let at = c.passes in
    let given = to_z w64 (of_z w64 c.args.moment) in
    let same : given ≡ c.args.moment = to_z-of_z w64 c.args.moment (search rules) in
    let ids = c.args.ids.now in
    let old = c.args.store.now in
    let new = c.make_pass.new.store in
    let first = reverse (history_of old) in
    let past = reverse (history_of at.store) in
    let all = reverse (settled given first) in
    let more = prefix_same (reverse (pass given ids past)) all (ap reverse (pass_settles given ids first past c.requires.ids at.invariant.so_far c.requires.paced)) in
    subst (λ (t : ℤ). Stops m (IsSettling t first) old (reverse (settled t first)) new c.in-Err.error) same
    (stop_wider (IsOfPass given ids past) (IsSettling given first) (history_of old) (history_of at.store) (reverse (pass given ids past)) all (history_of new) (failed_of new) (broken_at old) (broken_at at.store) (broken_at new) (file_len new) (m.faults (disk_of old)) (m.faults (disk_of at.store)) (m.faults (disk_of new)) c.in-Err.error
    (settling_frames given ids first past c.requires.ids at.invariant.so_far) at.invariant.runs.history.begun more at.invariant.broken at.invariant.runs.later c.in-Err.ensures.stops)

pub returns-in-Err-clause-runs : goal.returns-in-Err-clause-runs
returns-in-Err-clause-runs g c = runs_through g.D.Disk.meaning c.args.store.now c.passes.store c.make_pass.new.store c.passes.invariant.runs c.in-Err.ensures.runs

pub returns-then-count-clause-within : goal.returns-then-count-clause-within
returns-then-count-clause-within g c = within_through (history_of c.args.store.now) (history_of c.passes.store) (history_of c.make_pass.new.store) (file_len c.args.store.now) (file_len c.passes.store) (file_len c.make_pass.new.store) c.passes.invariant.within c.in-Ok.ensures.within
