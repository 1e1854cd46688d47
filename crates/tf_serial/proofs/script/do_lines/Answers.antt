use Rattle.std.proofs.Common.{◌+◌, ◌<◌, drop, length, refl, rules, arith, ◌∙◌}
use Rattle.std.specs.Prelude.{reverse}
use Rattle.std.specs.String.{string_bytes}
use Rattle.tf_store.specs.Words.{broken_at, disk_of, failed_of, file_len, history_of}
use Rattle.tf_serial.specs.Frames.{IsOfLine, IsOfLines}
use Rattle.tf_serial.specs.Script.{after, after_line, output}
use Rattle.tf_serial.proofs.GoingOn.{runs_itself, runs_through}
use Rattle.tf_serial.proofs.LinesDone.{after_more, frames_here, frames_more, next_line, output_more}
use Rattle.tf_serial.proofs.Prefixes.{line_begins}
use Rattle.tf_serial.proofs.Stopping.{stop_wider}
use Rattle.tf_serial.proofs.Within.{within_itself, within_through}
use Rattle.tf_serial.proofs.script.do_lines.Goals as goal

pub loop-i-init : goal.loop-i-init
loop-i-init g c = record { broken = refl; within = within_itself (history_of c.args.store.now) (file_len c.args.store.now); output = search rules; after = search rules; frames = λ left next is. is; runs = runs_itself g.D.Disk.meaning c.args.store.now }

pub loop-i-preserved : goal.loop-i-preserved
loop-i-preserved g c =
    let at = c.loop-i in
    let lines = c.args.lines.now in
    let line = c.get.result.now in
    let within : at.i < length lines = omega arith in
    let past = reverse (history_of at.store) in
    let now = reverse (history_of c.do_line.new.store) in
    let rest = drop (at.i + 1) lines in
    let first = next_line lines line at.i within c.get.ensures in
    record {
      broken = c.in-Ok.ensures.broken ∙ at.invariant.broken;
      within = within_through (history_of c.args.store.now) (history_of at.store) (history_of c.do_line.new.store) (file_len c.args.store.now) (file_len at.store) (file_len c.do_line.new.store) at.invariant.within c.in-Ok.ensures.within;
      output = output_more past now (at.i + 1) line (drop at.i lines) rest (string_bytes at.text) (string_bytes c.do_line.new.text) (output (reverse (history_of c.args.store.now)) 1 lines) first c.in-Ok.ensures.reply c.in-Ok.ensures.after at.invariant.output;
      after = after_more past now (at.i + 1) line (drop at.i lines) rest (after (reverse (history_of c.args.store.now)) 1 lines) first c.in-Ok.ensures.after at.invariant.after;
      frames = frames_more (IsOfLines (reverse (history_of c.args.store.now)) 1 lines) past now (at.i + 1) line (drop at.i lines) rest first c.in-Ok.ensures.after at.invariant.frames;
      runs = runs_through g.D.Disk.meaning c.args.store.now at.store c.do_line.new.store at.invariant.runs c.in-Ok.ensures.runs;
    }

pub returns-in-Err-clause-stops : goal.returns-in-Err-clause-stops
returns-in-Err-clause-stops g c =
    let m = g.D.Disk.meaning in
    let at = c.loop-i in
    let lines = c.args.lines.now in
    let line = c.get.result.now in
    let old = c.args.store.now in
    let new = c.do_line.new.store in
    let within : at.i < length lines = omega arith in
    let past = reverse (history_of at.store) in
    let all = after (reverse (history_of old)) 1 lines in
    let first = next_line lines line at.i within c.get.ensures in
    let frames = IsOfLines (reverse (history_of old)) 1 lines in
    stop_wider (IsOfLine past (at.i + 1) line) frames (history_of old) (history_of at.store) (reverse (after_line past (at.i + 1) line)) (reverse all) (history_of new) (failed_of new) (broken_at old) (broken_at at.store) (broken_at new) (file_len new) (m.faults (disk_of old)) (m.faults (disk_of at.store)) (m.faults (disk_of new)) c.in-Err.error
    (frames_here frames past (at.i + 1) line (drop at.i lines) (drop (at.i + 1) lines) first at.invariant.frames) at.invariant.runs.history.begun (line_begins past (at.i + 1) line (drop at.i lines) (drop (at.i + 1) lines) all first at.invariant.after) at.invariant.broken at.invariant.runs.later c.in-Err.ensures.stops

pub returns-in-Err-clause-runs : goal.returns-in-Err-clause-runs
returns-in-Err-clause-runs g c = runs_through g.D.Disk.meaning c.args.store.now c.loop-i.store c.do_line.new.store c.loop-i.invariant.runs c.in-Err.ensures.runs
