use Rattle.std.proofs.Common.{◌≡◌, List, false, rules, sym, ◌∙◌}
use Rattle.std.specs.Prelude.{IfErr, reverse}
use Rattle.tf_model.specs.declared.entry.Entry.{Entry}
use Rattle.tf_command.specs.Lines.{is_blank}
use Rattle.tf_store.specs.Words.{broken_at, file_len, history_of}
use Rattle.tf_store.specs.declared.error.StoreError.TheVariants as store_error
use Rattle.tf_serial.specs.Frames.{IsOfLine}
use Rattle.tf_serial.specs.Parts.{Stops}
use Rattle.tf_serial.specs.Script.{after_line}
use Rattle.tf_serial.proofs.GoingOn.{runs_itself}
use Rattle.tf_serial.proofs.LinesRead.{after_read}
use Rattle.tf_serial.proofs.Prefixes.{history_is, prefix_same}
use Rattle.tf_serial.proofs.Stopping.{if_memory, memory_at}
use Rattle.tf_serial.proofs.Within.{within_itself}
use Rattle.tf_serial.proofs.script.do_line.Goals as goal

pub returns-then-is_blank-clause-runs : goal.returns-then-is_blank-clause-runs
returns-then-is_blank-clause-runs g c = runs_itself g.D.Disk.meaning c.args.store.now

pub returns-in_err-write_reply-clause-stops : goal.returns-in_err-write_reply-clause-stops
returns-in_err-write_reply-clause-stops g c =
    let old = c.args.store.now in
    let new = c.answer.new.store in
    let past : List Entry = reverse (history_of old) in
    let frames = IsOfLine past c.args.number c.args.line.now in
    let result = c.from_residual-in_err-write_reply.result in
    let whole : List Entry = reverse (after_line past c.args.number c.args.line.now) in
    let some : is_blank c.args.line.now ≡ false = sym c.is_blank.ensures ∙ c.if-is_blank.false in
    let made : reverse (history_of new) ≡ after_line past c.args.number c.args.line.now = c.in_ok-reply.ensures.after ∙ sym (after_read past c.args.number c.args.line.now some) in
    let is : IfErr result (λ e. e ≡ store_error.Memory) = search rules in
    if_memory result (Stops g.D.Disk.meaning frames old whole new) is
    (memory_at (history_of old) (history_of new) whole (broken_at old) (broken_at new) c.in_ok-reply.ensures.runs.history.begun
    (prefix_same (history_of new) whole (history_is (history_of new) (after_line past c.args.number c.args.line.now) made)) c.in_ok-reply.ensures.broken)

pub returns-then-is_blank-clause-within : goal.returns-then-is_blank-clause-within
returns-then-is_blank-clause-within g c = within_itself (history_of c.args.store.now) (file_len c.args.store.now)
