use Rattle.std.proofs.Common.{◌≡◌, ◌++◌, ℤ, List, ap, subst, ◌∙◌, rules, to_z, of_z, w64}
use Rattle.std.specs.Prelude.{IfErr, IfOk, OnOk, reverse}
use Rattle.std.proofs.lemmas.Int.{to_z-of_z}
use Rattle.tf_model.specs.declared.entry.Entry.{Entry}
use Rattle.tf_reply.specs.declared.replies.Reply.{Reply}
use Rattle.tf_decide.specs.Replying.{replied}
use Rattle.tf_store.specs.Commands.{entries_of}
use Rattle.tf_store.specs.Words.{broken_at, disk_of, failed_of, file_len, history_of}
use Rattle.tf_serial.specs.Frames.{IsOfCommand, IsOnly}
use Rattle.tf_serial.specs.Parts.{Stops}
use Rattle.tf_serial.specs.Script.{asked, given}
use Rattle.tf_serial.proofs.Commands.{alone_done, alone_frame, alone_reply, alone_whole, is_alone}
use Rattle.tf_serial.proofs.Stopping.{stop_in}
use Rattle.tf_serial.proofs.commanding.do_entries.Goals as goal

pub returns-clause-reply : goal.returns-clause-reply
returns-clause-reply g c =
    let past : List Entry = reverse (history_of c.args.store.now) in
    let command = c.args.command.now in
    let at : to_z w64 (of_z w64 c.given-moment.result) ≡ given past command = to_z-of_z w64 c.given-moment.result (search rules) ∙ c.given-moment.ensures in
    subst (λ (r : Reply). IfOk c.submit.result (λ reply. reply ≡ r)) (ap (λ (t : ℤ). replied past 0 t command) at ∙ alone_reply past command (is_alone past command c.requires.alone)) c.submit.ensures.reply

pub returns-clause-after : goal.returns-clause-after
returns-clause-after g c =
    let history = history_of c.args.store.now in
    let past : List Entry = reverse history in
    let now = history_of c.submit.new.store in
    let command = c.args.command.now in
    let at : to_z w64 (of_z w64 c.given-moment.result) ≡ given past command = to_z-of_z w64 c.given-moment.result (search rules) ∙ c.given-moment.ensures in
    alone_done c.submit.result history now command (is_alone past command c.requires.alone)
    (subst (λ (t : ℤ). OnOk c.submit.result (now ≡ history ++ entries_of history 0 t command)) at c.submit.ensures.after)

pub returns-clause-stops : goal.returns-clause-stops
returns-clause-stops g c =
    let m = g.D.Disk.meaning in
    let old = c.args.store.now in
    let new = c.submit.new.store in
    let history = history_of old in
    let past : List Entry = reverse history in
    let command = c.args.command.now in
    let result = c.submit.result in
    let at : to_z w64 (of_z w64 c.given-moment.result) ≡ given past command = to_z-of_z w64 c.given-moment.result (search rules) ∙ c.given-moment.ensures in
    let alone = is_alone past command c.requires.alone in
    let es : List Entry = (asked past command).entries in
    let here = subst (λ (t : ℤ). IfErr result (Stops m (IsOnly history (entries_of history 0 t command)) old (history ++ entries_of history 0 t command) new)) at c.submit.ensures.stops in
    subst (λ (w : List Entry). IfErr result (Stops m (IsOfCommand past command) old w new)) (alone_whole history command alone)
    (stop_in result (IsOnly history es) (IsOfCommand past command) history (history ++ es) (history_of new) (failed_of new) (broken_at old) (broken_at new) (file_len new) (m.faults (disk_of old)) (m.faults (disk_of new)) (alone_frame history command alone) here)
