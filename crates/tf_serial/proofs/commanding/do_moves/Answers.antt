use Rattle.std.proofs.Common.{◌≡◌, ℤ, List, ap, refl, subst, sym, ◌∙◌, arith, rules, to_z, of_z, w64}
use Rattle.std.specs.Prelude.{IfErr, reverse, take}
use Rattle.std.proofs.lemmas.Int.{to_z-of_z}
use Rattle.tf_model.specs.declared.entry.Entry.{Entry}
use Rattle.tf_command.specs.declared.command.Parts.{Parts}
use Rattle.tf_decide.specs.Replying.{IsAccepted, replied_after}
use Rattle.tf_store.specs.Words.{broken_at, disk_of, failed_of, file_len, history_of}
use Rattle.tf_store.specs.declared.error.StoreError.TheVariants as store_error
use Rattle.tf_serial.specs.Following.{followed, moves_of}
use Rattle.tf_serial.specs.Frames.{IsFollowing, IsOfCommand}
use Rattle.tf_serial.specs.Parts.{Stops}
use Rattle.tf_serial.specs.Script.{after_command, given}
use Rattle.tf_serial.proofs.Commands.{moves_after, moves_frame, moving}
use Rattle.tf_serial.proofs.Prefixes.{history_is, prefix_same, prefix_self, prefix_taken}
use Rattle.tf_serial.proofs.Stopping.{if_memory, memory_at, stop_wider}
use Rattle.tf_serial.proofs.commanding.do_moves.Goals as goal

pub returns-in_err-reply-clause-stops : goal.returns-in_err-reply-clause-stops
returns-in_err-reply-clause-stops g c =
    let old = c.args.store.now in
    let new = c.make_following.new.store in
    let past : List Entry = reverse (history_of old) in
    let command = c.args.command.now in
    let result = c.from_residual.result in
    let whole : List Entry = reverse (after_command past command) in
    let same : c.parts.result.now ≡ command = c.parts.ensures.parts in
    let at : to_z w64 (of_z w64 c.given-moment.result) ≡ given past command = to_z-of_z w64 c.given-moment.result (search rules) ∙ c.given-moment.ensures in
    let after : reverse (history_of new) ≡ after_command past command =
    c.in-Ok.ensures.after ∙ ((λ i. followed (at i) (moves_of (same i).op) past) ∙ sym (moves_after past command c.requires.followed)) in
    let is : IfErr result (λ e. e ≡ store_error.Memory) = search rules in
    if_memory result (Stops g.D.Disk.meaning (IsOfCommand past command) old whole new) is
    (memory_at (history_of old) (history_of new) whole (broken_at old) (broken_at new) c.make_following.ensures.runs.history.begun
    (prefix_same (history_of new) whole (history_is (history_of new) (after_command past command) after)) c.in-Ok.ensures.broken)

pub returns-in-Err-clause-stops : goal.returns-in-Err-clause-stops
returns-in-Err-clause-stops g c =
    let m = g.D.Disk.meaning in
    let old = c.args.store.now in
    let new = c.make_following.new.store in
    let past : List Entry = reverse (history_of old) in
    let command = c.args.command.now in
    let f = moves_of command.op in
    let same : c.parts.result.now ≡ command = c.parts.ensures.parts in
    let at : to_z w64 (of_z w64 c.given-moment.result) ≡ given past command = to_z-of_z w64 c.given-moment.result (search rules) ∙ c.given-moment.ensures in
    let asked = subst (λ (p : Parts). Stops m (IsFollowing (to_z w64 (of_z w64 c.given-moment.result)) (moves_of p.op) past) old (reverse (followed (to_z w64 (of_z w64 c.given-moment.result)) (moves_of p.op) past)) new c.in-Err.error) same c.in-Err.ensures.stops in
    let here = subst (λ (t : ℤ). Stops m (IsFollowing t f past) old (reverse (followed t f past)) new c.in-Err.error) at asked in
    subst (λ (now : List Entry). Stops m (IsOfCommand past command) old (reverse now) new c.in-Err.error) (sym (moves_after past command c.requires.followed))
    (stop_wider (IsFollowing (given past command) f past) (IsOfCommand past command) (history_of old) (history_of old) (reverse (followed (given past command) f past)) (reverse (followed (given past command) f past)) (history_of new) (failed_of new) (broken_at old) (broken_at old) (broken_at new) (file_len new) (m.faults (disk_of old)) (m.faults (disk_of old)) (m.faults (disk_of new)) c.in-Err.error
    (moves_frame past command c.requires.followed) (prefix_self (history_of old)) (prefix_self (reverse (followed (given past command) f past))) refl (omega arith) here)

pub returns-clause-reply : goal.returns-clause-reply
returns-clause-reply g c =
    let first = history_of c.args.store.now in
    let now = history_of c.make_following.new.store in
    let past : List Entry = reverse first in
    let command = c.args.command.now in
    let taken : take c.count-from.result now ≡ first = ap (λ n. take n now) c.count-from.ensures ∙ prefix_taken first now c.make_following.ensures.runs.history.begun in
    let same : c.parts.result.now ≡ command = c.parts.ensures.parts in
    let at : to_z w64 (of_z w64 c.given-moment.result) ≡ given past command = to_z-of_z w64 c.given-moment.result (search rules) ∙ c.given-moment.ensures in
    let after : reverse now ≡ after_command past command =
    c.in-Ok.ensures.after ∙ ((λ i. followed (at i) (moves_of (same i).op) past) ∙ sym (moves_after past command c.requires.followed)) in
    c.in_ok-reply.ensures 0 (given past command)
    ∙ (ap (λ (l : List Entry). replied_after (reverse l) (reverse now) 0 (given past command) command) taken
    ∙ ap (λ (l : List Entry). replied_after past l 0 (given past command) command) after)

pub returns-clause-after : goal.returns-clause-after
returns-clause-after g c =
    let past : List Entry = reverse (history_of c.args.store.now) in
    let command = c.args.command.now in
    let same : c.parts.result.now ≡ command = c.parts.ensures.parts in
    let at : to_z w64 (of_z w64 c.given-moment.result) ≡ given past command = to_z-of_z w64 c.given-moment.result (search rules) ∙ c.given-moment.ensures in
    c.in-Ok.ensures.after ∙ ((λ i. followed (at i) (moves_of (same i).op) past) ∙ sym (moves_after past command c.requires.followed))

pub reply-requires-clause-alone : goal.reply-requires-clause-alone
reply-requires-clause-alone g c =
    let past : List Entry = reverse (history_of c.args.store.now) in
    (moving past (given past c.args.command.now) c.args.command.now.op c.requires.followed).alone

pub reply-requires-clause-accepted : goal.reply-requires-clause-accepted
reply-requires-clause-accepted g c =
    let first = history_of c.args.store.now in
    let now = history_of c.make_following.new.store in
    let past : List Entry = reverse first in
    let command = c.args.command.now in
    let taken : take c.count-from.result now ≡ first = ap (λ n. take n now) c.count-from.ensures ∙ prefix_taken first now c.make_following.ensures.runs.history.begun in
    subst (λ (l : List Entry). IsAccepted (reverse l) command.op) (sym taken) (moving past (given past command) command.op c.requires.followed).accepted
