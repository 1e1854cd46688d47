use Rattle.std.proofs.Common.{◌≡◌, List, is_some, length, sym, ap, subst, ◌∙◌}
use Rattle.std.specs.String.{string_bytes}
use Rattle.tf_model.specs.declared.entry.Entry.{Entry}
use Rattle.tf_store.specs.Words.{broken_at, disk_of, failed_of, file_len, history_of, journal_of, opened_at, opened_with}
use Rattle.tf_serial.specs.Script.{history_after}
use Rattle.tf_cli.specs.Top.{HoldsAll, IsLeftOver, IsSound, stopped}
use Rattle.tf_cli.proofs.Held.{holds_all, tells_so}
use Rattle.tf_cli.proofs.Left.{fits_after, ran, stops}
use Rattle.tf_cli.proofs.running.run_store.Goals as goal

pub returns-in-Ok-clause-left : goal.returns-in-Ok-clause-left
returns-in-Ok-clause-left g c =
    let m = g.D.Disk.meaning in
    let store = c.run_script.new.store in
    let first = history_of c.args.store in
    let e = c.in-Ok.ensures in
    let count : opened_with store ≡ length first = e.opened.1 ∙ c.requires.opened in
    let sound : IsSound first (history_of store) = record { taken = e.taken; right = e.right; grouped = e.grouped } in
    let held = holds_all m first (history_of store) (failed_of store) (opened_with store) (journal_of store) count e.begun store.known (e.broken ∙ c.requires.whole) in
    let left =
    ran m (disk_of c.args.store) (g.K.Sink.written c.args.out.now) (g.K.Sink.written c.write_replies.new.out) (g.K.Sink.faults c.args.out.now) (g.K.Sink.faults c.write_replies.new.out) c.args.lines.now first (disk_of store)
    (opened_at c.args.store) (file_len store) c.write_replies.result (string_bytes c.in-Ok.text) c.write_replies.ensures.written e.output (subst (IsSound first) e.after sound)
    (subst (λ synced. ∥ HoldsAll m synced first (history_after first c.args.lines.now) (file_len store) (disk_of store) ∥₁) e.opened.0 (subst (λ (l : List Entry). ∥ HoldsAll m (opened_at store) first l (file_len store) (disk_of store) ∥₁) e.after held))
    (fits_after first (history_of store) (history_after first c.args.lines.now) (file_len c.args.store) (file_len store) e.after e.within) in
    subst
    (λ d. IsLeftOver m (disk_of c.args.store) d (g.K.Sink.written c.args.out.now) (g.K.Sink.written c.write_replies.new.out) (g.K.Sink.faults c.args.out.now) (g.K.Sink.faults c.write_replies.new.out) c.args.lines.now (opened_at c.args.store) first c.write_replies.result)
    (sym c.into_disk.ensures) left

pub returns-in-Err-clause-left : goal.returns-in-Err-clause-left
returns-in-Err-clause-left g c =
    let m = g.D.Disk.meaning in
    let store = c.run_script.new.store in
    let first = history_of c.args.store in
    let e = c.in-Err.ensures in
    let out = c.args.out.now in
    let count : opened_with store ≡ length first = e.opened.1 ∙ c.requires.opened in
    let sound : IsSound first (history_of store) = record { taken = e.taken; right = e.right; grouped = e.grouped } in
    let left =
    stops m (disk_of c.args.store) (g.K.Sink.written out) (g.K.Sink.written out) (g.K.Sink.faults out) (g.K.Sink.faults out) c.args.lines.now first (history_of store) (failed_of store) (opened_with store) (journal_of store)
    (broken_at c.args.store) c.in-Err.error c.requires.whole count e.begun store.known sound e.stops in
    let ends : c.stopped.result ≡ stopped c.in-Err.error (length (history_of store)) = c.stopped.ensures ∙ ap (stopped c.in-Err.error) c.count.ensures in
    subst (λ o. IsLeftOver m (disk_of c.args.store) c.into_disk-in-Err.result (g.K.Sink.written out) (g.K.Sink.written out) (g.K.Sink.faults out) (g.K.Sink.faults out) c.args.lines.now (opened_at c.args.store) first o) (sym ends)
    (subst (λ d. IsLeftOver m (disk_of c.args.store) d (g.K.Sink.written out) (g.K.Sink.written out) (g.K.Sink.faults out) (g.K.Sink.faults out) c.args.lines.now (opened_at c.args.store) first (stopped c.in-Err.error (length (history_of store)))) (sym c.into_disk-in-Err.ensures)
    (subst (λ synced. IsLeftOver m (disk_of c.args.store) (disk_of store) (g.K.Sink.written out) (g.K.Sink.written out) (g.K.Sink.faults out) (g.K.Sink.faults out) c.args.lines.now synced first (stopped c.in-Err.error (length (history_of store)))) e.opened.0 left))

pub returns-in-Ok-clause-tells : goal.returns-in-Ok-clause-tells
returns-in-Ok-clause-tells g c =
    let m = g.D.Disk.meaning in
    let old = c.args.store in
    let store = c.run_script.new.store in
    ap (λ d. is_some (m.seen d)) c.into_disk.ensures
    ∙ tells_so m (history_of store) (failed_of store) (opened_with store) (journal_of store) store.known
    ∙ ap (λ d. is_some (m.seen d)) c.in-Ok.ensures.opened.0
    ∙ sym (tells_so m (history_of old) (failed_of old) (opened_with old) (journal_of old) old.known)

pub returns-in-Err-clause-tells : goal.returns-in-Err-clause-tells
returns-in-Err-clause-tells g c =
    let m = g.D.Disk.meaning in
    let old = c.args.store in
    let store = c.run_script.new.store in
    ap (λ d. is_some (m.seen d)) c.into_disk-in-Err.ensures
    ∙ tells_so m (history_of store) (failed_of store) (opened_with store) (journal_of store) store.known
    ∙ ap (λ d. is_some (m.seen d)) c.in-Err.ensures.opened.0
    ∙ sym (tells_so m (history_of old) (failed_of old) (opened_with old) (journal_of old) old.known)
