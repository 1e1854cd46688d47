use Rattle.std.proofs.Common.{◌⊎◌, sym, ap, subst, ◌∙◌, inr}
use Rattle.tf_store.specs.Answers.{LeavesContent}
use Rattle.tf_cli.specs.Top.{AfterOpening, FailedToOpen, HasNoDetail, IsDamaged, RanPartly, StoppedByDisk, StoppedShort}
use Rattle.tf_cli.proofs.Ends.{not_too_long, read_no_detail}
use Rattle.tf_cli.proofs.Outcomes.{damaged, disk_fault, memory, of_script, run_no_detail, write_fault}
use Rattle.tf_cli.proofs.top.run_top.Goals as goal

pub returns-in-Ok-clause-no_detail : goal.returns-in-Ok-clause-no_detail
returns-in-Ok-clause-no_detail g c none =
    ap (λ e. e.detail) c.end.ensures ∙ run_no_detail c.run_file-outcome.result.0 (subst (λ e. HasNoDetail e.status) c.end.ensures none)

pub returns-in-Ok-clause-write_fault : goal.returns-in-Ok-clause-write_fault
returns-in-Ok-clause-write_fault g c is =
    let m = g.D.Disk.meaning in
    let o = c.run_file-outcome.result.0 in
    let now = c.run_file-outcome.result.1 in
    let left = write_fault m c.args.disk now _ _ _ _ _ o c.run_file-outcome.ensures.left (sym (ap (λ e. e.status) c.end.ensures) ∙ is) in (
      left.0,
      of_script _ _ _ (λ lines. AfterOpening m c.args.disk (λ synced. RanPartly m synced now (g.K.Sink.written c.args.out.now) (g.K.Sink.written c.run_file-outcome.new.out) c.end.result.detail lines)) c.in-Ok.ensures.lines
          (subst (λ detail. AfterOpening m c.args.disk (λ synced. RanPartly m synced now (g.K.Sink.written c.args.out.now) (g.K.Sink.written c.run_file-outcome.new.out) detail c.in-Ok.lines)) (sym (ap (λ e. e.detail) c.end.ensures)) left.1),
    )

pub returns-in-Ok-clause-disk_fault : goal.returns-in-Ok-clause-disk_fault
returns-in-Ok-clause-disk_fault g c is =
    let m = g.D.Disk.meaning in
    let o = c.run_file-outcome.result.0 in
    let now = c.run_file-outcome.result.1 in
    let left = disk_fault m c.args.disk now _ _ _ _ _ o c.run_file-outcome.ensures.left (sym (ap (λ e. e.status) c.end.ensures) ∙ is) in (
      left.0,
      of_script _ _ _ (λ lines. FailedToOpen m c.args.disk now c.end.result.detail ⊎ AfterOpening m c.args.disk (λ synced. StoppedByDisk m synced now c.end.result.detail lines)) c.in-Ok.ensures.lines
          (subst (λ detail. FailedToOpen m c.args.disk now detail ⊎ AfterOpening m c.args.disk (λ synced. StoppedByDisk m synced now detail c.in-Ok.lines)) (sym (ap (λ e. e.detail) c.end.ensures)) left.1),
    )

pub returns-in-Ok-clause-damaged : goal.returns-in-Ok-clause-damaged
returns-in-Ok-clause-damaged g c is =
    let m = g.D.Disk.meaning in
    let o = c.run_file-outcome.result.0 in
    let now = c.run_file-outcome.result.1 in
    subst (λ detail. IsDamaged m c.args.disk now detail) (sym (ap (λ e. e.detail) c.end.ensures))
    (damaged m c.args.disk now _ _ _ _ _ o c.run_file-outcome.ensures.left (sym (ap (λ e. e.status) c.end.ensures) ∙ is))

pub returns-in-Ok-clause-memory : goal.returns-in-Ok-clause-memory
returns-in-Ok-clause-memory g c is =
    let m = g.D.Disk.meaning in
    let o = c.run_file-outcome.result.0 in
    let now = c.run_file-outcome.result.1 in
    inr (of_script _ _ _ (λ lines. LeavesContent m c.args.disk now ⊎ AfterOpening m c.args.disk (λ synced. StoppedShort m synced now lines)) c.in-Ok.ensures.lines
    (memory m c.args.disk now _ _ _ _ _ o c.run_file-outcome.ensures.left (sym (ap (λ e. e.status) c.end.ensures) ∙ is)))

pub returns-in-Err-clause-no_detail : goal.returns-in-Err-clause-no_detail
returns-in-Err-clause-no_detail g c none =
    ap (λ e. e.detail) c.end_of_reading.ensures ∙ read_no_detail c.in-Err.error (subst (λ e. HasNoDetail e.status) c.end_of_reading.ensures none)

pub returns-in-Err-clause-not_too_long : goal.returns-in-Err-clause-not_too_long
returns-in-Err-clause-not_too_long g c other =
    not_too_long _ _ _ _ c.in-Err.error c.in-Err.ensures.refused (λ is. other (ap (λ e. e.status) c.end_of_reading.ensures ∙ is))
