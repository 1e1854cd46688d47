use Rattle.std.proofs.Common.{sym, subst, []}
use Rattle.tf_cli.specs.Top.{IsLeft}
use Rattle.tf_cli.proofs.Left.{refused}
use Rattle.tf_cli.proofs.running.run_file.Goals as goal

pub returns-in-Err-clause-left : goal.returns-in-Err-clause-left
returns-in-Err-clause-left g c =
    let out = c.args.out.now in
    subst (λ o. IsLeft g.D.Disk.meaning c.args.disk c.in-Err.disk (g.K.Sink.written out) (g.K.Sink.written out) (g.K.Sink.faults out) (g.K.Sink.faults out) c.args.lines.now o) (sym c.refused.ensures)
    (refused g.D.Disk.meaning c.args.disk (g.K.Sink.written out) (g.K.Sink.written out) (g.K.Sink.faults out) (g.K.Sink.faults out) c.args.lines.now [] c.in-Err.disk c.in-Err.error c.in-Err.ensures.refused)
