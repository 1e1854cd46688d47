use Rattle.std.proofs.Common.{sym, ap, ◌∙◌, ◌++◌}
use Rattle.std.specs.Prelude.{reverse}
use Rattle.tf_history.specs.Lives.{life}
use Rattle.tf_core.specs.Legal.{read}
use Rattle.tf_decide.specs.Replying.{task}
use Rattle.tf_decide.proofs.replying.stepped.Goals as goal

pub returns : goal.returns
returns c =
    let past = reverse c.args.core.now.history in
    c.task_now.ensures ∙ ap (λ es. task c.args.line c.args.no c.args.id (life c.args.id (read (reverse es ++ past)))) (sym c.requires)
