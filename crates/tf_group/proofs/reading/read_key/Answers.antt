use Rattle.std.proofs.Common.{sym, subst}
use Rattle.std.proofs.lemmas.Result.{IfOk-weaker}
use Rattle.tf_group.specs.Reading.{IsTheKey}
use Rattle.tf_group.proofs.KeyLaws.{the_key}
use Rattle.tf_group.proofs.reading.read_key.Goals as goal

pub returns : goal.returns
returns c =
    let a = c.args in
    IfOk-weaker c.find_key.result _ _ (λ key e. subst (IsTheKey a.config.now a.fields.now a.tree.now) (sym e) (the_key a.config.now a.fields.now a.tree.now)) c.find_key.ensures
