use Rattle.std.proofs.Common.{ap, ◌∙◌, subst, Result, Option}
use Rattle.tf_model.specs.declared.value.Value.{Value}
use Rattle.tf_mapping.specs.declared.error.DocError.{DocError}
use Rattle.tf_mapping.specs.Documents.{Answers, value_from}
use Rattle.tf_mapping.specs.Findings.{seen_more}
use Rattle.tf_mapping.specs.Scalars.{nothing, inside}
use Rattle.tf_mapping.proofs.ValueLaws.{found_value}
use Rattle.tf_mapping.proofs.values.read_value.Goals as goal

pub returns : goal.returns
returns c =
    let Wanted : Result (Option Value) DocError → Type 0 = λ wanted. Answers wanted c.value_from.result in
    subst Wanted
    (ap (value_from c.args.kind c.args.field.now) (c.find_inside.ensures ∙ ap (λ path. seen_more nothing c.args.tree.now (inside path)) c.as_bytes.ensures)
    ∙ found_value c.args.field.now c.args.kind c.args.tree.now)
    c.value_from.ensures
