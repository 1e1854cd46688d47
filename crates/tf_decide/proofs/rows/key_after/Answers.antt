use Rattle.std.proofs.Common.{ap, ◌∙◌}
use Rattle.std.proofs.lemmas.Result.{IfOk-weaker}
use Rattle.tf_config.specs.Catalogue.{fields_of}
use Rattle.tf_group.specs.Reading.{key_in}
use Rattle.tf_decide.proofs.KeyFound.{found_key}
use Rattle.tf_decide.proofs.rows.key_after.Goals as goal

pub returns : goal.returns
returns c =
    let config = c.args.config.now in
    let array = c.args.array.now in
    let fields_are = c.in_ok-fields.ensures ∙ (λ i. fields_of (c.in_ok-indices.ensures i) (c.as_slice.ensures i)) in
    IfOk-weaker c.read_key.result _ _ (λ key is. found_key config c.in_ok-fields.fields array key is ∙ ap (λ fields. key_in config fields array) fields_are) c.read_key.ensures
