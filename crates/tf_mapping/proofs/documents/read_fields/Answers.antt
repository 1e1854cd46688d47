use Rattle.std.specs.Option.{option_copied}
use Rattle.std.proofs.Common.{◌++◌, ◌∷◌, [], ap, ◌∙◌}
use Rattle.tf_model.specs.Paired.{paired}
use Rattle.tf_mapping.proofs.DocumentLaws.{refused_at}
use Rattle.tf_mapping.proofs.PairLaws.{more_read, one_longer}
use Rattle.tf_mapping.proofs.documents.read_fields.Goals as goal

pub returns-in-Err : goal.returns-in-Err
returns-in-Err c =
    refused_at (option_copied c.args.stamp) c.args.tree.now c.args.fields.now (paired c.args.fields.now c.loop-field.values) c.loop-field.field-index c.loop-field-item.result c.in-Err.error
    c.loop-field-test.true c.loop-field-item.is c.loop-field.invariant.1 c.in-Err.ensures

pub loop-field-preserved : goal.loop-field-preserved
loop-field-preserved c =
    let added = c.in_ok-push-in-Ok.ensures.ok ∙ ap (λ w. c.loop-field.values ++ w ∷ []) c.unwrap_or.ensures in (
      one_longer _ _ _ _ c.loop-field.invariant.0 added,
      more_read (option_copied c.args.stamp) c.args.tree.now c.args.fields.now c.loop-field.values c.push.new.self c.loop-field.field-index c.loop-field-item.result c.in-Ok.value
          c.loop-field-test.true c.loop-field-item.is c.loop-field.invariant.0 c.loop-field.invariant.1 c.in-Ok.ensures added,
    )
