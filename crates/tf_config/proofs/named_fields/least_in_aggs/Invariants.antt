use Rattle.std.proofs.Common.{◌≡◌, drop, map}
use Rattle.std.specs.List.{fold}
use Rattle.std.specs.Option.{option_copied}
use Rattle.tf_mapping.specs.Least.{lesser_text}
use Rattle.tf_config.specs.FieldTests.{at_fault}
use Rattle.tf_config.proofs.named_fields.least_in_aggs.Given as goal

abbrev pub invariant-loop-agg : goal.invariant-loop-agg
invariant-loop-agg l =
    fold lesser_text (option_copied l.least) (at_fault l.test (map (λ agg. agg.field) (drop l.agg-index l.aggs))) ≡ fold lesser_text (option_copied l.initial.least) (at_fault l.test (map (λ agg. agg.field) l.aggs))
