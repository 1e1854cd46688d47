use Rattle.std.proofs.Common.{◌≡◌, drop}
use Rattle.std.specs.List.{fold}
use Rattle.std.specs.Option.{option_copied}
use Rattle.tf_mapping.specs.Least.{lesser_text}
use Rattle.tf_config.specs.FieldTests.{at_fault}
use Rattle.tf_config.proofs.named_fields.least_in_texts.Given as goal

abbrev pub invariant-loop-field : goal.invariant-loop-field
invariant-loop-field l = fold lesser_text (option_copied l.least) (at_fault l.test (drop l.field-index l.fields)) ≡ fold lesser_text (option_copied l.initial.least) (at_fault l.test l.fields)
