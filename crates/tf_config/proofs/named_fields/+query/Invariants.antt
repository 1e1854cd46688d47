use Rattle.std.proofs.Common.{◌≡◌, drop}
use Rattle.std.specs.List.{fold, flat_map}
use Rattle.std.specs.Option.{option_copied}
use Rattle.tf_mapping.specs.Least.{lesser_text}
use Rattle.tf_query.specs.Reading.{fields_in}
use Rattle.tf_config.specs.FieldTests.{at_fault}
use Rattle.tf_config.proofs.named_fields.+query.Given as goal

abbrev pub invariant-least_in_queries-loop-query : goal.invariant-least_in_queries-loop-query
invariant-least_in_queries-loop-query l =
    fold lesser_text (option_copied l.least) (at_fault l.test (flat_map fields_in (drop l.query-index l.queries))) ≡ fold lesser_text (option_copied l.initial.least) (at_fault l.test (flat_map fields_in l.queries))
