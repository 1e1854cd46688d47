use Rattle.std.proofs.Common.{◌≡◌, drop, map}
use Rattle.std.specs.Prelude.{filter}
use Rattle.std.specs.List.{fold}
use Rattle.std.specs.Option.{option_copied}
use Rattle.tf_mapping.specs.Least.{lesser_text, least_text}
use Rattle.tf_config.specs.Checks.{is_date_histogram}
use Rattle.tf_config.specs.FieldTests.{at_fault}
use Rattle.tf_config.proofs.named_fields.least_in_date_groups.Given as goal

abbrev pub invariant-loop-group : goal.invariant-loop-group
invariant-loop-group l =
    fold lesser_text (option_copied l.least) (at_fault l.test (map (λ group. group.field) (filter (λ group. is_date_histogram group.kind) (drop l.group-index l.groups))))
    ≡ least_text (at_fault l.test (map (λ group. group.field) (filter (λ group. is_date_histogram group.kind) l.groups)))
