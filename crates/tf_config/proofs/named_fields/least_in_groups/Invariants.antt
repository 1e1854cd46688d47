use Rattle.std.proofs.Common.{◌≡◌, drop, map}
use Rattle.std.specs.List.{fold}
use Rattle.std.specs.Option.{option_copied}
use Rattle.tf_mapping.specs.Least.{lesser_text}
use Rattle.tf_config.specs.FieldTests.{at_fault}
use Rattle.tf_config.proofs.named_fields.least_in_groups.Given as goal

abbrev pub invariant-loop-group : goal.invariant-loop-group
invariant-loop-group l =
    fold lesser_text (option_copied l.least) (at_fault l.test (map (λ group. group.field) (drop l.group-index l.groups))) ≡ fold lesser_text (option_copied l.initial.least) (at_fault l.test (map (λ group. group.field) l.groups))
