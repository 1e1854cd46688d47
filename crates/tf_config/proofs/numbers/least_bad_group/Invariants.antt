use Rattle.std.proofs.Common.{◌≡◌, drop, map}
use Rattle.std.specs.Prelude.{filter, not}
use Rattle.std.specs.List.{fold}
use Rattle.std.specs.Option.{option_copied}
use Rattle.tf_mapping.specs.Least.{lesser_text, least_text}
use Rattle.tf_config.specs.Checks.{has_interval}
use Rattle.tf_config.proofs.numbers.least_bad_group.Given as goal

abbrev pub invariant-loop-group : goal.invariant-loop-group
invariant-loop-group l =
    fold lesser_text (option_copied l.least) (map (λ group. group.name) (filter (λ group. not (has_interval group.kind)) (drop l.group-index l.groups)))
    ≡ least_text (map (λ group. group.name) (filter (λ group. not (has_interval group.kind)) l.groups))
