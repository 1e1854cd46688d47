use Rattle.std.proofs.Common.{◌≡◌, drop, map}
use Rattle.std.specs.Prelude.{filter, not}
use Rattle.std.specs.List.{fold}
use Rattle.std.specs.Option.{option_copied}
use Rattle.tf_mapping.specs.Least.{lesser_text, least_text}
use Rattle.tf_config.specs.Catalogue.{mappings_of}
use Rattle.tf_config.specs.Checks.{groups_field}
use Rattle.tf_config.proofs.typing.least_unnumbered_group.Given as goal

abbrev pub invariant-loop-group : goal.invariant-loop-group
invariant-loop-group l =
    fold lesser_text (option_copied l.least) (map (λ group. group.field) (filter (λ group. not (groups_field (mappings_of l.catalogue l.sources) group)) (drop l.group-index l.groups)))
    ≡ least_text (map (λ group. group.field) (filter (λ group. not (groups_field (mappings_of l.catalogue l.sources) group)) l.groups))
