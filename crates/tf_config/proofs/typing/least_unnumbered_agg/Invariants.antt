use Rattle.std.proofs.Common.{◌≡◌, drop, map}
use Rattle.std.specs.Prelude.{filter, not}
use Rattle.std.specs.List.{fold}
use Rattle.std.specs.Option.{option_copied}
use Rattle.tf_mapping.specs.Least.{lesser_text}
use Rattle.tf_config.specs.Catalogue.{mappings_of}
use Rattle.tf_config.specs.Checks.{aggregates_field}
use Rattle.tf_config.proofs.typing.least_unnumbered_agg.Given as goal

abbrev pub invariant-loop-agg : goal.invariant-loop-agg
invariant-loop-agg l =
    fold lesser_text (option_copied l.least) (map (λ agg. agg.field) (filter (λ agg. not (aggregates_field (mappings_of l.catalogue l.sources) agg)) (drop l.agg-index l.aggs)))
    ≡ fold lesser_text (option_copied l.initial.least) (map (λ agg. agg.field) (filter (λ agg. not (aggregates_field (mappings_of l.catalogue l.sources) agg)) l.aggs))
