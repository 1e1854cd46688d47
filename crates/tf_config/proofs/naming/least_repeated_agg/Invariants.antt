use Rattle.std.proofs.Common.{◌≡◌, drop, map}
use Rattle.std.specs.List.{fold}
use Rattle.std.specs.Option.{option_copied}
use Rattle.tf_mapping.specs.Least.{lesser_text}
use Rattle.tf_config.specs.Checks.{repeated}
use Rattle.tf_config.proofs.naming.least_repeated_agg.Given as goal

abbrev pub invariant-loop-place : goal.invariant-loop-place
invariant-loop-place l =
    fold lesser_text (option_copied l.least) (repeated (map (λ agg. agg.name) (drop l.place l.aggs))) ≡ fold lesser_text (option_copied l.initial.least) (repeated (map (λ agg. agg.name) l.aggs))
