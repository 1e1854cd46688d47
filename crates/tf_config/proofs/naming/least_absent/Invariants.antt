use Rattle.std.proofs.Common.{◌≡◌, drop}
use Rattle.std.specs.Prelude.{filter, not, is_some}
use Rattle.std.specs.List.{fold}
use Rattle.std.specs.Option.{option_copied}
use Rattle.tf_mapping.specs.Least.{lesser_text, least_text}
use Rattle.tf_config.specs.Catalogue.{mapping_named}
use Rattle.tf_config.specs.Checks.{absent_sources}
use Rattle.tf_config.proofs.naming.least_absent.Given as goal

abbrev pub invariant-loop-name : goal.invariant-loop-name
invariant-loop-name l =
    fold lesser_text (option_copied l.least) (filter (λ name. not (is_some (mapping_named l.catalogue name))) (drop l.name-index l.config.sources)) ≡ least_text (absent_sources l.catalogue l.config)
