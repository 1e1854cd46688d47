use Rattle.std.proofs.Common.{◌≡◌, drop}
use Rattle.std.specs.List.{list_all}
use Rattle.tf_config.specs.Catalogue.{mappings_of, types_in}
use Rattle.tf_config.specs.Checks.{is_same_type}
use Rattle.tf_config.proofs.field_tests.all_have.Given as goal

abbrev pub invariant-loop-source : goal.invariant-loop-source
invariant-loop-source l =
    list_all (is_same_type l.kind) (types_in (mappings_of l.catalogue (drop l.source-index l.sources)) l.field) ≡ list_all (is_same_type l.kind) (types_in (mappings_of l.catalogue l.sources) l.field)
