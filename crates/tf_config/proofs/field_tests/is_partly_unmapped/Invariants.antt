use Rattle.std.proofs.Common.{◌≡◌, drop}
use Rattle.tf_config.specs.Catalogue.{mappings_of}
use Rattle.tf_config.specs.Checks.{is_partly_unmapped}
use Rattle.tf_config.proofs.field_tests.is_partly_unmapped.Given as goal

abbrev pub invariant-loop-source : goal.invariant-loop-source
invariant-loop-source l = is_partly_unmapped (mappings_of l.catalogue (drop l.source-index l.sources)) l.field ≡ is_partly_unmapped (mappings_of l.catalogue l.sources) l.field
