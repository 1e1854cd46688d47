use Rattle.std.proofs.Common.{◌≡◌, drop}
use Rattle.tf_config.specs.Catalogue.{type_in, mappings_of}
use Rattle.tf_config.proofs.field_tests.type_in.Given as goal

abbrev pub invariant-loop-source : goal.invariant-loop-source
invariant-loop-source l = type_in (mappings_of l.catalogue (drop l.source-index l.sources)) l.field ≡ type_in (mappings_of l.catalogue l.sources) l.field
