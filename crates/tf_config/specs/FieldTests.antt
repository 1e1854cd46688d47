-- The tests of fields over mappings as one word.
use Rattle.std.specs.Prelude.{ℕ, Bool, List, filter}
use Rattle.tf_model.specs.declared.query.Mapping.{Mapping}
use Rattle.tf_config.specs.declared.field_tests.FieldFault.{FieldFault}
use Rattle.tf_config.specs.declared.field_tests.FieldFault.TheVariants as fault
use Rattle.tf_config.specs.declared.field_tests.FieldTest.{FieldTest}
use Rattle.tf_config.specs.Catalogue.{mappings_of}
use Rattle.tf_config.specs.Checks.{is_unmapped, is_partly_unmapped, is_mixed, is_undated}

-- whether a field has a fault
abbrev pub has_fault : FieldFault → List Mapping → List ℕ → Bool
has_fault fault.Unmapped = is_unmapped
has_fault fault.PartlyUnmapped = is_partly_unmapped
has_fault fault.Mixed = is_mixed
has_fault fault.Undated = is_undated

-- the fields that have the fault of a test
abbrev pub at_fault : FieldTest → List (List ℕ) → List (List ℕ)
at_fault test fields = filter (has_fault test.fault (mappings_of test.catalogue.now test.sources.now)) fields
