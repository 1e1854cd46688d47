use Rattle.std.proofs.Common.{◌≡◌, drop}
use Rattle.std.specs.List.{fold}
use Rattle.tf_mapping.specs.Least.{lesser_text, least_text}
use Rattle.tf_mapping.specs.Mappings.{ill_typed}
use Rattle.tf_mapping.proofs.mappings.least_untyped.Given as goal

abbrev pub invariant-loop-name : goal.invariant-loop-name
invariant-loop-name l = fold lesser_text l.least (ill_typed (drop l.name-index l.fields)) ≡ least_text (ill_typed l.fields)
