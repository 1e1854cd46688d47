use Rattle.std.proofs.Common.{◌≡◌, drop}
use Rattle.std.specs.List.{fold}
use Rattle.std.specs.Option.{option_copied}
use Rattle.tf_mapping.specs.Least.{lesser_text, least_text}
use Rattle.tf_config.specs.Checks.{ill_formed}
use Rattle.tf_config.proofs.naming.least_ill_formed.Given as goal

abbrev pub invariant-loop-name : goal.invariant-loop-name
invariant-loop-name l = fold lesser_text (option_copied l.least) (ill_formed (drop l.name-index l.names)) ≡ least_text (ill_formed l.names)
