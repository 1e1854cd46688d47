use Rattle.std.proofs.Common.{◌≡◌, drop}
use Rattle.std.specs.List.{fold, flat_map}
use Rattle.std.specs.String.{string_bytes}
use Rattle.tf_mapping.specs.Least.{lesser_text}
use Rattle.tf_mapping.specs.Settings.{faults_beside, properties_faults, setting_faults}
use Rattle.tf_mapping.proofs.settings.+faults.Given as goal

abbrev pub invariant-least_in_all-loop-name : goal.invariant-least_in_all-loop-name
invariant-least_in_all-loop-name l = record {
  path : string_bytes l.path ≡ string_bytes l.initial.path;
  least : fold lesser_text l.least (properties_faults (faults_beside (drop l.name-index l.members)) (string_bytes l.initial.path))
      ≡ fold lesser_text l.initial.least (properties_faults (faults_beside l.members) (string_bytes l.initial.path));
}

abbrev pub invariant-least_in_each-loop-name : goal.invariant-least_in_each-loop-name
invariant-least_in_each-loop-name l = record {
  path : string_bytes l.path ≡ string_bytes l.initial.path;
  least : fold lesser_text l.least (flat_map (setting_faults (string_bytes l.initial.path)) (faults_beside (drop l.name-index l.members)))
      ≡ fold lesser_text l.initial.least (flat_map (setting_faults (string_bytes l.initial.path)) (faults_beside l.members));
}
