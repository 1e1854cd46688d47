use Rattle.std.proofs.Common.{◌≡◌, drop, Some}
use Rattle.std.specs.List.{fold, flat_map}
use Rattle.std.specs.String.{string_bytes}
use Rattle.tf_mapping.specs.Leaves.{leaves_beside, properties_leaves, setting_leaves}
use Rattle.tf_mapping.specs.Gathering.{gather}
use Rattle.tf_mapping.proofs.leaves.+leaves.Given as goal

abbrev pub invariant-gather_members-loop-name : goal.invariant-gather_members-loop-name
invariant-gather_members-loop-name l = record {
  path : string_bytes l.path ≡ string_bytes l.initial.path;
  all : fold gather l.gathered (properties_leaves (leaves_beside (drop l.name-index l.members)) (Some (string_bytes l.initial.path)))
      ≡ fold gather l.initial.gathered (properties_leaves (leaves_beside l.members) (Some (string_bytes l.initial.path)));
}

abbrev pub invariant-gather_settings-loop-name : goal.invariant-gather_settings-loop-name
invariant-gather_settings-loop-name l = record {
  path : string_bytes l.path ≡ string_bytes l.initial.path;
  all : fold gather l.gathered (flat_map (setting_leaves (string_bytes l.initial.path)) (leaves_beside (drop l.name-index l.members)))
      ≡ fold gather l.initial.gathered (flat_map (setting_leaves (string_bytes l.initial.path)) (leaves_beside l.members));
}
