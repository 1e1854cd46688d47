use Rattle.std.proofs.Common.{◌≡◌, drop}
use Rattle.std.specs.List.{fold, flat_map}
use Rattle.tf_mapping.specs.Least.{lesser_text}
use Rattle.tf_mapping.specs.Settings.{top_faults}
use Rattle.tf_mapping.proofs.settings.least_in_top.Given as goal

abbrev pub invariant-loop-name : goal.invariant-loop-name
invariant-loop-name l = fold lesser_text l.least (flat_map top_faults (drop l.name-index l.members)) ≡ fold lesser_text l.initial.least (flat_map top_faults l.members)
