use Rattle.std.proofs.Common.{◌≡◌, drop, None}
use Rattle.std.specs.List.{fold}
use Rattle.tf_mapping.specs.Leaves.{leaves_beside, properties_leaves}
use Rattle.tf_mapping.specs.Gathering.{gather}
use Rattle.tf_mapping.proofs.leaves.gather_top_members.Given as goal

abbrev pub invariant-loop-name : goal.invariant-loop-name
invariant-loop-name l =
    fold gather l.gathered (properties_leaves (leaves_beside (drop l.name-index l.members)) None) ≡ fold gather l.initial.gathered (properties_leaves (leaves_beside l.members) None)
