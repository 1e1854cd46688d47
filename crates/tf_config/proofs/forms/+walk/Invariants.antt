use Rattle.std.proofs.Common.{◌≡◌, drop}
use Rattle.std.specs.List.{fold}
use Rattle.std.specs.Option.{option_copied}
use Rattle.tf_config.specs.Forms.{noted, in_items, in_members, faults_each, faults_beside}
use Rattle.tf_config.proofs.forms.+walk.Given as goal

abbrev pub invariant-note_items-loop-at : goal.invariant-note_items-loop-at
invariant-note_items-loop-at l =
    fold noted l.found (in_items l.at (option_copied l.place) (faults_each (drop l.at l.items))) ≡ fold noted l.initial.found (in_items 0 (option_copied l.place) (faults_each l.items))

abbrev pub invariant-note_each-loop-name : goal.invariant-note_each-loop-name
invariant-note_each-loop-name l =
    fold noted l.found (in_members l.parent (option_copied l.place) (faults_beside (drop l.name-index l.members)))
    ≡ fold noted l.initial.found (in_members l.parent (option_copied l.place) (faults_beside l.members))
