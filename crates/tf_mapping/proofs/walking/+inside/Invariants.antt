use Rattle.std.proofs.Common.{◌≡◌, drop}
use Rattle.std.specs.List.{fold, flat_map}
use Rattle.tf_mapping.specs.Findings.{shown}
use Rattle.tf_mapping.specs.Scalars.{with_one, found_in, inside, behind}
use Rattle.tf_mapping.proofs.walking.+inside.Given as goal

abbrev pub invariant-find_in_items-loop-item : goal.invariant-find_in_items-loop-item
invariant-find_in_items-loop-item l =
    fold with_one (shown l.all) (flat_map (λ item. found_in item (inside l.path)) (drop l.item-index l.items))
    ≡ fold with_one (shown l.initial.all) (flat_map (λ item. found_in item (inside l.path)) l.items)

abbrev pub invariant-find_in_members-loop-name : goal.invariant-find_in_members-loop-name
invariant-find_in_members-loop-name l =
    fold with_one (shown l.all) (flat_map (λ m. found_in m.1 (behind m.0 l.path)) (drop l.name-index l.members))
    ≡ fold with_one (shown l.initial.all) (flat_map (λ m. found_in m.1 (behind m.0 l.path)) l.members)
