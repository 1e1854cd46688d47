use Rattle.std.proofs.Common.{◌≡◌, drop}
use Rattle.std.specs.List.{fold, flat_map}
use Rattle.tf_mapping.specs.Findings.{shown}
use Rattle.tf_mapping.specs.Scalars.{with_one, found_in, here}
use Rattle.tf_mapping.proofs.walking.+here.Given as goal

abbrev pub invariant-find_here_in_items-loop-item : goal.invariant-find_here_in_items-loop-item
invariant-find_here_in_items-loop-item l =
    fold with_one (shown l.all) (flat_map (λ item. found_in item here) (drop l.item-index l.items)) ≡ fold with_one (shown l.initial.all) (flat_map (λ item. found_in item here) l.items)
