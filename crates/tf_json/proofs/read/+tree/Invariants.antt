use Rattle.std.proofs.Common.{◌≡◌, ◌+◌, ◌<◌, ◌^◌, map}
use Rattle.std.specs.Vec.Iter.{into_iter_items, into_iter_len}
use Rattle.serde_json.specs.View.{items_view, members_view, items_of}
use Rattle.tf_json.specs.Reading.{trees_of, members_of}
use Rattle.tf_json.specs.Stored.{AreStored, data_of}
use Rattle.tf_json.proofs.Made.{EachStored}
use Rattle.tf_json.proofs.Turns.{after}
use Rattle.tf_json.proofs.read.+tree.Given as goal

abbrev pub invariant-trees-loop-value : goal.invariant-trees-loop-value
invariant-trees-loop-value l =
    (goal.iterator-trees-loop-value).can_next l.value-iterator
    × (goal.iterator-trees-loop-value).is_finite l.value-iterator
    × (l.place + into_iter_len l.value-iterator < 2 ^ 64)
    × (trees_of 0 (items_view l.fn.values.items) ≡ after l.found (trees_of l.place (items_view (into_iter_items l.value-iterator))))
    × AreStored (items_of (map data_of l.found))

abbrev pub invariant-members-loop-name : goal.invariant-members-loop-name
invariant-members-loop-name l =
    (members_of (members_view l.fn.values.entries) ≡ after l.pairs (members_of (members_view l.name-iterator)))
    × EachStored l.pairs
