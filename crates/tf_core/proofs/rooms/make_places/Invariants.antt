use Rattle.std.proofs.Common.{◌≡◌, List, drop}
use Rattle.tf_dest.specs.Tables.{KeepsPlaces}
use Rattle.tf_model.specs.declared.value.Key.{Key}
use Rattle.tf_core.specs.Chain.{ArePlaced, all_paged}
use Rattle.tf_core.proofs.rooms.make_places.Given as goal

-- what is behind has its places wherever the places that there are stay
abbrev pub invariant-loop-prepared : goal.invariant-loop-prepared
invariant-loop-prepared l = record {
  held : l.rows.held ≡ l.fn.rows.held;
  places : (places : List Key) → KeepsPlaces l.rows.places places → ArePlaced l.id places (all_paged (drop l.prepared-index l.steps)) → ArePlaced l.id places (all_paged l.steps);
}
