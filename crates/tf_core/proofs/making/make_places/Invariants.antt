use Rattle.std.proofs.Common.{◌≡◌, List, drop, map}
use Rattle.tf_dest.specs.Tables.{HavePlaces, KeepsPlaces}
use Rattle.tf_history.specs.Meaning.{row_key}
use Rattle.tf_model.specs.declared.value.Key.{Key}
use Rattle.tf_core.proofs.making.make_places.Given as goal

-- what is behind has its places wherever the places that there are stay
abbrev pub invariant-loop-row : goal.invariant-loop-row
invariant-loop-row l = record {
  held : l.rows.held ≡ l.fn.rows.held;
  kept : KeepsPlaces l.fn.rows.places l.rows.places;
  places : (places : List Key) → KeepsPlaces l.rows.places places → HavePlaces places (map row_key (drop l.row-index l.page)) → HavePlaces places (map row_key l.page);
}
