use Rattle.std.proofs.Common.{◌≡◌, List, [], drop}
use Rattle.tf_dest.specs.Tables.{KeepsPlaces}
use Rattle.tf_model.specs.declared.value.Key.{Key}
use Rattle.tf_core.specs.Chain.{ArePlaced}
use Rattle.tf_core.specs.Made.{pages_of}
use Rattle.tf_core.proofs.making.empty_rows.Given as goal

-- what is behind has its places wherever the places that there are stay
abbrev pub invariant-loop-entry : goal.invariant-loop-entry
invariant-loop-entry l = record {
  held : l.rows.held ≡ [];
  places : (places : List Key) → KeepsPlaces l.rows.places places → ArePlaced l.id places (pages_of (drop l.entry-index l.entries)) → ArePlaced l.id places (pages_of l.entries);
}
