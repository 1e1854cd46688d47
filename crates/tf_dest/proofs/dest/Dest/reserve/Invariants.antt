use Rattle.std.proofs.Common.{◌≡◌, List, drop}
use Rattle.tf_model.specs.declared.value.Key.{Key}
use Rattle.tf_dest.specs.Tables.{HavePlaces, KeepsPlaces, held_keys}
use Rattle.tf_dest.proofs.dest.Dest.reserve.Given as goal

-- what is behind has its places wherever the places that there are stay
abbrev pub invariant-loop-held : goal.invariant-loop-held
invariant-loop-held l = record {
  held : l.self.held ≡ l.fn.self.held;
  kept : KeepsPlaces l.fn.self.places l.self.places;
  there : (places : List Key) → KeepsPlaces l.self.places places → HavePlaces places (held_keys (drop l.held-index l.page)) → HavePlaces places (held_keys l.page);
}
