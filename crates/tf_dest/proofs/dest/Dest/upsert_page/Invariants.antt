use Rattle.std.proofs.Common.{◌≡◌}
use Rattle.std.specs.Vec.Iter.{into_iter_items}
use Rattle.tf_dest.specs.Tables.{HavePlaces, held_keys, put_page}
use Rattle.tf_dest.proofs.dest.Dest.upsert_page.Given as goal

abbrev pub invariant-loop-held : goal.invariant-loop-held
invariant-loop-held l = record {
  held : put_page (into_iter_items l.held-iterator) l.self.held ≡ put_page l.fn.page.items l.fn.self.held;
  places : l.self.places ≡ l.fn.self.places;
  there : HavePlaces l.self.places (held_keys (into_iter_items l.held-iterator));
}
