use Rattle.std.proofs.Common.{◌≡◌}
use Rattle.std.specs.Prelude.{vec_len}
use Rattle.tf_core.specs.Ids.{SameMaps}
use Rattle.tf_core.proofs.ids.make_maps.Given as goal

abbrev pub invariant-loop-at : goal.invariant-loop-at
invariant-loop-at l = record {
  same : SameMaps l.fn.maps.items l.maps.items;
  len : vec_len l.maps ≡ l._at;
}
