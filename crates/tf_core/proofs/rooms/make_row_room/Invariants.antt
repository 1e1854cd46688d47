use Rattle.std.proofs.Common.{◌≡◌, take}
use Rattle.std.specs.Prelude.{vec_len}
use Rattle.std.specs.List.{AllByRecursion}
use Rattle.tf_core.specs.Chain.{HasRowRoom, all_paged}
use Rattle.tf_core.specs.Rooms.{SameTables}
use Rattle.tf_core.proofs.rooms.make_row_room.Given as goal

abbrev pub invariant-loop-at : goal.invariant-loop-at
invariant-loop-at l = record {
  same : SameTables l.fn.transforms.items l.transforms.items;
  len : vec_len l.transforms ≡ vec_len l.fn.transforms;
  room : AllByRecursion (HasRowRoom (all_paged l.steps)) (take l.at l.transforms.items);
}
