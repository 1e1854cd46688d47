use Rattle.std.proofs.Common.{◌≡◌, ◌++◌, map}
use Rattle.std.specs.Vec.Iter.{into_iter_items}
use Rattle.std.specs.List.{AllByRecursion}
use Rattle.tf_decide.specs.Replying.{hit_of}
use Rattle.tf_decide.specs.Rows.{IsShown}
use Rattle.tf_decide.proofs.replying.hits_of.Given as goal

abbrev pub invariant-loop-row : goal.invariant-loop-row
invariant-loop-row l = record {
  hits : l.hits ++ map (hit_of l.config) (into_iter_items l.row-iterator) ≡ map (hit_of l.config) l.fn.rows;
  shown : AllByRecursion IsShown (into_iter_items l.row-iterator);
}
