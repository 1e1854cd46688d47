use Rattle.std.proofs.Common.{◌≡◌, ◌++◌, length}
use Rattle.std.specs.Vec.Iter.{into_iter_items, into_iter_len}
use Rattle.tf_store.specs.Histories.{Holds}
use Rattle.tf_store.proofs.replay.replay.Given as goal

-- the frames so far hold the history
abbrev pub invariant-loop-frame : goal.invariant-loop-frame
invariant-loop-frame l = record {
  all : l.yielded ++ into_iter_items l.frame-iterator ≡ l.fn.frames;
  holds : Holds l.yielded l.core.history;
  rest : into_iter_len l.frame-iterator ≡ length (into_iter_items l.frame-iterator);
  left : l.left ≡ length (into_iter_items l.frame-iterator);
  count : l.count ≡ length l.fn.frames;
}
