use Rattle.std.proofs.Common.{◌≡◌, ◌++◌, length}
use Rattle.std.specs.Vec.Iter.{into_iter_items, into_iter_len}
use Rattle.tf_core.specs.Legal.{AreTakenAfter}
use Rattle.tf_store.proofs.replay.take_entries.Given as goal

-- the entries so far are taken
abbrev pub invariant-loop-entry : goal.invariant-loop-entry
invariant-loop-entry l = record {
  all : l.yielded ++ into_iter_items l.entry-iterator ≡ l.fn.entries;
  taken : AreTakenAfter l.fn.core.history l.yielded;
  history : l.core.history ≡ l.fn.core.history ++ l.yielded;
  rest : into_iter_len l.entry-iterator ≡ length (into_iter_items l.entry-iterator);
}
