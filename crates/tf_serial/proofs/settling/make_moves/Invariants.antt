use Rattle.std.proofs.Common.{◌≡◌}
use Rattle.std.specs.Prelude.{reverse}
use Rattle.tf_indexer.specs.Holding.{IsAt}
use Rattle.tf_store.specs.Words.{broken_at, file_len, history_of}
use Rattle.tf_serial.specs.Moves.{left_in}
use Rattle.tf_serial.specs.Parts.{IsWithin, Runs}
use Rattle.tf_serial.proofs.Frames.{IsMadeFrom}
use Rattle.tf_serial.proofs.settling.make_moves.Given as goal

-- some moves are made, and the indexer is behind them
abbrev pub invariant-moves : goal.invariant-moves
invariant-moves g l = record {
  at : IsAt (reverse (history_of l.store)) l.indexer;
  broken : broken_at l.store ≡ broken_at l.fn.store;
  within : IsWithin (history_of l.fn.store) (history_of l.store) (file_len l.fn.store) (file_len l.store);
  so_far : IsMadeFrom l.fn.moment l.id (reverse (history_of l.fn.store)) (reverse (history_of l.store));
  runs : Runs g.D.Disk.meaning l.fn.store l.store;
}

abbrev pub decreases-moves : goal.decreases-moves
decreases-moves g l = left_in l.fn.moment l.id (reverse (history_of l.store))
