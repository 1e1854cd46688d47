use Rattle.std.proofs.Common.{◌≡◌}
use Rattle.std.specs.Prelude.{reverse}
use Rattle.tf_store.specs.Words.{broken_at, file_len, history_of}
use Rattle.tf_serial.specs.Parts.{IsWithin, Runs}
use Rattle.tf_serial.proofs.Frames.{ArePassed}
use Rattle.tf_serial.proofs.Settled.{to_pass}
use Rattle.tf_serial.proofs.settling.make_passes.Given as goal

-- some passes are made
abbrev pub invariant-passes : goal.invariant-passes
invariant-passes g l = record {
  broken : broken_at l.store ≡ broken_at l.fn.store;
  within : IsWithin (history_of l.fn.store) (history_of l.store) (file_len l.fn.store) (file_len l.store);
  so_far : ArePassed l.fn.moment l.ids (reverse (history_of l.fn.store)) (reverse (history_of l.store));
  runs : Runs g.D.Disk.meaning l.fn.store l.store;
}

abbrev pub decreases-passes : goal.decreases-passes
decreases-passes g l = to_pass l.fn.moment l.ids (reverse (history_of l.store))
