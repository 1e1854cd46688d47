use Rattle.std.proofs.Common.{◌≡◌, take}
use Rattle.std.specs.Prelude.{reverse}
use Rattle.tf_store.specs.Words.{broken_at, file_len, history_of}
use Rattle.tf_serial.specs.Moves.{pass}
use Rattle.tf_serial.specs.Parts.{IsWithin, Runs}
use Rattle.tf_serial.proofs.settling.make_pass.Given as goal

-- the transforms so far are moved out
abbrev pub invariant-loop-id : goal.invariant-loop-id
invariant-loop-id g l = record {
  broken : broken_at l.store ≡ broken_at l.fn.store;
  within : IsWithin (history_of l.fn.store) (history_of l.store) (file_len l.fn.store) (file_len l.store);
  so_far : reverse (history_of l.store) ≡ pass l.fn.moment (take l.id-index l.ids) (reverse (history_of l.fn.store));
  runs : Runs g.D.Disk.meaning l.fn.store l.store;
}
