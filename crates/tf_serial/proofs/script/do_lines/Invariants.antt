use Rattle.std.proofs.Common.{◌≡◌, List, ◌+◌, ◌++◌, drop}
use Rattle.std.specs.Prelude.{reverse}
use Rattle.std.specs.String.{string_bytes}
use Rattle.tf_model.specs.declared.entry.Entry.{Entry}
use Rattle.tf_store.specs.Words.{broken_at, file_len, history_of}
use Rattle.tf_serial.specs.Frames.{IsOfLines}
use Rattle.tf_serial.specs.Parts.{IsWithin, Runs}
use Rattle.tf_serial.specs.Script.{after, output}
use Rattle.tf_serial.proofs.script.do_lines.Given as goal

-- the lines that are left lead to where all of them lead
abbrev pub invariant-loop-i : goal.invariant-loop-i
invariant-loop-i g l = record {
  broken : broken_at l.store ≡ broken_at l.fn.store;
  within : IsWithin (history_of l.fn.store) (history_of l.store) (file_len l.fn.store) (file_len l.store);
  output : string_bytes l.text ++ output (reverse (history_of l.store)) (l.i + 1) (drop l.i l.lines) ≡ output (reverse (history_of l.fn.store)) 1 l.lines;
  after : after (reverse (history_of l.store)) (l.i + 1) (drop l.i l.lines) ≡ after (reverse (history_of l.fn.store)) 1 l.lines;
  frames : (left next : List Entry) → IsOfLines (reverse (history_of l.store)) (l.i + 1) (drop l.i l.lines) left next → IsOfLines (reverse (history_of l.fn.store)) 1 l.lines left next;
  runs : Runs g.D.Disk.meaning l.fn.store l.store;
}
