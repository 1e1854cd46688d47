use Rattle.std.proofs.Common.{◌≡◌, ◌≤◌, ◌-◌, length, take}
use Rattle.tf_disk.specs.Disk.{IsUntouched}
use Rattle.tf_journal.specs.Answers.{IsFront}
use Rattle.tf_journal.proofs.reads.read_bytes.Given as goal

abbrev pub invariant-reads : goal.invariant-reads
invariant-reads g l = record {
  same : IsUntouched g.D.Disk.meaning l.fn.disk l.disk;
  front : IsFront (g.D.Disk.meaning.seen l.fn.disk) (take l.at l.bytes.items);
  within : l.at ≤ length l.bytes.items;
  size : length l.bytes.items ≡ l.len;
  later : g.D.Disk.meaning.faults l.fn.disk ≤ g.D.Disk.meaning.faults l.disk;
}

abbrev pub decreases-reads : goal.decreases-reads
decreases-reads g l = l.len - l.at
