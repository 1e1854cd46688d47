use Rattle.std.proofs.Common.{◌≡◌, ◌++◌}
use Rattle.std.specs.Prelude.{length, reverse}
use Rattle.tf_core.specs.Chain.{AreSteps, PutsHave, all_added, entries_in}
use Rattle.tf_core.specs.Made.{pages_of}
use Rattle.tf_core.specs.Preparing.{AllFit}
use Rattle.tf_core.proofs.preparing.prepare_all.Given as goal

abbrev pub invariant-loop-entry : goal.invariant-loop-entry
invariant-loop-entry l = record {
  same : entries_in l.steps.items ++ reverse l.behind.items ≡ l.fn.entries;
  chain : AreSteps l.indices l.steps.items;
  fit : AllFit (l.indices ++ all_added l.steps.items) (reverse l.behind.items);
  put_rows : PutsHave l.steps.items (pages_of l.behind.items);
}

abbrev pub decreases-loop-entry : goal.decreases-loop-entry
decreases-loop-entry l = length l.behind.items
