use Rattle.std.proofs.Common.{◌≡◌, ◌++◌, drop}
use Rattle.tf_event.specs.Entries.{spelled_entries}
use Rattle.tf_event.specs.declared.grammar.Grammar.TheVariants.{First}
use Rattle.tf_store.proofs.commit.body_of.Given as goal

-- what is spelled, and the spelling of the rest
abbrev pub invariant-loop-at : goal.invariant-loop-at
invariant-loop-at l = l.body ++ spelled_entries First (drop l.at l.ready.entries) ≡ spelled_entries First l.ready.entries
