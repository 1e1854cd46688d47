-- What a command does to the history of a store.
use Rattle.std.specs.Prelude.{ℕ, ℤ, List, reverse}
use Rattle.tf_model.specs.declared.entry.Entry.{Entry}
use Rattle.tf_command.specs.declared.command.Parts.{Parts}
use Rattle.tf_decide.specs.Asking.{asked}

-- the entries that a command asks for after a history, by an actor, where a moment is given
abbrev pub entries_of : List Entry → ℕ → ℤ → Parts → List Entry
entries_of history actor given command = (asked (reverse history) actor given command.op).entries
