-- The entries that a core keeps.
use Rattle.std.specs.Prelude.{List, map, reverse}
use Rattle.std.specs.Arc.{arc_value}
use Rattle.tf_model.specs.declared.entry.Entry.{Entry}
use Rattle.tf_model.specs.declared.entry.Kind.TheVariants as kind
use Rattle.tf_core.specs.declared.kept.Kept.{Kept}
use Rattle.tf_core.specs.declared.kept.Kept.TheVariants as kept

abbrev pub entry_of : Kept → Entry
entry_of (kept.Write at_ms actor doc) =
    let d = arc_value doc in
    record { at_ms = at_ms; actor = actor; kind = kind.Write d.index d.shard d.seq d.id d.tree }
entry_of (kept.Other entry) = arc_value entry

-- a history, oldest entry first
abbrev pub history_in : List Kept → List Entry
history_in entries = map entry_of entries

-- a past, newest entry first
abbrev pub past_in : List Kept → List Entry
past_in entries = reverse (history_in entries)
