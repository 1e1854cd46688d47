-- A history of entries, read as events.
use Rattle.std.specs.Prelude.{List, [], ◌∷◌}
use Rattle.tf_model.specs.declared.config.Config.{Config}
use Rattle.tf_model.specs.declared.entry.Entry.{Entry}
use Rattle.tf_model.specs.declared.entry.Kind.{Kind}
use Rattle.tf_model.specs.declared.entry.Kind.TheVariants as kind
use Rattle.tf_history.specs.Meaning.{Meaning}
use Rattle.tf_history.specs.Events.{Deed, Event}
use Rattle.tf_history.specs.Events.Deed.{Index, Write, Put, Delete, Reset, Start, StopAsked, Stopped, Schedule, Fail, Begin, Page, Finish}
use Rattle.tf_history.specs.Catalogue.{SourceIndex, ValuesOf, catalogue, source_numbers, written_doc}
use Rattle.tf_history.specs.Configured.{meaning}

-- the meaning of a configuration whose sources are looked up among indices
abbrev pub meaning_in : List SourceIndex → Config → Meaning
meaning_in indices c = meaning (source_numbers indices c.sources) c

-- what an entry does, where these indices were there before it
abbrev pub deed_of : ValuesOf → List SourceIndex → Kind → Deed
deed_of values_of indices (kind.Index name shards mapping stamp quick) = Index
deed_of values_of indices (kind.Write index shard seq id tree) = Write (written_doc values_of indices index shard seq id tree)
deed_of values_of indices (kind.Put id config) = Put id (meaning_in indices config)
deed_of values_of indices (kind.Delete id) = Delete id
deed_of values_of indices (kind.Reset id) = Reset id
deed_of values_of indices (kind.Start id) = Start id
deed_of values_of indices (kind.StopAsked id wait) = StopAsked id wait
deed_of values_of indices (kind.Stopped id) = Stopped id
deed_of values_of indices (kind.Schedule id) = Schedule id
deed_of values_of indices (kind.Fail id n key name value) = Fail id n key name value
deed_of values_of indices (kind.Begin id n bound) = Begin id n bound
deed_of values_of indices (kind.Page id n rows) = Page id n rows
deed_of values_of indices (kind.Finish id n) = Finish id n

-- an entry as an event
abbrev pub event_of : ValuesOf → List SourceIndex → Entry → Event
event_of values_of indices e = record { moment = e.at_ms; deed = deed_of values_of indices e.kind }

-- a past as events
abbrev pub events : ValuesOf → List Entry → List Event
events values_of [] = []
events values_of (e ∷ past) = event_of values_of (catalogue past) e ∷ events values_of past
