-- Which entries a core takes after a history: those that are legal, and of the forms that are built.
use Rattle.std.specs.Prelude.{◌≡◌, ⊤, true, List, [], ◌∷◌, reverse}
use Rattle.tf_model.specs.declared.entry.Entry.{Entry}
use Rattle.tf_model.specs.Names.{is_transform_id, is_index_name, is_field_path}
use Rattle.tf_history.specs.Events.{Event}
use Rattle.tf_history.specs.LegalEntries.{Reading, IsLegalEntry}
use Rattle.tf_history.specs.Reading.{events}
use Rattle.tf_mapping.specs.Documents.{values_of}
use Rattle.tf_mapping.specs.Routes.{shard_of}
use Rattle.tf_mapping.specs.Written.{is_written}
use Rattle.tf_config.specs.Refusals.{passes}
use Rattle.tf_core.specs.Built.{is_built}
use Rattle.tf_core.specs.Sources.{catalogued}

-- what is said of names, ids, configurations and documents
unfoldable pub reading : Reading
reading = record {
  values_of = values_of;
  is_id = is_transform_id;
  is_name = is_index_name;
  is_field = is_field_path;
  shard_of = shard_of;
  is_config = λ indices config. passes (catalogued indices) config;
  is_read = λ index moment tree. is_written index.mapping index.stamp moment tree;
}

-- a past, newest entry first, as the laws of checkpoints read it
abbrev pub read : List Entry → List Event
read past = events values_of past

-- an entry that is taken after a past
pub record IsTaken (past : List Entry) (e : Entry) : Type 0 where
  pub legal : IsLegalEntry reading past e
  pub built : is_built e.kind ≡ true

-- a past in which each entry was taken after those before it
abbrev pub IsTakenPast : List Entry → Type 0
IsTakenPast [] = ⊤
IsTakenPast (e ∷ past) = IsTakenPast past × IsTaken past e

-- entries that are taken one after the other after a past; the first is the oldest
abbrev pub AreTaken : List Entry → List Entry → Type 0
AreTaken past [] = ⊤
AreTaken past (e ∷ entries) = IsTaken past e × AreTaken (e ∷ past) entries

-- a history, oldest entry first, whose entries were taken one after the other
abbrev pub IsTakenHistory : List Entry → Type 0
IsTakenHistory history = IsTakenPast (reverse history)

-- entries that are taken one after the other after a history
abbrev pub AreTakenAfter : List Entry → List Entry → Type 0
AreTakenAfter history entries = AreTaken (reverse history) entries
