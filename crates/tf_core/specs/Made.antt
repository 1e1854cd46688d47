-- What is made for an entry.
use Rattle.std.specs.Prelude.{◌≡◌, ℕ, ℤ, ◌<◌, ⊤, true, IsSomeAnd, List, [], ◌∷◌, ◌++◌, length, map, slice_get, Some, None}
use Rattle.std.specs.Arc.{arc_value}
use Rattle.tf_model.specs.declared.doc.Doc.{Doc}
use Rattle.tf_model.specs.declared.config.Config.{Config}
use Rattle.tf_model.specs.declared.entry.Entry.{Entry}
use Rattle.tf_model.specs.declared.entry.Kind.{Kind}
use Rattle.tf_model.specs.declared.entry.Kind.TheVariants as kind
use Rattle.tf_model.specs.declared.entry.Row.{Row}
use Rattle.tf_history.specs.Catalogue.{SourceIndex, source_numbers}
use Rattle.tf_history.specs.Configured.{meaning}
use Rattle.tf_dest.specs.Tables.{rows_of}
use Rattle.tf_history.specs.Lives.{fresh, last_key}
use Rattle.tf_history.specs.Meaning.{row_key}
use Rattle.tf_mapping.specs.Documents.{reads}
use Rattle.tf_core.specs.declared.kept.Kept.{Kept}
use Rattle.tf_core.specs.declared.kept.Kept.TheVariants as kept
use Rattle.tf_core.specs.declared.ready.Change.{Change}
use Rattle.tf_core.specs.declared.ready.Change.TheVariants as change
use Rattle.tf_core.specs.declared.ready.Prepared.{Prepared}
use Rattle.tf_core.specs.declared.ready.Step.{Step}
use Rattle.tf_core.specs.declared.ready.Step.TheVariants as step
use Rattle.tf_core.specs.declared.transform.Transform.{Transform}
use Rattle.tf_core.specs.Chain.{HasRowRoom, Paged, PutHas, paged}
use Rattle.tf_core.specs.Kept.{entry_of}
use Rattle.tf_core.specs.Steps.{IsStep}
use Rattle.tf_core.specs.Summary.{IsSummary}

-- What is asked of an entry that is prepared where these indices are there: a document that its index reads, no retention
-- policy, and a Page with a row.
abbrev pub IsFit : List SourceIndex → Kind → Type 0
IsFit indices (kind.Write index shard seq id tree) = IsSomeAnd (slice_get indices index) (λ s. reads s.mapping None tree ≡ true)
IsFit indices (kind.Put id config) = config.retention ≡ None
IsFit indices (kind.Page id n rows) = 0 < length rows
IsFit indices _ = ⊤

-- no Write
abbrev pub IsOther : Kind → Type 0
IsOther (kind.Write index shard seq id tree) = ⊥
IsOther _ = ⊤

-- the Page that an entry writes, none or one
abbrev pub page_of : Kind → List Paged
page_of (kind.Page id n rows) = record { id = id; keys = map row_key rows } ∷ []
page_of _ = []

-- the Pages that entries write
abbrev pub pages_of : List Entry → List Paged
pages_of [] = []
pages_of (e ∷ entries) = page_of e.kind ++ pages_of entries

-- a transform that was just put, with room for Pages
pub record IsOpened (indices : List SourceIndex) (pages : List Paged) (id : List ℕ) (config : Config) (t : Transform) : Type 0 where
  pub named : t.id ≡ id
  pub configured : t.config ≡ config
  pub sources : t.sources ≡ source_numbers indices config.sources
  pub summary : IsSummary [] t (fresh (meaning t.sources t.config))
  pub room : HasRowRoom pages t

abbrev pub IsPageOf : ℕ → List Row → Change → Type 0
IsPageOf n rows (change.Page m copies position) = (m ≡ n) × (rows_of copies.items ≡ rows) × (last_key rows ≡ Some position)
IsPageOf n rows _ = ⊥

-- a step for an entry where these indices are there; a transform that it puts has room for Pages
pub record IsStepFor (indices : List SourceIndex) (pages : List Paged) (e : Entry) (s : Step) : Type 0 where
  pub step : IsStep indices e s
  pub has : PutHas pages s
  pub page : paged s ≡ page_of e.kind

-- a document kept as a Write, and shared with the step
abbrev pub IsWrittenBy : ℤ → ℕ → Doc → Kept → Step → Type 0
IsWrittenBy at_ms actor d (kept.Write moment who doc) (step.Write other) = (moment ≡ at_ms) × (who ≡ actor) × (arc_value doc ≡ d) × (arc_value other ≡ d)
IsWrittenBy at_ms actor d _ _ = ⊥

abbrev pub IsWritten : ℤ → ℕ → Doc → Prepared → Type 0
IsWritten at_ms actor d p = IsWrittenBy at_ms actor d p.kept p.step

-- an entry that is prepared
pub record IsPreparedFor (indices : List SourceIndex) (pages : List Paged) (e : Entry) (p : Prepared) : Type 0 where
  pub entry : entry_of p.kept ≡ e
  pub step : IsStepFor indices pages e p.step
