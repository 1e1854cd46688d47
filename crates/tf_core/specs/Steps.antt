-- What a prepared step does.
use Rattle.std.specs.Prelude.{◌≡◌, ℕ, pos, ◌^◌, ◌+◌, ◌<◌, ⊤, Bool, true, false, not, if◌then◌else◌, nat_lt, List, [], ◌∷◌, filter, length, map, get_or, slice_set, Some, None, IsSome}
use Rattle.std.specs.Arc.{arc_value}
use Rattle.tf_model.specs.declared.doc.Doc.{Doc}
use Rattle.tf_model.specs.declared.entry.Entry.{Entry}
use Rattle.tf_model.specs.declared.entry.Row.{Row}
use Rattle.tf_model.specs.declared.task.State.{State}
use Rattle.tf_model.specs.declared.task.State.TheVariants as state
use Rattle.tf_history.specs.Catalogue.{SourceIndex, makes}
use Rattle.tf_history.specs.Configured.{meaning}
use Rattle.tf_history.specs.Events.{Event}
use Rattle.tf_history.specs.Legality.{IsAllowed, names}
use Rattle.tf_history.specs.Lives.{Act, act, after_finish, fresh, is_same, last_key, life, put_rows, writes}
use Rattle.tf_history.specs.Lives.Act.{Aside, Opens, Closes, Writes, Begins, Pages, Finishes, Reopens, Turns}
use Rattle.tf_history.specs.Lives.Turn.{Starts, Asks, Stops, Prompts, Fails}
use Rattle.tf_history.specs.Reading.{deed_of, event_of}
use Rattle.tf_history.specs.Transforms.{PutTransform, transforms_after}
use Rattle.tf_core.specs.declared.ready.Change.{Change}
use Rattle.tf_core.specs.declared.ready.Change.TheVariants as change
use Rattle.tf_core.specs.declared.ready.Step.{Step}
use Rattle.tf_core.specs.declared.ready.Step.TheVariants as step
use Rattle.tf_core.specs.declared.transform.Transform.{Transform}
use Rattle.tf_core.specs.Late.{after_write}
use Rattle.tf_core.specs.Summary.{IsSummary, put_of}
use Rattle.tf_core.specs.Table.{is_other, place_in}
use Rattle.tf_dest.specs.Tables.{rows_in, rows_of}
use Rattle.tf_mapping.specs.Documents.{values_of}

-- ---- a change of one transform
-- the act that a change makes
abbrev pub act_of : Change → Act
act_of change.Start = Turns Starts
act_of (change.AskStop wait) = Turns (Asks wait)
act_of change.Stop = Turns Stops
act_of change.Prompt = Turns Prompts
act_of (change.Fail reason) = Turns (Fails reason.key reason.name reason.value)
act_of (change.Begin n bound at_ms) = Begins n bound at_ms
act_of (change.Page n rows position) = Pages n (rows_of rows.items)
act_of (change.Finish n) = Finishes n
act_of change.Reset = Reopens

-- the state after a Start
abbrev pub started : Bool → State
started running = if running then state.Indexing else state.Started

-- what a change leaves, but for the rows; so many documents are written
abbrev pub changed : ℕ → Change → Transform → Transform
changed written change.Start t = record t { state = started (nat_lt t.finished t.begun); prompted = true }
changed written (change.AskStop wait) t = record t { state = state.Stopping; waits = wait }
changed written change.Stop t = record t { state = state.Stopped }
changed written change.Prompt t = record t { prompted = true }
changed written (change.Fail reason) t = record t { state = state.Failed; reason = Some reason }
changed written (change.Begin n bound at_ms) t =
    record t { begun = n; low = t.bound; before_ms = t.begun_ms; before_read = t.read; bound = bound; begun_ms = at_ms; read = written; position = None; pages = 0; state = state.Indexing; prompted = false }
changed written (change.Page n rows position) t =
    record t { position = Some position; pages = t.pages + 1; processed = t.processed + 1; indexed = t.indexed + length rows.items }
changed written (change.Finish n) t = record t { finished = n; state = after_finish t.state }
changed written change.Reset t =
    record {
      id = t.id;
      config = t.config;
      sources = t.sources;
      state = state.Stopped;
      waits = false;
      prompted = false;
      begun = 0;
      low = None;
      bound = None;
      begun_ms = pos 0;
      read = 0;
      passed = 0;
      before_ms = pos 0;
      before_read = 0;
      finished = 0;
      position = None;
      pages = 0;
      late = 0;
      reason = None;
      processed = 0;
      indexed = 0;
      deleted = 0;
      rows = t.rows;
    }

-- the rows after a change
abbrev pub rows_after : Change → List Row → List Row
rows_after (change.Page n rows position) before = put_rows (rows_of rows.items) before
rows_after change.Reset before = []
rows_after _ before = before

-- a Page has its last key as position, and fewer rows than fit in memory
abbrev pub IsWhole : Change → Type 0
IsWhole (change.Page n rows position) = (last_key (rows_of rows.items) ≡ Some position) × (length rows.items < 2 ^ 63)
IsWhole _ = ⊤

pub record Changed (written : ℕ) (by : Change) (old new : Transform) : Type 0 where
  pub same : new ≡ record (changed written by old) { rows = new.rows }
  pub rows : rows_in new.rows ≡ rows_after by (rows_in old.rows)
  pub places : new.rows.places ≡ old.rows.places

-- counters that one more does not overflow
pub record IsSmall (t : Transform) : Type 0 where
  pub late : t.late < 2 ^ 63
  pub pages : t.pages < 2 ^ 63
  pub processed : t.processed < 2 ^ 63
  pub indexed : t.indexed < 2 ^ 127

-- ---- steps
-- the index that a step adds, none or one
abbrev pub added : Step → List SourceIndex
added (step.Index index) = index ∷ []
added _ = []

-- the document that a step adds, none or one
abbrev pub docs_of : Step → List Doc
docs_of (step.Write doc) = arc_value doc ∷ []
docs_of _ = []

abbrev pub only : List ℕ → Act → List ℕ → Act
only id a other = if is_same other id then a else Aside

-- whether a step names the transform with an id
abbrev pub is_about : List ℕ → Step → Bool
is_about id (step.Index index) = false
is_about id (step.Write doc) = false
is_about id (step.Put t) = is_same id t.id
is_about id (step.Delete other) = is_same id other
is_about id (step.Change other by) = is_same id other

-- what a step is to each transform
abbrev pub acts_of : Step → List ℕ → Act
acts_of (step.Index index) = λ id. Aside
acts_of (step.Write doc) = λ id. Writes (arc_value doc)
acts_of (step.Put t) = only t.id (Opens (meaning t.sources t.config))
acts_of (step.Delete id) = only id Closes
acts_of (step.Change id by) = only id (act_of by)

-- the transforms that are put, after a step
abbrev pub puts_after : Step → List PutTransform → List PutTransform
puts_after (step.Put t) before = put_of t ∷ before
puts_after (step.Delete id) before = filter (λ (p : PutTransform). not (is_same id p.id)) before
puts_after _ before = before

-- a Put has a transform without a past, and a Page is whole
abbrev pub IsSound : Step → Type 0
IsSound (step.Put t) = IsSummary [] t (fresh (meaning t.sources t.config))
IsSound (step.Change id by) = IsWhole by
IsSound _ = ⊤

-- the transform that a step changes has a life
abbrev pub HasLife : Step → List Event → Type 0
HasLife (step.Change id by) past = IsSome (life id past)
HasLife _ past = ⊤

-- a step is what an entry does, where these indices are there
pub record IsStep (indices : List SourceIndex) (e : Entry) (s : Step) : Type 0 where
  pub makes_is : makes e.kind ≡ added s
  pub writes_is : writes (deed_of values_of indices e.kind) ≡ docs_of s
  pub puts_is : (before : List PutTransform) → transforms_after indices e.kind before ≡ puts_after s before
  pub acts_is : (id : List ℕ) → act id (event_of values_of indices e) ≡ acts_of s id
  pub names_is : (id : List ℕ) → names id (deed_of values_of indices e.kind) ≡ is_about id s
  pub has_life : (past : List Event) → IsAllowed e.at_ms (deed_of values_of indices e.kind) past → HasLife s past
  pub sound : IsSound s

-- ---- what is kept of transforms, after a step
-- the one at a place was changed
pub record ChangedAt (written at : ℕ) (by : Change) (old new : List Transform) : Type 0 where
  pub now : Transform
  pub set : new ≡ slice_set old at now
  pub changed : Changed written by (get_or old at now) now

abbrev pub Stepped : ℕ → Step → List Transform → List Transform → Type 0
Stepped written (step.Index index) old new = new ≡ old
Stepped written (step.Write doc) old new = new ≡ map (after_write (arc_value doc)) old
Stepped written (step.Put t) old new = new ≡ t ∷ old
Stepped written (step.Delete id) old new = new ≡ filter (is_other id) old
Stepped written (step.Change id by) old new = ChangedAt written (place_in id old) by old new
