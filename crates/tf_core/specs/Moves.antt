-- The entries that the indexer's moves make.
use Rattle.std.specs.Prelude.{◌≡◌, ℕ, ℤ, pos, int_le, map, nat_lt, ◌+◌, Bool, not, ◌&&◌, List, [], ◌∷◌, Option, Some, None, if◌then◌else◌}
use Rattle.std.specs.Option.{option_map, option_and_then}
use Rattle.tf_model.specs.declared.config.Config.{Config}
use Rattle.tf_model.specs.declared.doc.Doc.{Doc}
use Rattle.tf_model.specs.declared.entry.Entry.{Entry}
use Rattle.tf_model.specs.declared.entry.Row.{Row}
use Rattle.tf_model.specs.declared.value.Key.{Key}
use Rattle.tf_model.specs.Counted.{counted}
use Rattle.tf_model.specs.Rows.{pivot_row}
use Rattle.tf_model.specs.declared.entry.Kind.{Kind}
use Rattle.tf_model.specs.declared.entry.Kind.TheVariants as kind
use Rattle.tf_history.specs.Events.{Deed}
use Rattle.tf_history.specs.Events.Deed.{Stopped, Fail, Begin, Page, Finish}
use Rattle.tf_history.specs.Legality.{next_move, is_started, is_active}
use Rattle.tf_pivot.specs.Found.{AreRows, IsLeastRange}
use Rattle.tf_reader.specs.Places.{documents}
use Rattle.tf_core.specs.declared.job.Running.{Running}
use Rattle.tf_core.specs.declared.moving.Next.{Next}
use Rattle.tf_core.specs.declared.moving.Next.TheVariants as turn
use Rattle.tf_core.specs.declared.paging.NextPage.{NextPage}
use Rattle.tf_core.specs.declared.paging.NextPage.TheVariants as next_page
use Rattle.tf_core.specs.declared.transform.Transform.{Transform}
use Rattle.tf_core.specs.Allowing.{bound_at, failure, is_due, keys_next, may_stop, read_by}
use Rattle.tf_model.specs.Conditions.{greatest_date}
use Rattle.tf_core.specs.Legal.{read}

-- the moment of the newest entry of a past, 0 where there is none
abbrev pub last_ms_in : List Entry → ℤ
last_ms_in [] = pos 0
last_ms_in (e ∷ past) = e.at_ms

-- a given moment taken into the range of moments
abbrev pub clamped : ℤ → ℤ
clamped given = if int_le given (pos 0) then pos 0 else if int_le greatest_date given then greatest_date else given

-- the later of two moments
abbrev pub later : ℤ → ℤ → ℤ
later last given = if int_le last given then given else last

-- the moment of the next entry where a moment is given: it is in range, and not before the newest entry
abbrev pub moment_after : List Entry → ℤ → ℤ
moment_after past given = later (last_ms_in past) (clamped given)

-- the actor of the indexer where one thread makes the entries
abbrev pub indexer : ℕ
indexer = 8

abbrev pub moved : ℤ → Kind → Entry
moved at_ms kind = record { at_ms = at_ms; actor = indexer; kind = kind }

-- what a deed of the indexer is as an entry's kind
abbrev pub kind_of : Deed → Option Kind
kind_of (Begin id n bound) = Some (kind.Begin id n bound)
kind_of (Page id n rows) = Some (kind.Page id n rows)
kind_of (Finish id n) = Some (kind.Finish id n)
kind_of (Fail id n key name value) = Some (kind.Fail id n key name value)
kind_of (Stopped id) = Some (kind.Stopped id)
kind_of _ = None

-- the entry of the next move of a transform at a moment, none where it has none
abbrev pub move : List ℕ → List Entry → ℤ → Option Entry
move id past at_ms = option_map (moved at_ms) (option_and_then kind_of (next_move id (read past) at_ms))

-- which move comes next at a moment, by what is kept of a transform; docs are all documents written
abbrev pub what_next : Transform → List Doc → ℤ → Next
what_next t docs at_ms =
    if may_stop t then turn.Stopped
    else if is_started t.state && is_due t docs at_ms then turn.Begin (t.finished + 1) (bound_at t at_ms)
    else if nat_lt t.finished t.begun && is_active t.state then turn.Page
    else turn.Nothing

-- whether the newest checkpoint is moved on: it is running, the transform is active, and does not come to its stop before
abbrev pub is_moved_on : Transform → Bool
is_moved_on t = not (may_stop t) && (nat_lt t.finished t.begun && is_active t.state)

-- what is made of the keys of a page: the row of each, or the first sum outside i64 of the least that has one
abbrev pub IsAnswerFor : Config → List Doc → List Key → NextPage → Type 0
IsAnswerFor c docs keys (next_page.Rows rows) = AreRows c docs keys rows
IsAnswerFor c docs keys (next_page.Fails found) = IsLeastRange c docs keys found

-- the rows of the next page of the newest checkpoint, each over all documents that count
abbrev pub IsPage : Transform → List Doc → List Row → Type 0
IsPage t docs rows = map Some rows ≡ map (λ k. pivot_row t.config k (counted t.config t.bound (read_by t docs))) (keys_next t docs)

-- what a checkpoint gets next: a page whose keys all have their rows, or the sum for which it cannot be written
abbrev pub IsNextPage : Transform → List Doc → NextPage → Type 0
IsNextPage t docs (next_page.Rows rows) = IsPage t docs rows × (failure t docs ≡ None)
IsNextPage t docs (next_page.Fails found) = failure t docs ≡ Some found

-- the same as an entry's kind: a Fail, a Finish where there are no rows, else a Page
abbrev pub kind_by : List ℕ → ℕ → NextPage → Kind
kind_by id n (next_page.Fails found) = kind.Fail id n found.key found.name found.value
kind_by id n (next_page.Rows []) = kind.Finish id n
kind_by id n (next_page.Rows (r ∷ rows)) = kind.Page id n (r ∷ rows)

-- the newest checkpoint of a transform
pub record IsRunningOf (t : Transform) (docs : List Doc) (r : Running) : Type 0 where
  pub number : r.n ≡ t.begun
  pub config : r.config ≡ t.config
  pub low : r.low ≡ t.low
  pub high : r.high ≡ t.bound
  pub position : r.after ≡ t.position
  pub docs_are : documents r.reader ≡ read_by t docs
