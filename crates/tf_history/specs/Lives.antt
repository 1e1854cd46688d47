-- The life of a transform, by a replay of the history from nothing. A history is a list with its newest entry first.
use Rattle.std.specs.Prelude.{ℕ, ℤ, ◌+◌, Bool, true, false, if◌then◌else◌, not, ◌&&◌, List, [], ◌∷◌, ◌++◌, length, drop, filter, Option, Some, None, option_map, nat_lt, count_by}
use Rattle.std.specs.List.{list_any}
use Rattle.std.specs.Str.{bytes_eq}
use Rattle.tf_history.specs.Events.Deed.{Index, Write, Put, Delete, Reset, Start, StopAsked, Stopped as StoppedDeed, Schedule, Fail, Begin, Page, Finish}
use Rattle.tf_history.specs.Grouping.{is_below, from_bound, counted, row_of, all_keys, stays}
use Rattle.tf_history.specs.Events.{Deed, Event}
use Rattle.tf_history.specs.Meaning.{Meaning, row_key}
use Rattle.tf_model.specs.Order.{key_cmp}
use Rattle.tf_model.specs.Keys.{is_among}
use Rattle.tf_model.specs.Bounds.{risen, cutoff_by}
use Rattle.tf_model.specs.declared.doc.Doc.{Doc}
use Rattle.tf_model.specs.declared.task.State.{State}
use Rattle.tf_model.specs.declared.task.State.TheVariants.{Stopped, Started, Indexing, Stopping, Failed}
use Rattle.tf_model.specs.declared.entry.Row.{Row}
use Rattle.tf_model.specs.declared.entry.SumRange.{SumRange}
use Rattle.tf_model.specs.declared.value.Key.{Key}
use Rattle.std.specs.Ordering.{match_ordering}

-- the documents that an entry writes, none or one
abbrev pub writes : Deed → List Doc
writes (Write d) = d ∷ []
writes _ = []

-- the documents written, oldest first
abbrev pub documents : List Event → List Doc
documents [] = []
documents (e ∷ past) = documents past ++ writes e.deed

-- those in the sources
abbrev pub from_sources : Meaning → List Doc → List Doc
from_sources c docs = filter (λ d. c.is_source d.index) docs

-- the documents written into the sources
abbrev pub written : Meaning → List Event → List Doc
written c past = from_sources c (documents past)

-- a checkpoint, as its Begin makes it
pub record Checkpoint : Type 0 where
  pub bound : Option ℤ  -- below it a sync value counts, none for a batch transform
  pub moment : ℤ
  pub read : List Doc  -- the documents written into the sources before it
  pub late : ℕ  -- how many documents were late before it

-- checkpoints stand newest first: the bound of the newest, none where there is none
abbrev pub last_bound : List Checkpoint → Option ℤ
last_bound [] = None
last_bound (b ∷ before) = b.bound

-- the documents that the newest checkpoint read
abbrev pub read_last : List Checkpoint → List Doc
read_last [] = []
read_last (b ∷ before) = b.read

-- the documents that count at the newest checkpoint
abbrev pub counted_last : Meaning → List Checkpoint → List Doc
counted_last c [] = []
counted_last c (b ∷ before) = counted c b.bound b.read

-- the documents that make keys change: for the first checkpoint all that count, then those with a sync value at or above
-- the bound before, and where late documents are included also those that the checkpoint before did not read
abbrev pub window : Meaning → List Checkpoint → List Doc
window c [] = []
window c (b ∷ []) = counted c b.bound b.read
window c (b ∷ a ∷ before) =
    if c.includes_late
    then from_bound c a.bound (counted c b.bound a.read) ++ counted c b.bound (drop (length a.read) b.read)
    else from_bound c a.bound (counted c b.bound b.read)

-- the keys of the window, each once, ascending
abbrev pub changed : Meaning → List Checkpoint → List Key
changed c checkpoints = all_keys c (window c checkpoints)

-- the row that a key got at the last checkpoint in which it changed, none where there is no such checkpoint
abbrev pub last_row : Meaning → List Checkpoint → Key → Option Row
last_row c [] k = None
last_row c (b ∷ before) k = if is_among (changed c (b ∷ before)) k then row_of c (counted c b.bound b.read) k else last_row c before k

-- the greater of the cutoff before and the moment less the age, none without a retention policy
abbrev pub cutoff : Meaning → List Checkpoint → Option ℤ
cutoff c [] = None
cutoff c (b ∷ before) = cutoff_by c.max_age (cutoff c before) b.moment

-- the greater of the bound before and the aligned moment, none for a batch transform
abbrev pub next_bound : Meaning → Option ℤ → ℤ → Option ℤ
next_bound c last moment = if c.is_batch then None else Some (risen last (c.aligned moment))

-- a row in its place, in the place of a row of the same key
abbrev pub put_row : Row → List Row → List Row
put_row r [] = r ∷ []
put_row r (s ∷ rows) = match_ordering (key_cmp (row_key r) (row_key s)) (r ∷ s ∷ rows) (r ∷ rows) (s ∷ put_row r rows)

-- each row of a page in its place
abbrev pub put_rows : List Row → List Row → List Row
put_rows [] rows = rows
put_rows (r ∷ page) rows = put_rows page (put_row r rows)

-- the key of the last row
abbrev pub last_key : List Row → Option Key
last_key [] = None
last_key (r ∷ []) = Some (row_key r)
last_key (r ∷ s ∷ rows) = last_key (s ∷ rows)

-- whether a sync value is there and below a bound that is there
abbrev pub is_under : Option ℤ → Option ℤ → Bool
is_under None value = false
is_under (Some bound) value = is_below (Some bound) value

-- whether a document is late: it is in a source, matches and has a sync value below the bound of an earlier Begin of the life
abbrev pub is_late : Meaning → List Checkpoint → Doc → Bool
is_late c checkpoints d = c.is_source d.index && (c.matches d && list_any (λ b. is_under b.bound (c.sync d)) checkpoints)

-- what the entries of a transform from its last Put or Reset on leave
pub record Life : Type 0 where
  pub meaning : Meaning
  pub checkpoints : List Checkpoint  -- the Begins, newest first
  pub finished : ℕ  -- the last finished checkpoint, 0 for none
  pub position : Option Key  -- the last key of the newest checkpoint's last Page
  pub pages : ℕ  -- the newest checkpoint's Pages
  pub rows : List Row  -- the destination
  pub late : ℕ  -- the documents that were late when they were written
  pub state : State
  pub waits : Bool  -- whether the last StopAsked waits for the checkpoint
  pub prompted : Bool  -- whether a Start or a Schedule stands after the last Begin
  pub reason : Option SumRange  -- of the last Fail
  pub processed : ℕ  -- the Pages of all checkpoints
  pub indexed : ℕ  -- their rows
  pub deleted : ℕ  -- the rows that Finishes took out

-- a life that begins
abbrev pub fresh : Meaning → Life
fresh c = record {
  meaning = c;
  checkpoints = [];
  finished = 0;
  position = None;
  pages = 0;
  rows = [];
  late = 0;
  state = Stopped;
  waits = false;
  prompted = false;
  reason = None;
  processed = 0;
  indexed = 0;
  deleted = 0;
}

-- what changes the state alone
pub data Turn : Type 0 where
  Starts : Turn  -- a Start
  Asks : Bool → Turn  -- a StopAsked
  Stops : Turn  -- a Stopped
  Prompts : Turn  -- a Schedule
  Fails : Key → List ℕ → ℤ → Turn  -- a Fail

-- whether a checkpoint is running: a Begin stands without its Finish
abbrev pub is_running : Life → Bool
is_running l = nat_lt l.finished (length l.checkpoints)

-- the state after a turn
abbrev pub state_turned : Turn → Bool → State → State
state_turned Starts running state = if running then Indexing else Started
state_turned (Asks wait) running state = Stopping
state_turned Stops running state = Stopped
state_turned Prompts running state = state
state_turned (Fails k name value) running state = Failed

-- whether the last StopAsked waits, after a turn
abbrev pub waits_turned : Turn → Bool → Bool
waits_turned (Asks wait) waits = wait
waits_turned _ waits = waits

-- whether a Start or a Schedule stands after the last Begin, after a turn
abbrev pub prompted_turned : Turn → Bool → Bool
prompted_turned Starts prompted = true
prompted_turned Prompts prompted = true
prompted_turned _ prompted = prompted

-- the reason of the last Fail, after a turn
abbrev pub reason_turned : Turn → Option SumRange → Option SumRange
reason_turned (Fails k name value) reason = Some (record { key = k; name = name; value = value })
reason_turned _ reason = reason

-- the state after a Finish
abbrev pub after_finish : State → State
after_finish Indexing = Started
after_finish state = state

-- what an entry is to a transform
pub data Act : Type 0 where
  Aside : Act  -- an Index, or an entry of another transform
  Opens : Meaning → Act  -- a Put
  Reopens : Act  -- a Reset
  Closes : Act  -- a Delete
  Writes : Doc → Act
  Begins : ℕ → Option ℤ → ℤ → Act  -- the number, the bound and the moment
  Pages : ℕ → List Row → Act
  Finishes : ℕ → Act
  Turns : Turn → Act

-- whether two ids are the same
abbrev pub is_same : List ℕ → List ℕ → Bool
is_same = bytes_eq

-- what an entry is to the transform t
abbrev pub act : List ℕ → Event → Act
act t e = elim e.deed as (λ _. Act) [
  | Write d ↦ Writes d
  | Put id c ↦ if is_same t id then Opens c else Aside
  | Delete id ↦ if is_same t id then Closes else Aside
  | Reset id ↦ if is_same t id then Reopens else Aside
  | Begin id n bound ↦ if is_same t id then Begins n bound e.moment else Aside
  | Page id n rows ↦ if is_same t id then Pages n rows else Aside
  | Finish id n ↦ if is_same t id then Finishes n else Aside
  | Start id ↦ if is_same t id then Turns Starts else Aside
  | StopAsked id wait ↦ if is_same t id then Turns (Asks wait) else Aside
  | StoppedDeed id ↦ if is_same t id then Turns Stops else Aside
  | Schedule id ↦ if is_same t id then Turns Prompts else Aside
  | Fail id n k name value ↦ if is_same t id then Turns (Fails k name value) else Aside
  | Index ↦ Aside
]

-- whether a Finish leaves a row; docs are all documents written before it
abbrev pub row_stays : List Doc → Life → Row → Bool
row_stays docs l = stays l.meaning (from_sources l.meaning docs) (cutoff l.meaning l.checkpoints)

-- a life after an act; docs are all documents written before it
abbrev pub lived : List Doc → Act → Life → Life
lived docs (Writes d) l = record l { late = if is_late l.meaning l.checkpoints d then l.late + 1 else l.late }
lived docs (Begins n bound moment) l =
    record l {
      checkpoints = record { bound = bound; moment = moment; read = from_sources l.meaning docs; late = l.late } ∷ l.checkpoints;
      position = None;
      pages = 0;
      state = Indexing;
      prompted = false;
    }
lived docs (Pages n rows) l =
    record l {
      position = last_key rows;
      pages = l.pages + 1;
      rows = put_rows rows l.rows;
      processed = l.processed + 1;
      indexed = l.indexed + length rows;
    }
lived docs (Finishes n) l =
    record l {
      finished = n;
      state = after_finish l.state;
      rows = filter (row_stays docs l) l.rows;
      deleted = l.deleted + count_by (λ r. not (row_stays docs l r)) l.rows;
    }
lived docs (Turns turn) l =
    record l {
      state = state_turned turn (is_running l) l.state;
      waits = waits_turned turn l.waits;
      prompted = prompted_turned turn l.prompted;
      reason = reason_turned turn l.reason;
    }
lived docs _ l = l

-- a life after an act, where there is one
abbrev pub life_after : List Doc → Act → Option Life → Option Life
life_after docs (Opens c) l = Some (fresh c)
life_after docs Reopens l = option_map (λ (o : Life). fresh o.meaning) l
life_after docs Closes l = None
life_after docs a l = option_map (lived docs a) l

-- the life of t after a past: that since its last Put or Reset, none where t was not put or a Delete follows
abbrev pub life : List ℕ → List Event → Option Life
life t [] = None
life t (e ∷ past) = life_after (documents past) (act t e) (life t past)
