-- Which entries are legal after a past, which Pages are right, and what the indexer would make next.
use Rattle.std.specs.Prelude.{◌≡◌, ℕ, ℤ, ◌+◌, ◌+ℤ◌, ◌<◌, ◌≤◌, ◌≤ℤ◌, ⊤, Bool, true, false, not, ◌&&◌, ◌||◌, if◌then◌else◌, List, [], ◌∷◌, length, map, filter, filter_map, take, count_by, Option, Some, None, IsSomeAnd, is_none, option_map, option_and_then, nat_lt, int_le}
use Rattle.std.specs.List.{find, list_all}
use Rattle.std.specs.List.Sorted.{IsStrictlySortedBy}
use Rattle.tf_model.specs.declared.task.State.{State}
use Rattle.tf_model.specs.declared.task.State.TheVariants.{Stopped, Started, Indexing, Stopping, Failed}
use Rattle.tf_model.specs.declared.doc.Doc.{Doc}
use Rattle.tf_model.specs.declared.entry.Row.{Row}
use Rattle.tf_model.specs.declared.entry.SumRange.{SumRange}
use Rattle.tf_model.specs.declared.value.Key.{Key}
use Rattle.tf_model.specs.Order.{key_cmp}
use Rattle.tf_model.specs.Changed.{is_after}
use Rattle.tf_history.specs.Meaning.{Meaning, row_key}
use Rattle.tf_history.specs.Events.{Deed, Event}
use Rattle.tf_history.specs.Events.Deed.{Index, Write, Put, Delete, Reset, Start, StopAsked, Stopped as StoppedDeed, Schedule, Fail, Begin, Page, Finish}
use Rattle.tf_history.specs.Grouping.{row_of, sum_range}
use Rattle.tf_history.specs.Lives.{Life, Act, act, life, counted_last, changed, last_bound, next_bound, Checkpoint, is_running, window, from_sources, documents, is_same}
use Rattle.tf_history.specs.Lives.Act.{Opens, Reopens, Pages}

-- whether a list has nothing
abbrev pub is_empty : {X : Type 0} → List X → Bool
is_empty [] = true
is_empty (x ∷ xs) = false

-- ---- lives
-- no checkpoint is running
abbrev pub IsIdle : Life → Type 0
IsIdle l = l.finished ≡ length l.checkpoints

-- checkpoint n is running
abbrev pub IsRunning : Life → ℕ → Type 0
IsRunning l n = (n ≡ l.finished + 1) × (n ≡ length l.checkpoints)

-- the changed keys above the position
abbrev pub to_do : Life → List Key
to_do l = filter (is_after l.position) (changed l.meaning l.checkpoints)

-- the keys of the next Page: the least that are to do, as many as the page size or all that are left
abbrev pub next_page : Life → List Key
next_page l = take l.meaning.page_size (to_do l)

-- the row of a key at the newest checkpoint: over all documents that count at it
abbrev pub row_now : Life → Key → Option Row
row_now l = row_of l.meaning (counted_last l.meaning l.checkpoints)

-- the first sum outside i64 in the place of a key's row at the newest checkpoint
abbrev pub sum_now : Life → Key → Option SumRange
sum_now l = sum_range l.meaning (counted_last l.meaning l.checkpoints)

-- the least key of the next Page that has no row, none where each has one
abbrev pub failing : Life → Option Key
failing l = find (λ k. is_none (row_now l k)) (next_page l)

-- ---- states
-- stopped or failed
abbrev pub is_settled : State → Bool
is_settled Stopped = true
is_settled Failed = true
is_settled _ = false

abbrev pub is_stopped : State → Bool
is_stopped Stopped = true
is_stopped _ = false

abbrev pub is_started : State → Bool
is_started Started = true
is_started _ = false

-- indexing or stopping
abbrev pub is_active : State → Bool
is_active Indexing = true
is_active Stopping = true
is_active _ = false

-- started, indexing or stopping
abbrev pub is_awake : State → Bool
is_awake Started = true
is_awake state = is_active state

-- whether a stop may be asked for: started or indexing, or stopping or failed where it does not wait
abbrev pub may_ask : Bool → State → Bool
may_ask wait Started = true
may_ask wait Indexing = true
may_ask wait Stopping = not wait
may_ask wait Failed = not wait
may_ask wait Stopped = false

-- whether this is a batch transform whose checkpoint is finished
abbrev pub is_over : Life → Bool
is_over l = l.meaning.is_batch && nat_lt 0 l.finished

-- whether a transform may be started: it is stopped and not over
abbrev pub may_start : Life → Bool
may_start l = is_stopped l.state && not (is_over l)

-- whether it may come to its stop: stopping, and the stop does not wait or none is running; or started and over
abbrev pub may_stop : State → Life → Bool
may_stop Stopping l = not l.waits || not (is_running l)
may_stop Started l = is_over l
may_stop _ l = false

-- ---- when a checkpoint is due
-- the checkpoint that a Begin would make now; docs are all documents written
abbrev pub next_checkpoint : Life → List Doc → ℤ → Checkpoint
next_checkpoint l docs moment =
    record { bound = next_bound l.meaning (last_bound l.checkpoints) moment; moment = moment; read = from_sources l.meaning docs; late = l.late }

-- whether the window of a checkpoint that begins now has a document
abbrev pub has_window : Life → List Doc → ℤ → Bool
has_window l docs moment = not (is_empty (window l.meaning (next_checkpoint l docs moment ∷ l.checkpoints)))

-- whether the frequency has passed since the last Begin, or a Start or a Schedule stands after it
abbrev pub is_time : Meaning → List Checkpoint → Bool → ℤ → Bool
is_time c [] prompted moment = true
is_time c (b ∷ before) prompted moment = prompted || int_le (b.moment +ℤ c.frequency) moment

-- whether a checkpoint of a started transform with none running is due: the first always, a later one of a continuous
-- transform where its window has a document and it is time
abbrev pub is_due : Life → List Doc → ℤ → Bool
is_due l docs moment =
    is_empty l.checkpoints || (not l.meaning.is_batch && (has_window l docs moment && is_time l.meaning l.checkpoints l.prompted moment))

-- ---- legal entries
-- a Begin of the next checkpoint while it is due, with the bound of its moment; docs are all documents written
pub record MayBegin (l : Life) (docs : List Doc) (n : ℕ) (bound : Option ℤ) (moment : ℤ) : Type 0 where
  pub started : l.state ≡ Started
  pub idle : IsIdle l
  pub due : is_due l docs moment ≡ true
  pub number : n ≡ l.finished + 1
  pub bound_is : bound ≡ next_bound l.meaning (last_bound l.checkpoints) moment

-- a Page of the running checkpoint. Its rows are at least one, at most the page size, ascending by key and above the position
pub record MayPage (l : Life) (n : ℕ) (rows : List Row) : Type 0 where
  pub running : IsRunning l n
  pub active : is_active l.state ≡ true
  pub some : 0 < length rows
  pub fits : length rows ≤ l.meaning.page_size
  pub ascending : IsStrictlySortedBy key_cmp (map row_key rows)
  pub above : list_all (λ (r : Row). is_after l.position (row_key r)) rows ≡ true

-- what a Fail tells of a sum
abbrev pub told : SumRange → List ℕ × ℤ
told range = (range.name, range.value)

-- a Fail in the place of the next Page, with its least key that has no row and the sum in the place of that row
pub record MayFail (l : Life) (n : ℕ) (k : Key) (name : List ℕ) (value : ℤ) : Type 0 where
  pub running : IsRunning l n
  pub active : is_active l.state ≡ true
  pub first : failing l ≡ Some k
  pub tells : option_map told (sum_now l k) ≡ Some (name, value)

-- a Finish where no changed key is above the position
pub record MayFinish (l : Life) (n : ℕ) : Type 0 where
  pub running : IsRunning l n
  pub active : is_active l.state ≡ true
  pub nothing_left : to_do l ≡ []

-- whether an entry is legal after a past, but for its moment
abbrev pub IsAllowed : ℤ → Deed → List Event → Type 0
IsAllowed moment Index past = ⊤
IsAllowed moment (Write d) past = ⊤
IsAllowed moment (Put id c) past = life id past ≡ None
IsAllowed moment (Delete id) past = IsSomeAnd (life id past) (λ l. is_settled l.state ≡ true)
IsAllowed moment (Reset id) past = IsSomeAnd (life id past) (λ l. is_settled l.state ≡ true)
IsAllowed moment (Start id) past = IsSomeAnd (life id past) (λ l. may_start l ≡ true)
IsAllowed moment (StopAsked id wait) past = IsSomeAnd (life id past) (λ l. may_ask wait l.state ≡ true)
IsAllowed moment (StoppedDeed id) past = IsSomeAnd (life id past) (λ l. may_stop l.state l ≡ true)
IsAllowed moment (Schedule id) past = IsSomeAnd (life id past) (λ l. is_awake l.state ≡ true)
IsAllowed moment (Begin id n bound) past = IsSomeAnd (life id past) (λ l. MayBegin l (documents past) n bound moment)
IsAllowed moment (Page id n rows) past = IsSomeAnd (life id past) (λ l. MayPage l n rows)
IsAllowed moment (Finish id n) past = IsSomeAnd (life id past) (λ l. MayFinish l n)
IsAllowed moment (Fail id n k name value) past = IsSomeAnd (life id past) (λ l. MayFail l n k name value)

-- a moment that is not below that of the newest entry
abbrev pub IsNotBefore : ℤ → List Event → Type 0
IsNotBefore moment [] = ⊤
IsNotBefore moment (e ∷ past) = e.moment ≤ℤ moment

-- a history in which each entry is allowed after those before it, and moments never fall
abbrev pub IsLegal : List Event → Type 0
IsLegal [] = ⊤
IsLegal (e ∷ past) = IsLegal past × IsAllowed e.moment e.deed past × IsNotBefore e.moment past

-- ---- right Pages
-- a Page that has at least one row, and whose rows are those of the least changed keys above the position, as many as
-- the page size or all that are left, each over all documents that count
pub record IsRight (l : Life) (rows : List Row) : Type 0 where
  pub some : 0 < length rows
  pub same : map Some rows ≡ map (row_now l) (next_page l)

-- an act after which each Page of the life is right, where it was so before
abbrev pub RightAct : Act → Option Life → Type 0 → Type 0
RightAct (Opens c) l before = ⊤
RightAct Reopens l before = ⊤
RightAct (Pages n rows) l before = IsSomeAnd l (λ l. IsRight l rows) × before
RightAct _ l before = before

-- in the life of t each Page is right
abbrev pub PagesRight : List ℕ → List Event → Type 0
PagesRight t [] = ⊤
PagesRight t (e ∷ past) = RightAct (act t e) (life t past) (PagesRight t past)

-- ---- the next move
-- the Fail that tells a sum
abbrev pub fail_move : List ℕ → Life → Key → SumRange → Deed
fail_move t l k range = Fail t (l.finished + 1) k range.name range.value

-- a Fail where a key of the next Page has no row, a Finish where the Page has no key, else the Page
abbrev pub page_move : List ℕ → Life → Option Key → List Key → Option Deed
page_move t l (Some k) keys = option_map (fail_move t l k) (sum_now l k)
page_move t l None [] = Some (Finish t (l.finished + 1))
page_move t l None (k ∷ keys) = Some (Page t (l.finished + 1) (filter_map (row_now l) (k ∷ keys)))

-- the Begin of the next checkpoint
abbrev pub begin_move : List ℕ → Life → ℤ → Deed
begin_move t l moment = Begin t (l.finished + 1) (next_bound l.meaning (last_bound l.checkpoints) moment)

-- Stopped where that is legal, else Begin where it is due, else with a checkpoint running a Fail, a Page or a Finish
abbrev pub move_of : List ℕ → Life → List Doc → ℤ → Option Deed
move_of t l docs moment =
    if may_stop l.state l then Some (StoppedDeed t)
    else if is_started l.state && is_due l docs moment then Some (begin_move t l moment)
    else if is_running l && is_active l.state then page_move t l (failing l) (next_page l)
    else None

-- the indexer's next entry for t at a moment, none where it has none or t does not exist
abbrev pub next_move : List ℕ → List Event → ℤ → Option Deed
next_move t past moment = option_and_then (λ l. move_of t l (documents past) moment) (life t past)

-- how many moves the next checkpoint takes at most: where it is due a Begin, a Page for each changed key, a Finish and a Stopped
abbrev pub moves_of_next : Life → List Doc → ℤ → ℕ
moves_of_next l docs moment = if is_due l docs moment then length (changed l.meaning (next_checkpoint l docs moment ∷ l.checkpoints)) + 3 else 0

-- How many moves a transform has left at most, where nothing else acts on it and the moment stays: a Stopped; the Pages of the
-- running checkpoint, its Finish, a Stopped, and the checkpoint that is due behind it; or the one that is due alone. Behind a
-- Begin of this moment none is due: it would have the same bound, so its window is empty.
abbrev pub moves_left : Life → List Doc → ℤ → ℕ
moves_left l docs moment =
    if may_stop l.state l then 1
    else if is_running l && is_active l.state then length (to_do l) + 2 + moves_of_next l docs moment
    else if is_started l.state then moves_of_next l docs moment
    else 0

-- ---- counts
-- whether an entry names t
abbrev pub names : List ℕ → Deed → Bool
names t Index = false
names t (Write d) = false
names t (Put id c) = is_same t id
names t (Delete id) = is_same t id
names t (Reset id) = is_same t id
names t (Start id) = is_same t id
names t (StopAsked id wait) = is_same t id
names t (StoppedDeed id) = is_same t id
names t (Schedule id) = is_same t id
names t (Fail id n k name value) = is_same t id
names t (Begin id n bound) = is_same t id
names t (Page id n rows) = is_same t id
names t (Finish id n) = is_same t id

-- how many entries name t, of every life
abbrev pub count : List ℕ → List Event → ℕ
count t past = count_by (λ (e : Event). names t e.deed) past
