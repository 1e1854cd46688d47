-- The laws, over the definitions alone. In each, past is a history with its newest entry first.
use Rattle.std.specs.Prelude.{◌≡◌, ℕ, ℤ, suc, ◌+◌, ◌<◌, ◌-◌, ◌/◌, ◌≤ℤ◌, ⊤, Bool, true, false, if◌then◌else◌, not, ◌&&◌, List, [], ◌∷◌, ◌++◌, length, map, ◌≤◌, Option, Some, None}
use Rattle.std.specs.List.{list_any, list_all}
use Rattle.std.specs.List.Sorted.{IsStrictlySortedBy}
use Rattle.tf_model.specs.Order.{key_cmp}
use Rattle.tf_history.specs.Events.Deed.{Write}
use Rattle.tf_history.specs.Grouping.{has_key, counted, row_of, row_at, keep, stays, row_if_any, scratch}
use Rattle.tf_model.specs.Keys.{is_among}
use Rattle.tf_history.specs.Lives.{Checkpoint, Life, life, written, read_last, last_bound, cutoff, changed, last_row, is_under}
use Rattle.tf_model.specs.Changed.{is_after}
use Rattle.tf_history.specs.Legality.{IsLegal, PagesRight, IsIdle}
use Rattle.tf_history.specs.Events.{Event}
use Rattle.tf_history.specs.Meaning.{Meaning, row_key}
use Rattle.tf_model.specs.declared.doc.Doc.{Doc}
use Rattle.tf_model.specs.declared.entry.Row.{Row}
use Rattle.tf_model.specs.declared.value.Key.{Key}

-- a row that was grouped from documents has the same retention value among more documents
abbrev pub IsSteady : Meaning → Type 0
IsSteady c = (docs more : List Doc) (bound : Option ℤ) (k : Key) (r : Row) → row_of c (counted c bound docs) k ≡ Some r → c.retained (docs ++ more) r ≡ c.retained docs r

-- a legal history in which the life of t is l, each Page of it right
pub record IsSound (past : List Event) (t : List ℕ) (l : Life) : Type 0 where
  pub legal : IsLegal past
  pub right : PagesRight t past
  pub is : life t past ≡ Some l
  pub steady : IsSteady l.meaning

-- with none running and no late document the rows are the grouping from scratch of all documents written so far
abbrev pub FinishedIsScratch : Type 0
FinishedIsScratch = (past : List Event) (t : List ℕ) (l : Life) → IsSound past t l → IsIdle l → 0 < l.finished → l.meaning.is_batch ≡ false
    → l.meaning.includes_late ≡ false → l.late ≡ 0
    → l.rows ≡ scratch l.meaning (last_bound l.checkpoints) (cutoff l.meaning l.checkpoints) (written l.meaning past)

-- where late documents are included they are, whatever is late, that of the documents that the last checkpoint read
abbrev pub IncludedIsScratch : Type 0
IncludedIsScratch = (past : List Event) (t : List ℕ) (l : Life) → IsSound past t l → IsIdle l → 0 < l.finished → l.meaning.is_batch ≡ false
    → l.meaning.includes_late ≡ true
    → l.rows ≡ scratch l.meaning (last_bound l.checkpoints) (cutoff l.meaning l.checkpoints) (read_last l.checkpoints)

-- where nothing was late when the running checkpoint began and no row is too old, a key above the position still has its row
-- over the documents below the bound before
abbrev pub KeptRowIsEarlier : Type 0
KeptRowIsEarlier = (past : List Event) (t : List ℕ) (l : Life) (b a : Checkpoint) (before : List Checkpoint) → IsSound past t l
    → l.checkpoints ≡ b ∷ a ∷ before → suc l.finished ≡ length l.checkpoints → l.meaning.is_batch ≡ false → l.meaning.includes_late ≡ false
    → l.meaning.max_age ≡ None → b.late ≡ 0 → (k : Key) → is_after l.position k ≡ true
    → row_at k l.rows ≡ row_if_any l.meaning (counted l.meaning a.bound b.read) k

-- after checkpoint 1 they are that of the documents that it read, for a batch transform too
abbrev pub FirstIsScratch : Type 0
FirstIsScratch = (past : List Event) (t : List ℕ) (l : Life) (b : Checkpoint) → IsSound past t l → IsIdle l → l.checkpoints ≡ b ∷ []
    → l.rows ≡ scratch l.meaning b.bound (cutoff l.meaning l.checkpoints) b.read

-- a batch transform's rows are the grouping of the documents that its one checkpoint read
abbrev pub BatchIsScratch : Type 0
BatchIsScratch = (past : List Event) (t : List ℕ) (l : Life) → IsSound past t l → IsIdle l → 0 < l.finished → l.meaning.is_batch ≡ true
    → l.rows ≡ scratch l.meaning None (cutoff l.meaning l.checkpoints) (read_last l.checkpoints)

-- the newest checkpoint, when finished, has as many Pages as its changed keys fill
abbrev pub PagesAreExact : Type 0
PagesAreExact = (past : List Event) (t : List ℕ) (l : Life) → IsSound past t l → IsIdle l → 0 < l.finished → 0 < l.meaning.page_size
    → l.pages ≡ (length (changed l.meaning l.checkpoints) + (l.meaning.page_size - 1)) / l.meaning.page_size

-- keys that show where the sync value stands: a fitting document that has the key lies in the key's interval, and no interval
-- begins below an aligned moment and ends above it
pub record IsAligned (c : Meaning) (fits : Doc → Bool) (part : Key → ℤ) (floor : ℤ → ℤ) : Type 0 where
  pub of_key : (k : Key) (d : Doc) → fits d ≡ true → has_key c k d ≡ true → (v : ℤ) → c.sync d ≡ Some v → floor v ≡ part k
  pub below : (d : Doc) → fits d ≡ true → (v : ℤ) → c.sync d ≡ Some v → floor v ≤ℤ v
  pub bounds : (moment v : ℤ) → c.aligned moment ≤ℤ v → c.aligned moment ≤ℤ floor v

-- a key is changed in none of these checkpoints
abbrev pub IsNeverChanged : Meaning → List Checkpoint → Key → Type 0
IsNeverChanged c [] k = ⊤
IsNeverChanged c (b ∷ before) k = (is_among (changed c (b ∷ before)) k ≡ false) × IsNeverChanged c before k

-- no key is changed in two checkpoints
abbrev pub AreApart : Meaning → List Checkpoint → Type 0
AreApart c [] = ⊤
AreApart c (b ∷ before) = ((k : Key) → is_among (changed c (b ∷ before)) k ≡ true → IsNeverChanged c before k) × AreApart c before

-- where bounds are aligned to the intervals of the keys, and all documents fit, no key is changed in two checkpoints
abbrev pub AlignedIsApart : Type 0
AlignedIsApart = (past : List Event) (t : List ℕ) (l : Life) (fits : Doc → Bool) (part : Key → ℤ) (floor : ℤ → ℤ) → IsLegal past → life t past ≡ Some l
    → l.meaning.is_batch ≡ false → l.meaning.includes_late ≡ false → list_all fits (written l.meaning past) ≡ true → IsAligned l.meaning fits part floor
    → AreApart l.meaning l.checkpoints

-- every document written into the sources has the moment of its entry as sync value
abbrev pub IsStamped : Meaning → List Event → Type 0
IsStamped c [] = ⊤
IsStamped c (e ∷ past) = IsStamped c past × ((d : Doc) → e.deed ≡ Write d → c.is_source d.index ≡ true → c.sync d ≡ Some e.moment)

-- where every document has its entry's moment as sync value, and bounds are not above their moment, nothing is late
abbrev pub StampedIsNeverLate : Type 0
StampedIsNeverLate = (past : List Event) (t : List ℕ) (l : Life) → IsLegal past → life t past ≡ Some l → IsStamped l.meaning past
    → ((x : ℤ) → l.meaning.aligned x ≤ℤ x) → l.late ≡ 0

-- the rows ascend by key, each key once
abbrev pub RowsAscend : Type 0
RowsAscend = (past : List Event) (t : List ℕ) (l : Life) → IsSound past t l → IsStrictlySortedBy key_cmp (map row_key l.rows)

-- whatever is late: each key has the row of the last checkpoint in which it changed, unless the cutoff takes it out
abbrev pub RowsWhenIdle : Type 0
RowsWhenIdle = (past : List Event) (t : List ℕ) (l : Life) → IsSound past t l → IsIdle l → (k : Key)
    → row_at k l.rows ≡ keep (stays l.meaning (written l.meaning past) (cutoff l.meaning l.checkpoints)) (last_row l.meaning l.checkpoints k)

-- whatever is late, in the middle of a checkpoint: a changed key at or below the position has its row, and every other key has what it
-- had just after the Finish before
abbrev pub RowsWhenRunning : Type 0
RowsWhenRunning = (past : List Event) (t : List ℕ) (l : Life) (b : Checkpoint) (before : List Checkpoint) → IsSound past t l
    → l.checkpoints ≡ b ∷ before → suc l.finished ≡ length l.checkpoints → (k : Key)
    → row_at k l.rows
    ≡ (if is_among (changed l.meaning l.checkpoints) k && not (is_after l.position k)
    then row_of l.meaning (counted l.meaning b.bound b.read) k
    else keep (stays l.meaning (written l.meaning past) (cutoff l.meaning before)) (last_row l.meaning before k))

-- bounds never fall, so a sync value below the bound of some checkpoint of a life is below the last one
abbrev pub LastBoundDecides : Type 0
LastBoundDecides = (past : List Event) (t : List ℕ) (l : Life) → IsLegal past → life t past ≡ Some l
    → (v : Option ℤ) → list_any (λ b. is_under b.bound v) l.checkpoints ≡ is_under (last_bound l.checkpoints) v

-- no more documents are late than the history has entries
abbrev pub LateAreFew : Type 0
LateAreFew = (past : List Event) (t : List ℕ) (l : Life) → IsLegal past → life t past ≡ Some l → l.late ≤ length past
