-- What is kept of a transform, as a summary of its life.
use Rattle.std.specs.Prelude.{◌≡◌, ℕ, ℤ, pos, ◌*◌, ◌≤◌, ◌^◌, List, [], ◌∷◌, length, take, Option, None}
use Rattle.tf_model.specs.declared.doc.Doc.{Doc}
use Rattle.tf_history.specs.Configured.{meaning}
use Rattle.tf_history.specs.Lives.{Checkpoint, Life, last_bound, read_last, from_sources}
use Rattle.tf_history.specs.Transforms.{PutTransform}
use Rattle.tf_core.specs.declared.transform.Transform.{Transform}
use Rattle.tf_core.specs.Passed.{HasMark}
use Rattle.tf_dest.specs.Tables.{rows_in}

-- a transform as it was put
abbrev pub put_of : Transform → PutTransform
put_of t = record { id = t.id; sources = t.sources; config = t.config }

-- the bound of the checkpoint before the newest, none where there is none
abbrev pub bound_before : List Checkpoint → Option ℤ
bound_before [] = None
bound_before (b ∷ before) = last_bound before

-- the moment of the newest checkpoint, 0 where there is none
abbrev pub last_moment : List Checkpoint → ℤ
last_moment [] = pos 0
last_moment (b ∷ before) = b.moment

-- the moment of the checkpoint before the newest, 0 where there is none
abbrev pub moment_before : List Checkpoint → ℤ
moment_before [] = pos 0
moment_before (b ∷ before) = last_moment before

-- the documents that the checkpoint before the newest reads
abbrev pub read_before : List Checkpoint → List Doc
read_before [] = []
read_before (b ∷ before) = read_last before

-- what is kept tells the life; docs are all documents written
pub record IsSummary (docs : List Doc) (t : Transform) (l : Life) : Type 0 where
  pub meaning_is : l.meaning ≡ meaning t.sources t.config
  pub forever : t.config.retention ≡ None
  pub state : t.state ≡ l.state
  pub waits : t.waits ≡ l.waits
  pub prompted : t.prompted ≡ l.prompted
  pub begun : t.begun ≡ length l.checkpoints
  pub low : t.low ≡ bound_before l.checkpoints
  pub bound : t.bound ≡ last_bound l.checkpoints
  pub moment : t.begun_ms ≡ last_moment l.checkpoints
  pub within : t.read ≤ length docs
  pub read : read_last l.checkpoints ≡ from_sources l.meaning (take t.read docs)
  pub marked : HasMark t docs
  pub earlier_moment : t.before_ms ≡ moment_before l.checkpoints
  pub earlier_within : t.before_read ≤ length docs
  pub earlier_read : read_before l.checkpoints ≡ from_sources l.meaning (take t.before_read docs)
  pub finished : t.finished ≡ l.finished
  pub position : t.position ≡ l.position
  pub pages : t.pages ≡ l.pages
  pub late : t.late ≡ l.late
  pub reason : t.reason ≡ l.reason
  pub processed : t.processed ≡ l.processed
  pub indexed : t.indexed ≡ l.indexed
  pub deleted : t.deleted ≡ l.deleted
  pub rows : rows_in t.rows ≡ l.rows

-- how far the counters can have come after so many entries
pub record IsFew (n : ℕ) (t : Transform) : Type 0 where
  pub late : t.late ≤ n
  pub pages : t.pages ≤ n
  pub processed : t.processed ≤ n
  pub indexed : t.indexed ≤ n * 2 ^ 63
