-- The last finished checkpoint of a transform.
use Rattle.std.specs.Prelude.{◌≡◌, if◌then◌else◌, List, [], ◌∷◌, take, Option, Some, None}
use Rattle.tf_model.specs.declared.doc.Doc.{Doc}
use Rattle.tf_history.specs.Lives.{Checkpoint, Life, from_sources, is_running, last_bound, read_last}
use Rattle.tf_core.specs.declared.finished.Finished.{Finished}
use Rattle.tf_core.specs.declared.transform.Transform.{Transform}
use Rattle.tf_core.specs.Summary.{IsSummary, last_moment}

-- the checkpoints before the newest
abbrev pub earlier : List Checkpoint → List Checkpoint
earlier [] = []
earlier (b ∷ before) = before

-- the checkpoints of a life that are finished, the newest first
abbrev pub finished_in : Life → List Checkpoint
finished_in l = if is_running l then earlier l.checkpoints else l.checkpoints

-- what is told of the last of them; docs are all documents written
pub record IsFinishedOf (docs : List Doc) (l : Life) (f : Finished) : Type 0 where
  pub number : f.n ≡ l.finished
  pub bound : f.bound ≡ last_bound (finished_in l)
  pub moment : f.at_ms ≡ last_moment (finished_in l)
  pub read : read_last (finished_in l) ≡ from_sources l.meaning (take f.read docs)

-- none exactly where none is finished
abbrev pub IsLastFinished : List Doc → Life → Option Finished → Type 0
IsLastFinished docs l None = l.finished ≡ 0
IsLastFinished docs l (Some f) = IsFinishedOf docs l f

-- it is told of each life that a transform is a summary of
abbrev pub TellsFinished : Transform → Option Finished → Type 0
TellsFinished t o = (docs : List Doc) (l : Life) → IsSummary docs t l → IsLastFinished docs l o
