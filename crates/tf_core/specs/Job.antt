-- The next move of a transform as a job, and the works that fit it.
use Rattle.std.specs.Prelude.{◌≡◌, ℕ, ℤ, ◌+◌, true, false, List, ◌∷◌, Option, Some, None, IsSomeAnd}
use Rattle.tf_model.specs.declared.entry.Entry.{Entry}
use Rattle.tf_model.specs.declared.entry.Kind.{Kind}
use Rattle.tf_model.specs.declared.entry.Kind.TheVariants as kind
use Rattle.tf_model.specs.declared.entry.Row.{Row}
use Rattle.tf_model.specs.Conditions.{AllFit, IsInRange}
use Rattle.tf_history.specs.Configured.{meaning}
use Rattle.tf_history.specs.Events.{Deed}
use Rattle.tf_history.specs.Events.Deed.{Stopped, Fail, Begin, Page, Finish}
use Rattle.tf_history.specs.Legality.{is_active, may_stop, next_move}
use Rattle.tf_history.specs.Lives.{Life, is_running, last_bound, last_key, life, read_last}
use Rattle.tf_reader.specs.Places.{documents}
use Rattle.tf_core.specs.declared.job.Job.{Job}
use Rattle.tf_core.specs.declared.job.Running.{Running}
use Rattle.tf_core.specs.declared.job.What.{What}
use Rattle.tf_core.specs.declared.job.What.TheVariants as what
use Rattle.tf_core.specs.declared.job.Work.{Work}
use Rattle.tf_core.specs.declared.job.Work.TheVariants as work
use Rattle.tf_core.specs.Built.{is_built_config}
use Rattle.tf_core.specs.Legal.{read}
use Rattle.tf_core.specs.Summary.{bound_before}

-- the running checkpoint of a life is moved on: it is active, and does not come to its stop before
pub record IsMovedOn (l : Life) : Type 0 where
  pub runs : is_running l ≡ true
  pub active : is_active l.state ≡ true
  pub no_stop : may_stop l.state l ≡ false

-- the running checkpoint of a life, with its configuration and the documents that it reads
pub record IsCheckpointOf (l : Life) (r : Running) : Type 0 where
  pub moved_on : IsMovedOn l
  pub sources : List ℕ
  pub means : l.meaning ≡ meaning sources r.config
  pub built_form : is_built_config r.config ≡ true
  pub in_range : IsInRange r.config
  pub number : r.n ≡ l.finished + 1
  pub low : r.low ≡ bound_before l.checkpoints
  pub high : r.high ≡ last_bound l.checkpoints
  pub position : r.after ≡ l.position
  pub docs : documents r.reader ≡ read_last l.checkpoints
  pub fit : AllFit r.config (documents r.reader)

-- the running checkpoint of a transform after a past, which its next move moves on
abbrev pub IsRunningAt : List Entry → List ℕ → Running → Type 0
IsRunningAt past id r = IsSomeAnd (life id (read past)) (λ l. IsCheckpointOf l r)

-- what the next move of a transform is at a moment
abbrev pub IsWhat : List Entry → ℤ → List ℕ → Option What → Type 0
IsWhat past moment id None = next_move id (read past) moment ≡ None
IsWhat past moment id (Some what.Stopped) = next_move id (read past) moment ≡ Some (Stopped id)
IsWhat past moment id (Some (what.Begin n bound)) = next_move id (read past) moment ≡ Some (Begin id n bound)
IsWhat past moment id (Some (what.Page r)) = IsRunningAt past id r

-- the job of a transform after a past at a moment, none exactly where it has no next move
abbrev pub IsJob : List Entry → ℤ → List ℕ → Option Job → Type 0
IsJob past moment id None = next_move id (read past) moment ≡ None
IsJob past moment id (Some job) = (job.id ≡ id) × IsWhat past moment id (Some job.what)

-- the move that a work makes
abbrev pub deed_for : List ℕ → Work → Deed
deed_for id work.Stopped = Stopped id
deed_for id (work.Begin n bound) = Begin id n bound
deed_for id (work.Page n rows) = Page id n rows
deed_for id (work.Finish n) = Finish id n
deed_for id (work.Fail n found) = Fail id n found.key found.name found.value

-- the same as an entry's kind
abbrev pub kind_for : List ℕ → Work → Kind
kind_for id work.Stopped = kind.Stopped id
kind_for id (work.Begin n bound) = kind.Begin id n bound
kind_for id (work.Page n rows) = kind.Page id n rows
kind_for id (work.Finish n) = kind.Finish id n
kind_for id (work.Fail n found) = kind.Fail id n found.key found.name found.value

-- a work fits a transform after a past at a moment: it makes the next move
abbrev pub Fits : List Entry → ℤ → List ℕ → Work → Type 0
Fits past moment id w = next_move id (read past) moment ≡ Some (deed_for id w)

-- the checkpoint behind a Page of these rows
abbrev pub behind : List Row → Running → Running
behind rows r = record r { after = last_key rows }

-- Behind a Page the job is the one before it, with the Page's last key as its position.
abbrev pub RunningCheckpointsGoOn : Type 0
RunningCheckpointsGoOn = (past : List Entry) (id : List ℕ) (r : Running) (rows : List Row) (e : Entry)
    → IsRunningAt past id r → e.kind ≡ kind.Page id r.n rows → IsRunningAt (e ∷ past) id (behind rows r)
