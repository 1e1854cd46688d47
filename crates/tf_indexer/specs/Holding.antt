-- What an indexer holds.
use Rattle.std.specs.Prelude.{◌≡◌, ℕ, ℤ, true, List, ◌∷◌, IfSome, Some}
use Rattle.tf_model.specs.declared.entry.Entry.{Entry}
use Rattle.tf_model.specs.Conditions.{AllFit, IsInRange}
use Rattle.tf_reader.specs.Places.{documents}
use Rattle.tf_core.specs.declared.job.Job.{Job}
use Rattle.tf_core.specs.declared.job.What.{What}
use Rattle.tf_core.specs.declared.job.What.TheVariants as what
use Rattle.tf_core.specs.declared.job.Work.{Work}
use Rattle.tf_core.specs.Job.{IsRunningAt, IsWhat, kind_for}
use Rattle.tf_indexer.specs.declared.indexer.Indexer.{Indexer}
use Rattle.tf_indexer.specs.declared.planned.Planned.{Planned}
use Rattle.tf_indexer.specs.Works.{IsPlanOf, is_page}

-- the running checkpoint of its transform after a past, and the plan is its own
pub record IsHeldAt (past : List Entry) (held : Planned) : Type 0 where
  pub running_at : IsRunningAt past held.id held.running
  pub own_plan : IsPlanOf held.running held.plan

-- what an indexer holds is that of this past
abbrev pub IsAt : List Entry → Indexer → Type 0
IsAt past indexer = IfSome indexer.held (IsHeldAt past)

-- the indexer is behind the entry of a work
abbrev pub IsBehind : List Entry → List ℕ → Indexer → Work → Type 0
IsBehind past id indexer work = (e : Entry) → e.kind ≡ kind_for id work → IsAt (e ∷ past) indexer

-- a job is that of its transform after a past
abbrev pub IsOf : List Entry → ℤ → Job → Type 0
IsOf past moment job = IsWhat past moment job.id (Some job.what)

abbrev pub IsPageWork : Work → Type 0
IsPageWork work = is_page work ≡ true

-- the documents of a running checkpoint fit its configuration
abbrev pub CanBePlanned : What → Type 0
CanBePlanned (what.Page r) = IsInRange r.config × AllFit r.config (documents r.reader)
CanBePlanned _ = Unit {0}
