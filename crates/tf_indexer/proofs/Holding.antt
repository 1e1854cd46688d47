-- A running checkpoint that is held goes on behind its Page.
use Rattle.std.proofs.Common.{◌≡◌, ℕ, false, true, List, [], ◌∷◌, Option, Some, None, refl, sym, subst}
use Rattle.std.specs.Prelude.{ℤ, IsSomeAnd}
use Rattle.std.specs.Option.{option_or}
use Rattle.tf_model.specs.declared.entry.Entry.{Entry}
use Rattle.tf_model.specs.declared.entry.Row.{Row}
use Rattle.tf_model.specs.declared.value.Key.{Key}
use Rattle.tf_model.specs.Conditions.{AllFit, IsInRange}
use Rattle.tf_history.specs.Lives.{Life, last_key, life}
use Rattle.tf_reader.specs.Places.{documents}
use Rattle.tf_plan.specs.declared.page.Page.{Page}
use Rattle.tf_plan.specs.declared.page.Page.TheVariants as page
use Rattle.tf_plan.specs.Left.{Left}
use Rattle.tf_core.specs.declared.job.Running.{Running}
use Rattle.tf_core.specs.declared.job.What.{What}
use Rattle.tf_core.specs.declared.job.What.TheVariants as what
use Rattle.tf_core.specs.Job.{IsCheckpointOf, IsRunningAt, IsWhat, behind, kind_for}
use Rattle.tf_core.specs.Legal.{read}
use Rattle.tf_core.proofs.JobLaws.{running_checkpoints_go_on}
use Rattle.tf_indexer.specs.Holding.{CanBePlanned, IsPageWork}
use Rattle.tf_indexer.specs.Works.{IsPlanOf, behind_page, work_by}

-- ---- what is known of a running checkpoint
module _ (past : List Entry) (id : List ℕ) (r : Running) (at : IsRunningAt past id r) where
  in_range_at : IsInRange r.config
  in_range_at = by (life id (read past)) at
    where
      by : (o : Option Life) → IsSomeAnd o (λ l. IsCheckpointOf l r) → IsInRange r.config
      by None is = absurd is
      by (Some l) is = is.in_range

  fit_at : AllFit r.config (documents r.reader)
  fit_at = by (life id (read past)) at
    where
      by : (o : Option Life) → IsSomeAnd o (λ l. IsCheckpointOf l r) → AllFit r.config (documents r.reader)
      by None is = absurd is
      by (Some l) is = is.fit

pub can_be_planned : (past : List Entry) (moment : ℤ) (id : List ℕ) (w : What) → IsWhat past moment id (Some w) → CanBePlanned w
can_be_planned past moment id what.Stopped is = tt
can_be_planned past moment id (what.Begin n bound) is = tt
can_be_planned past moment id (what.Page r) is = (in_range_at past id r is, fit_at past id r is)

-- ---- behind a Page
-- rows have a last key
last_there : (r : Row) (rows : List Row) (after : Option Key) → option_or (last_key (r ∷ rows)) after ≡ last_key (r ∷ rows)
last_there r [] after = refl
last_there r (s ∷ rows) after = last_there s rows after

pub held_behind : (past : List Entry) (id : List ℕ) (r : Running) (next : Page) (plan : Left) (e : Entry) → IsRunningAt past id r → IsPlanOf (behind_page next r) plan
    → IsPageWork (work_by r.n next) → e.kind ≡ kind_for id (work_by r.n next) → IsRunningAt (e ∷ past) id (behind_page next r) × IsPlanOf (behind_page next r) plan
held_behind past id r (page.Wide found) plan e at left is kind = absurd (let z : false ≡ true = is in cc)
held_behind past id r (page.Rows [] last) plan e at left is kind = absurd (let z : false ≡ true = is in cc)
held_behind past id r (page.Rows (row ∷ rows) last) plan e at left is kind =
    let same : ◌≡◌ {A = Running} (behind_page (page.Rows (row ∷ rows) last) r) (behind (row ∷ rows) r) = λ i. record r { after = last_there row rows r.after i } in
    (subst (IsRunningAt (e ∷ past) id) (sym same) (running_checkpoints_go_on past id r (row ∷ rows) e at kind), left)
