-- The pages of a running checkpoint as works.
use Rattle.std.specs.Prelude.{ℕ, ℤ, Bool, true, false, List, [], ◌∷◌}
use Rattle.tf_model.specs.declared.entry.Entry.{Entry}
use Rattle.tf_reader.specs.Places.{documents}
use Rattle.tf_plan.specs.declared.page.Page.{Page}
use Rattle.tf_plan.specs.declared.page.Page.TheVariants as page
use Rattle.tf_plan.specs.Left.{IsPage, IsPlan, Left, position_after}
use Rattle.tf_core.specs.declared.job.Running.{Running}
use Rattle.tf_core.specs.declared.job.Work.{Work}
use Rattle.tf_core.specs.declared.job.Work.TheVariants as work
use Rattle.tf_core.specs.Job.{Fits, IsRunningAt}

-- what is left of a plan is what is left to do of a running checkpoint
abbrev pub IsPlanOf : Running → Left → Type 0
IsPlanOf r left = IsPlan r.config r.low r.high r.after (documents r.reader) left

-- the next page of a running checkpoint
abbrev pub IsPageFor : Running → Page → Type 0
IsPageFor r next = IsPage r.config r.low r.high r.after (documents r.reader) r.config.page_size next

-- a page of checkpoint n as a work: a Fail, a Finish where there are no rows, else a Page
abbrev pub work_by : ℕ → Page → Work
work_by n (page.Wide found) = work.Fail n found
work_by n (page.Rows [] last) = work.Finish n
work_by n (page.Rows (r ∷ rows) last) = work.Page n (r ∷ rows)

abbrev pub is_page : Work → Bool
is_page (work.Page n rows) = true
is_page _ = false

-- the running checkpoint with the position behind a page
abbrev pub behind_page : Page → Running → Running
behind_page next r = record r { after = position_after r.after next }

-- the next page of the running checkpoint of a transform fits it
abbrev pub PagesFit : Type 0
PagesFit = (past : List Entry) (moment : ℤ) (id : List ℕ) (r : Running) (next : Page) → IsRunningAt past id r → IsPageFor r next → Fits past moment id (work_by r.n next)
