use Rattle.std.proofs.Common.{◌≡◌, ◌∷◌, ℕ, List, sym, ap, subst, ◌∙◌}
use Rattle.tf_core.specs.declared.job.Running.{Running}
use Rattle.tf_core.specs.Job.{Fits, IsRunningAt, kind_for}
use Rattle.tf_indexer.specs.Holding.{IsPageWork}
use Rattle.tf_indexer.specs.Works.{IsPlanOf, work_by}
use Rattle.tf_indexer.proofs.Holding.{held_behind}
use Rattle.tf_indexer.proofs.PageLaws.{pages_fit}
use Rattle.tf_indexer.proofs.planned.Planned.next.Goals as goal

pub returns-clause-fits : goal.returns-clause-fits
returns-clause-fits c = λ past moment held.
    let old = c.args.self.now in
    let page = c.in_ok-page.page in
    let same : c.work_of.result ≡ work_by old.running.n page = c.work_of.ensures ∙ ap (λ (r : Running). work_by r.n page) c.in_ok-page.ensures.running in
    subst (Fits past moment old.id) (sym same) (pages_fit past moment old.id old.running page held.running_at (c.in_ok-page.ensures.page held.own_plan))

pub returns-clause-behind : goal.returns-clause-behind
returns-clause-behind c = λ past e held is kind.
    let old = c.args.self.now in
    let new = c.next_page.new.self in
    let page = c.in_ok-page.page in
    let same : c.work_of.result ≡ work_by old.running.n page = c.work_of.ensures ∙ ap (λ (r : Running). work_by r.n page) c.in_ok-page.ensures.running in
    let both = held_behind past old.id old.running page new.plan e held.running_at (c.in_ok-page.ensures.plan held.own_plan) (subst IsPageWork same is) (kind ∙ ap (kind_for old.id) same) in
    record {
      running_at = subst (λ (p : List ℕ × Running). IsRunningAt (e ∷ past) p.0 p.1) (λ i. (sym c.in_ok-page.ensures.id i, sym c.in_ok-page.ensures.running i)) both.0;
      own_plan = subst (λ (r : Running). IsPlanOf r new.plan) (sym c.in_ok-page.ensures.running) both.1;
    }
