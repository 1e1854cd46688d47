use Rattle.std.proofs.Common.{Some, subst}
use Rattle.std.specs.Prelude.{IfSome, reverse}
use Rattle.tf_core.specs.Held.{life_in}
use Rattle.tf_core.specs.Lookups.{docs_in}
use Rattle.tf_core.specs.Table.{Tells}
use Rattle.tf_decide.proofs.Shown.{all_shown, told_shown}
use Rattle.tf_decide.proofs.replying.shown.Goals as goal

pub rows_found-requires : goal.rows_found-requires
rows_found-requires c =
    let history = c.args.core.now.history in
    let t = c.in-Some.transform.now in
    told_shown (docs_in history) t (life_in t.id history)
    (subst (λ r. IfSome r (λ x. Tells (docs_in history) (Some x.now) (life_in x.now.id history))) c.in-Some.is c.transform_into.ensures.life)
    (all_shown (reverse history) t.id c.is_taken.ensures)
