use Rattle.std.specs.List.{AllByRecursion}
use Rattle.std.proofs.Common.{sym, subst}
use Rattle.tf_dest.specs.Tables.{rows_in}
use Rattle.tf_decide.specs.Rows.{IsShown}
use Rattle.tf_decide.proofs.Shown.{searched_shown}
use Rattle.tf_decide.proofs.replying.rows_found.Goals as goal

pub hits_of-requires : goal.hits_of-requires
hits_of-requires c = subst (AllByRecursion IsShown) (sym c.in_ok-rows.ensures) (searched_shown c.args.search.now (rows_in c.args.transform.now.rows) c.requires)
