use Rattle.std.proofs.Common.{◌≡◌, ◌++◌, List, None}
use Rattle.std.specs.BTreeMap.{get}
use Rattle.std.specs.Map.{update_all}
use Rattle.std.specs.Ordering.{eq_by_cmp}
use Rattle.tf_model.specs.declared.value.Key.{Key}
use Rattle.tf_model.specs.Order.{key_cmp}
use Rattle.std.specs.Borrow.{Bor}
use Rattle.std.specs.Prelude.{Option}
use Rattle.tf_model.specs.declared.doc.Doc.{Doc}
use Rattle.tf_plan.proofs.naming.sorted_newest.Given as goal

abbrev pub invariant-loop-key : goal.invariant-loop-key
invariant-loop-key l = (moved : List (Key × Option (Bor Doc))) × (moved ++ l.key-iterator ≡ l.fn.newest.entries) × ((k : Key) → get key_cmp l.sorted k ≡ update_all (eq_by_cmp key_cmp) (λ _. None) moved k)
