use Rattle.std.proofs.Common.{subst}
use Rattle.std.specs.List.Sorted.{IsStrictlySortedBy}
use Rattle.tf_model.specs.Order.{key_cmp}
use Rattle.tf_dest.specs.Tables.{Table, held_keys}
use Rattle.tf_dest.proofs.Leaving.{held_sorted}
use Rattle.tf_dest.proofs.dest.Dest.len.Goals as goal

pub returns-clause-ascending : goal.returns-clause-ascending
returns-clause-ascending c = subst (λ (t : Table). IsStrictlySortedBy key_cmp (held_keys t.held)) c.self.view_is (held_sorted c.self.inside.slots.entries c.len-slots.ensures.ordered)
