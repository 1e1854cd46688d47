use Rattle.std.proofs.Common.{rules}
use Rattle.std.specs.BTreeMap.{get_by}
use Rattle.std.specs.Option.{is_some}
use Rattle.std.specs.Ordering.{is_lt}
use Rattle.tf_model.specs.Order.{key_cmp}
use Rattle.tf_dest.proofs.Filling.{none_behind}
use Rattle.tf_dest.proofs.slots.has_slot.Goals as goal

pub returns-then-lt : goal.returns-then-lt
returns-then-lt c =
    none_behind (is_some (get_by (key_cmp c.args.key.now) c.args.slots.now)) (is_lt (key_cmp c.in-Some.last.now c.args.key.now)) (search rules)
    (λ there. c.in-Some.ensures.greatest c.args.key.now there)
