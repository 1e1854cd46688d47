use Rattle.std.proofs.Common.{◌≡◌, ◌<◌, length, take, get_or, ap, ◌∙◌, arith}
use Rattle.std.specs.List.{list_any}
use Rattle.tf_shard.specs.Ids.{same_id, number_of}
use Rattle.tf_shard.proofs.Ids.{none_before}
use Rattle.tf_shard.proofs.entering.make_all_room.Goals as goal

pub enter-requires-clause-free : goal.enter-requires-clause-free
enter-requires-clause-free c =
    let ids = c.args.ids.now in
    let id = c.id-item.result in
    let index = c.loop-id.id-index in
    let lt : index < length ids = omega (arith, c.loop-id-test.true, ap length c.as_slice-id-items.ensures) in
    let at : id ≡ get_or ids index id = c.id-item.is ∙ ap (λ l. get_or l index id) c.as_slice-id-items.ensures in
    (λ i. number_of (at i) (c.loop-id.invariant.same.docs i)) ∙ c.requires.new.free index id lt

pub enter-requires-clause-new : goal.enter-requires-clause-new
enter-requires-clause-new c =
    let ids = c.args.ids.now in
    let id = c.id-item.result in
    let index = c.loop-id.id-index in
    let lt : index < length ids = omega (arith, c.loop-id-test.true, ap length c.as_slice-id-items.ensures) in
    let at : id ≡ get_or ids index id = c.id-item.is ∙ ap (λ l. get_or l index id) c.as_slice-id-items.ensures in
    let spare = c.loop-id.invariant.spare ∙ ap (take index) c.as_slice-id-items.ensures in
    (λ i. list_any (same_id (at i)) (spare i)) ∙ none_before ids index id c.requires.new.differ lt
