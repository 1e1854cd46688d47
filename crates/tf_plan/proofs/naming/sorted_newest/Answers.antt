use Rattle.std.proofs.Common.{◌≡◌, [], ◌∷◌, ◌++◌, None, sym, ap, ◌∙◌, refl}
use Rattle.std.proofs.lemmas.Map.{update_all_push}
use Rattle.std.proofs.lemmas.Map.Made.{update_all_none}
use Rattle.std.specs.BTreeMap.{get}
use Rattle.std.specs.Cmp.{eq_by_cmp_equiv}
use Rattle.std.specs.Map.{update_all}
use Rattle.std.specs.Ordering.{eq_by_cmp}
use Rattle.tf_model.specs.declared.value.Key.{Key}
use Rattle.tf_model.specs.Order.{key_cmp, key_cmp_total}
use Rattle.std.specs.Borrow.{Bor}
use Rattle.std.specs.Prelude.{Option}
use Rattle.tf_model.specs.declared.doc.Doc.{Doc}
use Rattle.tf_plan.proofs.SortedLaws.{one_more, all_moved}
use Rattle.tf_plan.proofs.naming.sorted_newest.Goals as goal

pub loop-key-preserved : goal.loop-key-preserved
loop-key-preserved c =
    let inv = c.loop-key.invariant in
    let e : Key × Option (Bor Doc) = (c.into_key.result, c.in-Some.found) in
    let next : c.loop-key.key-iterator ≡ e ∷ c.next.new.self = c.in-Some.ensures.steps ∙ ap (λ k. (k, c.in-Some.found) ∷ c.next.new.self) (sym c.into_key.ensures) in (
      inv.0 ++ e ∷ [],
      one_more inv.0 c.loop-key.key-iterator c.next.new.self c.args.newest.entries e next inv.1,
      λ k. c.in_ok-insert.ensures.updates.0 k ∙ update_all_push (eq_by_cmp key_cmp) (λ _. None) (get key_cmp c.loop-key.sorted) inv.0 e k (inv.2 k),
    )

pub returns-clause-same : goal.returns-clause-same
returns-clause-same c = λ k.
    let inv = c.loop-key.invariant in
    inv.2 k ∙ ap (λ es. update_all (eq_by_cmp key_cmp) (λ _. None) es k) (all_moved inv.0 c.loop-key.key-iterator c.args.newest.entries c.in-None.ensures.steps.0 inv.1)
    ∙ update_all_none (eq_by_cmp_equiv key_cmp_total) (eq_by_cmp key_cmp) (λ x y. refl) c.args.newest.entries k c.len-count.ensures.unique
