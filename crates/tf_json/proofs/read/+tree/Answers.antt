use Rattle.std.proofs.Common.{rules, ◌≡◌, map, Ok, sym, ap, subst, decimal, append-nil, ◌∙◌}
use Rattle.std.specs.Vec.Iter.{into_iter_items}
use Rattle.serde_json.specs.View.{view, members_view, items_of}
use Rattle.tf_json.specs.Reading.{tree_of, members_of}
use Rattle.tf_json.specs.Stored.{AreStored, data_of}
use Rattle.tf_json.proofs.Made.{AreStored-push, EachStored, EachStored-push, stored_members}
use Rattle.tf_json.proofs.Turns.{after, Blames-after, first_fault, trees_next, members_fault, members_turn, Entry}
use Rattle.tf_json.proofs.read.+tree.Goals as goal

pub members-loop-name-preserved : goal.members-loop-name-preserved
members-loop-name-preserved t c =
    let e : Entry = (c.in-Some.name, c.in-Some.value) in (
      members_turn _ c.loop-name.pairs c.push.new.self e c.loop-name.name-iterator c.next.new.self c.in-Ok.tree c.text_of.result
          c.loop-name.invariant.0 c.in-Some.ensures.steps c.in-Ok.ensures.value c.text_of.ensures.same c.in_ok-push-in-Ok.ensures.ok,
      subst EachStored (sym c.in_ok-push-in-Ok.ensures.ok) (EachStored-push c.loop-name.pairs c.text_of.result c.in-Ok.tree c.loop-name.invariant.1 c.text_of.ensures.utf8 c.in-Ok.ensures.stored),
    )

pub members-returns-in-Err-clause-value : goal.members-returns-in-Err-clause-value
members-returns-in-Err-clause-value t c =
    let e : Entry = (c.in-Some.name, c.in-Some.value) in
    let b = c.placed.ensures (tree_of (view c.in-Some.value)) c.in-Err.ensures.value in
    rw (c.loop-name.invariant.0, c.in-Some.ensures.steps) (Blames-after c.loop-name.pairs _ c.placed.result (members_fault e c.next.new.self c.placed.result (rw c.as_str.ensures.value at b)))

pub members-returns-clause-stored : goal.members-returns-clause-stored
members-returns-clause-stored t c =
    let pairs = c.loop-name.pairs in
    stored_members c.args.values.entries pairs c.into_iter-name-iterator.ensures.into_iter_gives.5
    (c.loop-name.invariant.0 ∙ ap (λ es. after pairs (members_of (members_view es))) c.in-None.ensures.steps.0 ∙ ap Ok (append-nil pairs)) c.loop-name.invariant.1

pub trees-returns-in-Err-clause-value : goal.trees-returns-in-Err-clause-value
trees-returns-in-Err-clause-value t c =
    let b = c.placed.ensures (tree_of (view c.in-Some.value)) c.in-Err.ensures.value in
    let named : c.as_str.result.now ≡ decimal c.loop-value.place = c.as_str.ensures.value ∙ c.in_ok-part-in-Err.ensures.ok in
    rw (c.loop-value.invariant.3, c.in-Some.ensures.steps.0) (Blames-after c.loop-value.found _ c.placed.result (first_fault c.in-Some.value _ c.loop-value.place c.placed.result (rw named at b)))

pub trees-loop-value-preserved : goal.trees-loop-value-preserved
trees-loop-value-preserved t c =
    let l = c.loop-value in
    let kept = trees_next _ l.found c.push.new.self c.in-Some.value (into_iter_items l.value-iterator) (into_iter_items c.next.new.self) l.place c.saturating_add-place.result c.in-Ok.tree
    l.invariant.3 c.in-Some.ensures.steps.0 c.in-Ok.ensures.value c.in_ok-push-in-Ok.ensures.ok (search rules) in (
      search rules,
      search rules,
      search rules,
      kept,
      subst (λ xs. AreStored (items_of (map data_of xs))) (sym c.in_ok-push-in-Ok.ensures.ok) (AreStored-push l.found c.in-Ok.tree l.invariant.4 c.in-Ok.ensures.stored),
    )
