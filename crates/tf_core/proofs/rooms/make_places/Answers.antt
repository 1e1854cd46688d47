use Rattle.std.proofs.Common.{rules, ◌≡◌, ◌∷◌, ◌+◌, ◌∙◌, drop}
use Rattle.tf_core.proofs.RowRoom.{next_at, paged_on, paged_past}
use Rattle.tf_core.proofs.rooms.make_places.Goals as goal

pub loop-prepared-preserved : goal.loop-prepared-preserved
loop-prepared-preserved c =
    let l = c.loop-prepared in
    let next : drop l.prepared-index c.args.steps.now ≡ c.prepared-item.result ∷ drop (l.prepared-index + 1) c.args.steps.now = next_at c.args.steps.now l.prepared-index c.prepared-item.result (search rules) (search rules) in
    record {
      held = c.in_ok-make_places_by.ensures.held ∙ l.invariant.held;
      places = paged_on c.args.id.now c.args.steps.now l.prepared-index c.prepared-item.result l.rows.places c.make_places_by.new.rows.places next c.in_ok-make_places_by.ensures.kept (search rules) l.invariant.places;
    }

pub returns-clause-places : goal.returns-clause-places
returns-clause-places c = c.loop-prepared.invariant.places c.loop-prepared.rows.places (λ k p. p) (paged_past c.args.id.now c.loop-prepared.rows.places c.args.steps.now c.loop-prepared.prepared-index c.loop-prepared-test.false)
