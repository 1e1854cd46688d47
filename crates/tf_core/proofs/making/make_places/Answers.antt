use Rattle.std.proofs.Common.{rules, ◌≡◌, ◌∷◌, ◌+◌, ◌∙◌, drop}
use Rattle.tf_core.proofs.RowRoom.{keys_on, keys_past, next_at}
use Rattle.tf_core.proofs.making.make_places.Goals as goal

pub loop-row-preserved : goal.loop-row-preserved
loop-row-preserved c =
    let l = c.loop-row in
    let next : drop l.row-index c.args.page.now ≡ c.row-item.result ∷ drop (l.row-index + 1) c.args.page.now = next_at c.args.page.now l.row-index c.row-item.result (search rules) (search rules) in
    record {
      held = c.in_ok-make_place.ensures.held ∙ l.invariant.held;
      kept = λ k p. c.in_ok-make_place.ensures.kept k (l.invariant.kept k p);
      places = keys_on c.args.page.now l.row-index c.row-item.result l.rows.places c.make_place.new.self.places next c.in_ok-make_place.ensures.kept (search rules) l.invariant.places;
    }

pub returns-clause-places : goal.returns-clause-places
returns-clause-places c = c.loop-row.invariant.places c.loop-row.rows.places (λ k p. p) (keys_past c.loop-row.rows.places c.args.page.now c.loop-row.row-index c.loop-row-test.false)
