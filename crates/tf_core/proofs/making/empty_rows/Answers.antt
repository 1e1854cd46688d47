use Rattle.std.proofs.Common.{rules, ◌≡◌, ◌∷◌, ◌+◌, ◌∙◌, drop}
use Rattle.tf_core.proofs.RowRoom.{next_at, pages_on, pages_past}
use Rattle.tf_core.proofs.making.empty_rows.Goals as goal

pub loop-entry-preserved : goal.loop-entry-preserved
loop-entry-preserved c =
    let l = c.loop-entry in
    let next : drop l.entry-index c.args.entries.now ≡ c.entry-item.result ∷ drop (l.entry-index + 1) c.args.entries.now = next_at c.args.entries.now l.entry-index c.entry-item.result (search rules) (search rules) in
    record {
      held = c.in_ok-make_places_by.ensures.held ∙ l.invariant.held;
      places = pages_on c.args.id.now c.args.entries.now l.entry-index c.entry-item.result l.rows.places c.make_places_by.new.rows.places next c.in_ok-make_places_by.ensures.kept (search rules) l.invariant.places;
    }

pub returns-clause-places : goal.returns-clause-places
returns-clause-places c = c.loop-entry.invariant.places c.loop-entry.rows.places (λ k p. p) (pages_past c.args.id.now c.loop-entry.rows.places c.args.entries.now c.loop-entry.entry-index c.loop-entry-test.false)
