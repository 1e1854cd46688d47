use Rattle.std.proofs.Common.{rules, ◌∙◌, ◌≡◌, ◌∷◌, ◌+◌, drop}
use Rattle.tf_dest.proofs.Filling.{reserved_on, at_place, past_end}
use Rattle.tf_dest.proofs.dest.Dest.reserve.Goals as goal

pub loop-held-preserved : goal.loop-held-preserved
loop-held-preserved c =
    let l = c.loop-held in
    let next : drop l.held-index c.args.page.now ≡ c.held-item.result ∷ drop (l.held-index + 1) c.args.page.now = at_place c.args.page.now l.held-index c.held-item.result (search rules) (search rules) in
    record {
      held = c.in_ok-make_place.ensures.held ∙ l.invariant.held;
      kept = λ k p. c.in_ok-make_place.ensures.kept k (l.invariant.kept k p);
      there = reserved_on c.args.page.now l.held-index c.held-item.result l.self.places c.make_place.new.self.places next c.in_ok-make_place.ensures.kept (search rules) l.invariant.there;
    }

pub returns-clause-there : goal.returns-clause-there
returns-clause-there c = c.loop-held.invariant.there c.loop-held.self.places (λ k p. p) (past_end c.args.page.now c.loop-held.held-index c.loop-held.self.places c.loop-held-test.false)
