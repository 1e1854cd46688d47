use Rattle.std.proofs.Common.{◌≡◌, ◌∷◌, [], ◌++◌, ℕ, List, length, sym, ap, ◌∙◌, append_assoc, length-append, arith}
use Rattle.std.specs.Vec.Iter.{into_iter_items}
use Rattle.tf_store.proofs.Contents.{holds_more, damaged_here}
use Rattle.tf_store.proofs.replay.replay.Goals as goal

pub loop-frame-preserved : goal.loop-frame-preserved
loop-frame-preserved c =
    let at = c.loop-frame in
    let x = c.in-Some.frame in
    let steps : into_iter_items at.frame-iterator ≡ x ∷ into_iter_items c.next.new.self = c.in-Some.ensures.steps.0 in record {
      all = append_assoc at.yielded (x ∷ []) (into_iter_items c.next.new.self) ∙ ap (λ (l : List (List ℕ)). at.yielded ++ l) (sym steps) ∙ at.invariant.all;
      holds = holds_more at.yielded x c.body.result.now at.core.history c.take_body.new.core.history c.in_ok-take_body.field-0 at.invariant.holds c.body.ensures c.if-not-branch.false c.in_ok-take_body.ensures;
      rest = let gone = c.in-Some.ensures.steps.1 in omega (arith, at.invariant.rest, gone, ap length steps);
      left = omega (arith, at.invariant.left, ap length steps);
      count = at.invariant.count;
    }

pub returns-then-not-branch-clause-refused : goal.returns-then-not-branch-clause-refused
returns-then-not-branch-clause-refused c =
    let at = c.loop-frame in
    let x = c.in-Some.frame in
    let steps : into_iter_items at.frame-iterator ≡ x ∷ into_iter_items c.next.new.self = c.in-Some.ensures.steps.0 in
    let parts = ap (λ (l : List (List ℕ)). at.yielded ++ l) (sym steps) ∙ at.invariant.all in record {
      before = at.yielded;
      body = x;
      later = into_iter_items c.next.new.self;
      parts = sym parts;
      history = at.core.history;
      holds = at.invariant.holds;
      damage = damaged_here x c.body.result.now at.core.history c.take_body.new.core.history c.in_ok-take_body.field-0 c.body.ensures c.if-not-branch.true c.in_ok-take_body.ensures;
      number = omega (arith, at.invariant.left, at.invariant.count, ap length steps, ap length parts, length-append at.yielded (x ∷ into_iter_items c.next.new.self));
    }
