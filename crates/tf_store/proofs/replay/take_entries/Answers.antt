use Rattle.std.proofs.Common.{◌≡◌, ◌∷◌, [], ◌++◌, List, length, sym, ap, ◌∙◌, append_assoc, arith}
use Rattle.std.proofs.lemmas.Bool.{false≢true}
use Rattle.std.specs.Vec.Iter.{into_iter_items}
use Rattle.tf_model.specs.declared.entry.Entry.{Entry}
use Rattle.tf_store.proofs.Taken.{turn_taken, turn_is_taken}
use Rattle.tf_store.proofs.replay.take_entries.Goals as goal

pub loop-entry-preserved : goal.loop-entry-preserved
loop-entry-preserved c =
    let at = c.loop-entry in
    let x = c.in-Some.entry in
    let old = c.args.core.now.history in
    let steps : into_iter_items at.entry-iterator ≡ x ∷ into_iter_items c.next.new.self = c.in-Some.ensures.steps.0 in record {
      all = append_assoc at.yielded (x ∷ []) (into_iter_items c.next.new.self) ∙ ap (λ (l : List Entry). at.yielded ++ l) (sym steps) ∙ at.invariant.all;
      taken = turn_taken old at.core.history at.yielded x at.invariant.history at.invariant.taken (c.in_ok-allowed.ensures.0 c.if-not-branch.false);
      history = c.in_ok-take_entry.ensures ∙ ap (λ (l : List Entry). l ++ x ∷ []) at.invariant.history ∙ append_assoc old at.yielded (x ∷ []);
      rest = let gone = c.in-Some.ensures.steps.1 in omega (arith, at.invariant.rest, gone, ap length steps);
    }

pub returns-then-not-branch : goal.returns-then-not-branch
returns-then-not-branch c taken =
    let at = c.loop-entry in
    let x = c.in-Some.entry in
    let old = c.args.core.now.history in
    let steps : into_iter_items at.entry-iterator ≡ x ∷ into_iter_items c.next.new.self = c.in-Some.ensures.steps.0 in
    let is = turn_is_taken old at.core.history at.yielded c.args.entries (into_iter_items c.next.new.self) x (ap (λ (l : List Entry). at.yielded ++ l) (sym steps) ∙ at.invariant.all) at.invariant.history taken in
    false≢true (sym c.if-not-branch.true ∙ c.in_ok-allowed.ensures.1 is)
