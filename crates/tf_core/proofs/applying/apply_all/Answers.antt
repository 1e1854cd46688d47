use Rattle.std.proofs.Common.{arith, ◌++◌, map, ap, sym, subst, ◌∙◌}
use Rattle.std.specs.Vec.Iter.{into_iter_items}
use Rattle.tf_core.specs.Chain.{entries_in}
use Rattle.tf_core.specs.Kept.{entry_of, past_in}
use Rattle.tf_core.specs.Counts.{AreMentioned, HaveCounts}
use Rattle.tf_core.specs.Ids.{all_docs}
use Rattle.tf_core.specs.Standing.{IsReady, shared}
use Rattle.tf_core.proofs.Applied.{all_small, can_step, docs_next, few_entries, history_next, next_ready, next_stands, past_is}
use Rattle.tf_core.proofs.CountsLaws.{few_counted, next_counted, next_mentioned, still_have}
use Rattle.tf_core.proofs.applying.apply_all.Goals as goal

pub apply-requires-clause-can : goal.apply-requires-clause-can
apply-requires-clause-can c =
    let l = c.loop-prepared in
    let ready = subst (IsReady l.entries l.indices l.docs l.transforms) c.in-Some.ensures.steps.0 l.invariant.ready in
    can_step l.entries l.indices l.docs l.transforms c.in-Some.prepared (into_iter_items c.next.new.self) l.invariant.stands ready

pub apply-requires-clause-small : goal.apply-requires-clause-small
apply-requires-clause-small c =
    let l = c.loop-prepared in
    all_small l.entries l.indices.items _ l.transforms.items l.invariant.stands

pub apply-requires-clause-there : goal.apply-requires-clause-there
apply-requires-clause-there c = (subst (HaveCounts c.loop-prepared.counts) c.in-Some.ensures.steps.0 c.loop-prepared.invariant.counts).0

pub apply-requires-clause-few : goal.apply-requires-clause-few
apply-requires-clause-few c =
    let l = c.loop-prepared in
    few_counted l.counts l.docs.items (past_in l.entries.items) (omega (arith, l.docs.ok.0, l.docs.ok.1, l.docs.small)) (few_entries l.entries) l.invariant.counted l.invariant.mentioned

pub loop-prepared-preserved : goal.loop-prepared-preserved
loop-prepared-preserved c =
    let l = c.loop-prepared in
    let n = c.apply.new in
    let rest = into_iter_items c.next.new.self in
    let have = subst (HaveCounts l.counts) c.in-Some.ensures.steps.0 l.invariant.counts in
    let ready = subst (IsReady l.entries l.indices l.docs l.transforms) c.in-Some.ensures.steps.0 l.invariant.ready in
    record {
      stands = next_stands l.entries l.indices l.docs l.transforms c.in-Some.prepared rest l.invariant.stands ready n.entries n.indices n.docs n.transforms c.apply.ensures.applied;
      ready = next_ready l.entries l.indices l.docs l.transforms c.in-Some.prepared rest l.invariant.stands ready n.entries n.indices n.docs n.transforms c.apply.ensures.applied;
      counted = next_counted l.counts n.counts (shared l.docs.items) (shared n.docs.items) c.in-Some.prepared.step c.apply.ensures.applied.docs c.apply.ensures.counted l.invariant.counted;
      mentioned = subst (AreMentioned n.counts) (sym (past_is l.entries l.indices l.docs l.transforms c.in-Some.prepared rest l.invariant.stands ready n.entries n.indices n.docs n.transforms c.apply.ensures.applied))
          (next_mentioned l.counts n.counts (past_in l.entries.items) (entry_of c.in-Some.prepared.kept) l.indices.items c.in-Some.prepared.step l.invariant.stands.indices_are ready.chain.0 c.apply.ensures.counted l.invariant.mentioned);
      counts = still_have l.counts n.counts c.apply.ensures.counted.kept rest have.1;
      history = history_next l.entries.items n.entries.items c.in-Some.prepared rest c.apply.ensures.applied.entries
          ∙ (ap (λ steps. map entry_of l.entries.items ++ entries_in steps) (sym c.in-Some.ensures.steps.0) ∙ l.invariant.history);
      docs = docs_next (shared l.docs.items) (shared n.docs.items) c.in-Some.prepared rest c.apply.ensures.applied.docs
          ∙ (ap (λ steps. shared l.docs.items ++ all_docs steps) (sym c.in-Some.ensures.steps.0) ∙ l.invariant.docs);
    }
