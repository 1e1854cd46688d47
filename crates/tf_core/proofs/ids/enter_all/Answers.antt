use Rattle.std.proofs.Common.{◌<◌, arith, length, subst, sym}
use Rattle.tf_core.specs.Ids.{AreIndexed}
use Rattle.tf_core.specs.Standing.{shared}
use Rattle.tf_core.proofs.IdsLaws.{docs_low, new_rest, place_more, so_far_more, step_indexed}
use Rattle.tf_core.proofs.ids.enter_all.Goals as goal

pub loop-prepared-preserved : goal.loop-prepared-preserved
loop-prepared-preserved c =
    let l = c.loop-prepared in
    let docs = shared c.args.docs.now in
    let steps = c.args.steps.now in
    let x = c.prepared-item.result in
    let low : l.prepared-index < length steps = c.loop-prepared-test.true in
    let new = new_rest docs steps l.prepared-index x low c.prepared-item.is l.invariant.new in
    record {
      indexed = subst (AreIndexed c.enter_step.new.ids) (sym (so_far_more docs steps l.prepared-index x low c.prepared-item.is))
          (step_indexed _ x.step l.place l.ids c.enter_step.new.ids l.invariant.indexed new.0 l.invariant.place c.in_ok-enter_step.ensures.ok);
      new = new.1;
      place = place_more docs steps l.prepared-index x low c.prepared-item.is l.place c.docs_in-place.result l.invariant.place c.docs_in-place.ensures;
      low = omega (arith, l.invariant.low, docs_low x.step, c.docs_in-place.ensures);
    }
