use Rattle.std.proofs.Common.{◌≡◌, ◌+◌, ◌<◌, All, length, take, drop, sym, subst, ap, ◌∙◌, arith, slice_set, length-set}
use Rattle.tf_fold.specs.Bounds.{IsPartWithin}
use Rattle.tf_fold.specs.Parts.{joined}
use Rattle.tf_fold.proofs.Joined.{within_at, joined_more, rest_more, within_more}
use Rattle.tf_fold.proofs.parts.merge_parts.Goals as goal

pub join-joined-requires-clause-part : goal.join-joined-requires-clause-part
join-joined-requires-clause-part c =
    within_at (IsPartWithin c.args.weight) c.loop-at.parts c.args.parts.now c.loop-at.at c.index.result.now
    c.requires.within c.loop-at.invariant.rest (omega (arith, c.loop-at-test.true, c.requires.same)) c.index.ensures

pub loop-at-preserved : goal.loop-at-preserved
loop-at-preserved c =
    let inv = c.loop-at.invariant in
    let lt : c.loop-at.at < length c.loop-at.parts = omega (arith, c.loop-at-test.true, c.requires.same, inv.same) in
    let new : c.set.new.self ≡ slice_set c.loop-at.parts c.loop-at.at (joined c.index.result.now c.index-others-at.result) =
    c.set.ensures ∙ ap (slice_set c.loop-at.parts c.loop-at.at) c.join-joined.ensures.value in
    record {
      joined = ap (take (c.loop-at.at + 1)) new ∙ joined_more c.loop-at.parts c.args.parts.now c.args.others.now c.loop-at.at c.index.result.now c.index-others-at.result
          lt inv.same c.requires.same c.index.ensures c.index-others-at.is inv.joined inv.rest;
      rest = ap (drop (c.loop-at.at + 1)) c.set.ensures ∙ rest_more c.loop-at.parts c.args.parts.now c.loop-at.at c.join-joined.result inv.rest;
      same = ap length c.set.ensures ∙ length-set c.loop-at.parts c.loop-at.at c.join-joined.result ∙ inv.same;
      within = subst (λ ps. All (IsPartWithin (c.args.weight + c.args.other_weight)) (take (c.loop-at.at + 1) ps)) (sym c.set.ensures)
          (within_more (IsPartWithin (c.args.weight + c.args.other_weight)) c.loop-at.parts c.loop-at.at c.join-joined.result lt inv.within c.join-joined.ensures.within);
    }
