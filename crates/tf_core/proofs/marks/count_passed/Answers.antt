use Rattle.std.proofs.Common.{◌+◌, arith, rules, sym, ap, ◌∙◌}
use Rattle.tf_core.specs.Passed.{is_passed}
use Rattle.tf_core.proofs.MovedMarks.{goes_on, stops}
use Rattle.tf_core.proofs.marks.count_passed.Goals as goal

pub returns-then-not-is_passed : goal.returns-then-not-is_passed
returns-then-not-is_passed c =
    let l = c.loop-doc in
    let test = is_passed c.args.config.now c.args.low in
    let fails = ap test (sym c.deref.ensures) ∙ (sym c.is_passed.ensures ∙ c.if-not-is_passed.true) in
    omega (arith, l.invariant.rest, stops test c.args.docs.now l.doc-index c.doc-item.result (search rules) c.doc-item.is fails)

pub loop-doc-preserved : goal.loop-doc-preserved
loop-doc-preserved c =
    let l = c.loop-doc in
    let test = is_passed c.args.config.now c.args.low in
    let passes = ap test (sym c.deref.ensures) ∙ (sym c.is_passed.ensures ∙ c.if-not-is_passed.false) in
    record {
      count = ap (λ n. n + 1) l.invariant.count;
      rest = omega (arith, l.invariant.rest, goes_on test c.args.docs.now l.doc-index c.doc-item.result (search rules) c.doc-item.is passes);
    }
