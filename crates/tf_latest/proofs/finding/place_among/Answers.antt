use Rattle.std.proofs.Common.{◌+◌, ◌-◌, ◌/◌, ◌<◌, Some, refl, sym, ap, ◌∙◌, subst, arith, length}
use Rattle.tf_model.specs.Keys.{key_of}
use Rattle.tf_latest.specs.Newest.{IsPlaceAmong}
use Rattle.tf_latest.proofs.NewestLaws.{found_at, no_key, none_from, none_up_to}
use Rattle.tf_latest.proofs.finding.place_among.Goals as goal

pub returns-in_err-compare_key : goal.returns-in_err-compare_key
returns-in_err-compare_key c =
    let config = c.args.config.now in
    let doc = c.args.doc.now in
    let keys = c.args.keys.now in
    subst (IsPlaceAmong config doc keys) (sym c.from_residual.ensures)
    (no_key config doc keys c.requires.ascend (key_of config doc) refl c.index-keys-middle.result (sym c.compare_key.ensures ∙ c.in_err-compare_key.was))

pub loop-low-preserved-in-Less : goal.loop-low-preserved-in-Less
loop-low-preserved-in-Less c =
    let inv = c.loop-low.invariant in
    let at = c.loop-low.low + (c.loop-low.high - c.loop-low.low) / 2 in
    let lt : at < c.loop-low.high = omega (arith, c.loop-low-test.true) in
    let inside : at < length c.args.keys.now = omega (arith, lt, inv.within) in
    record {
      order = omega arith;
      within = omega (arith, inside);
      below = inv.below;
      above = none_from c.args.config.now c.args.doc.now c.args.keys.now c.requires.ascend c.index-keys-middle.result at inside c.index-keys-middle.is
          (sym c.compare_key.ensures ∙ c.in_ok-compare_key.was ∙ ap Some c.in-Less.is);
    }

pub returns-in-Equal : goal.returns-in-Equal
returns-in-Equal c =
    let at = c.loop-low.low + (c.loop-low.high - c.loop-low.low) / 2 in
    let lt : at < c.loop-low.high = omega (arith, c.loop-low-test.true) in
    let inside : at < length c.args.keys.now = omega (arith, lt, c.loop-low.invariant.within) in (
      inside,
      found_at c.args.config.now c.args.doc.now c.args.keys.now c.requires.ascend c.index-keys-middle.result at inside c.index-keys-middle.is
          (sym c.compare_key.ensures ∙ c.in_ok-compare_key.was ∙ ap Some c.in-Equal.is),
    )

pub loop-low-preserved : goal.loop-low-preserved
loop-low-preserved c =
    let inv = c.loop-low.invariant in
    let at = c.loop-low.low + (c.loop-low.high - c.loop-low.low) / 2 in
    let lt : at < c.loop-low.high = omega (arith, c.loop-low-test.true) in
    let inside : at < length c.args.keys.now = omega (arith, lt, inv.within) in
    record {
      order = omega (arith, lt);
      within = inv.within;
      below = none_up_to c.args.config.now c.args.doc.now c.args.keys.now c.requires.ascend c.index-keys-middle.result at inside c.index-keys-middle.is
          (sym c.compare_key.ensures ∙ c.in_ok-compare_key.was ∙ ap Some c.in-Greater.is);
      above = inv.above;
    }
