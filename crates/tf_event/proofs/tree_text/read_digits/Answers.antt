use Rattle.std.proofs.Common.{arith, rules, ◌<◌, ◌≤◌, ◌^◌, get_or}
use Rattle.std.specs.Fmt.{decimal}
use Rattle.tf_event.proofs.PrintedTrees.{digits_next}
use Rattle.tf_event.proofs.tree_text.read_digits.Goals as goal

pub loop-place-preserved : goal.loop-place-preserved
loop-place-preserved c =
    let low : 48 ≤ get_or c.args.text.now c.loop-place.place 0 = search rules in
    let high : get_or c.args.text.now c.loop-place.place 0 ≤ 57 = search rules in
    let fits : c.in-Some.longer < 2 ^ 64 = search rules in (
      omega (arith, c.in-Some.ensures, c.loop-place.invariant.0),
      digits_next (decimal c.args.first) c.args.text.now c.loop-place.place c.loop-place.number c.in-Some.longer c.loop-place-test.true low high c.loop-place.invariant.0 c.in-Some.ensures fits c.loop-place.invariant.1,
    )
