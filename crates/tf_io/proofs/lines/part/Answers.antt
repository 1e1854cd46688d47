use Rattle.std.proofs.Common.{◌≡◌, ◌-◌, ◌∙◌, suc, length, sym, arith}
use Rattle.tf_io.proofs.Cut.{place_after, part_after}
use Rattle.tf_io.proofs.lines.part.Goals as goal

pub overflow_add-before : goal.overflow_add-before
overflow_add-before c =
    let before = c.args.i - 1 in
    let is : c.args.i ≡ suc before = omega (arith, c.if-i-eq0.false) in
    let bounds = place_after _ 0 c.args.ends.now before c.args.i is c.requires.places c.requires.within in
    omega (arith, bounds.0, bounds.1)

pub between-requires-else-i-eq0-clause-order : goal.between-requires-else-i-eq0-clause-order
between-requires-else-i-eq0-clause-order c =
    let before = c.args.i - 1 in
    let is : c.args.i ≡ suc before = omega (arith, c.if-i-eq0.false) in
    (place_after (length c.args.text.now) 0 c.args.ends.now before c.args.i is c.requires.places c.requires.within).0

pub between-requires-else-i-eq0-clause-within : goal.between-requires-else-i-eq0-clause-within
between-requires-else-i-eq0-clause-within c =
    let before = c.args.i - 1 in
    let is : c.args.i ≡ suc before = omega (arith, c.if-i-eq0.false) in
    (place_after (length c.args.text.now) 0 c.args.ends.now before c.args.i is c.requires.places c.requires.within).1

pub returns-else-i-eq0 : goal.returns-else-i-eq0
returns-else-i-eq0 c =
    let before = c.args.i - 1 in
    let is : c.args.i ≡ suc before = omega (arith, c.if-i-eq0.false) in
    c.between-else-i-eq0.ensures ∙ sym (part_after c.args.text.now 0 c.args.ends.now before c.args.i is c.requires.within)
