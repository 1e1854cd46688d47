use Rattle.std.proofs.Common.{◌+◌, ◌<◌, ◌^◌, ◌∙◌, drop, length, arith, rules, sym, subst, ap}
use Rattle.std.proofs.lemmas.List.{length-map}
use Rattle.std.specs.Arc.{arc_value}
use Rattle.std.specs.List.{prefix_len}
use Rattle.tf_core.specs.Passed.{is_passed}
use Rattle.tf_core.specs.Standing.{shared}
use Rattle.tf_core.proofs.MovedMarks.{mark_fits}
use Rattle.tf_core.proofs.marks.move_mark.Goals as goal

pub overflow_add-transform : goal.overflow_add-transform
overflow_add-transform c =
    let t = c.args.transform.now in
    let few : length c.args.docs.now < 2 ^ 64 = search rules in
    let own : t.passed < 2 ^ 64 = search rules in
    let fits : t.passed + c.count_passed.result < 2 ^ 64 =
    mark_fits (is_passed t.config t.low) (shared c.args.docs.now) t.passed t.read c.count_passed.result
    (c.count_passed.ensures
    ∙ ap (prefix_len (is_passed t.config t.low)) (c.from-next.ensures ∙ ap (drop t.passed) c.first.ensures))
    (subst (λ n. n < 2 ^ 64) (sym (length-map c.args.docs.now (λ doc. arc_value doc))) few) own in
    omega (arith, fits)
