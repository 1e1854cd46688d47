use Rattle.std.proofs.Common.{map, rules, ap, ◌∙◌}
use Rattle.tf_core.specs.Kept.{past_in}
use Rattle.tf_core.specs.Passed.{marked}
use Rattle.tf_core.specs.Standing.{shared}
use Rattle.tf_core.proofs.MovedMarks.{marked_stands}
use Rattle.tf_core.proofs.state.Core.apply.Goals as goal

pub invariant_of-self : goal.invariant_of-self
invariant_of-self c =
    let n = c.apply_all.new in
    let moved = c.move_marks.ensures.items ∙ ap (λ docs. map (marked (shared docs)) n.transforms.items) c.as_slice.ensures.value in
    record {
      stands = marked_stands (shared n.docs.items) (past_in n.entries.items) n.indices.items n.transforms.items c.move_marks.new.transforms.items moved c.apply_all.ensures.stands;
      indexed = search rules;
      counted = c.apply_all.ensures.counted;
      mentioned = c.apply_all.ensures.mentioned;
      prepared = tt;
    }
