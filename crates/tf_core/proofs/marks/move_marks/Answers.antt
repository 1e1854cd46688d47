use Rattle.std.proofs.Common.{ap, ◌∙◌, rules}
use Rattle.std.specs.Prelude.{slice_set}
use Rattle.tf_core.specs.Passed.{marked}
use Rattle.tf_core.specs.Standing.{shared}
use Rattle.tf_core.proofs.Mapped.{mapped_more}
use Rattle.tf_core.proofs.marks.move_marks.Goals as goal

pub loop-transform-preserved : goal.loop-transform-preserved
loop-transform-preserved c =
    ap (λ x. slice_set c.loop-transform.transform-items c.loop-transform.transform-index x) c.move_mark.ensures
    ∙ mapped_more (marked (shared c.args.docs.now)) c.args.transforms.now.items c.loop-transform.transform-items c.loop-transform.transform-index c.transform-item.result (search rules) c.loop-transform.invariant
