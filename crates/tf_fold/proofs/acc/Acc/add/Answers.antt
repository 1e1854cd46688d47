use Rattle.std.proofs.Common.{length, map, ap, ◌∙◌}
use Rattle.tf_model.specs.Rows.{aggs_of}
use Rattle.tf_fold.specs.Parts.{all_joined, part_in}
use Rattle.tf_fold.proofs.Joined.{as_many_after, parts_of_more}
use Rattle.tf_fold.proofs.acc.Acc.add.Goals as goal

pub returns-clause-grown : goal.returns-clause-grown
returns-clause-grown c = λ docs stands.
    let old = ap (λ kept. kept.parts) c.self.view_is ∙ stands in
    c.add_parts.ensures.value ∙ (λ i. all_joined (old i) (map (part_in c.args.doc.now) (c.aggs.ensures i)))
    ∙ parts_of_more (aggs_of c.args.config.now.shape) docs c.args.doc.now

pub returns-clause-same : goal.returns-clause-same
returns-clause-same c = as_many_after _ _ c.add_parts.ensures.value ∙ ap (λ kept. length kept.parts) c.self.view_is
