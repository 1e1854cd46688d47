use Rattle.std.proofs.Common.{length, ap, ◌∙◌}
use Rattle.tf_model.specs.Rows.{aggs_of}
use Rattle.tf_fold.specs.Parts.{all_joined}
use Rattle.tf_fold.proofs.Joined.{as_many_after, parts_of_both}
use Rattle.tf_fold.proofs.acc.Acc.merge.Goals as goal

pub returns-clause-both : goal.returns-clause-both
returns-clause-both c = λ config docs more stands stands_more.
    let old = ap (λ kept. kept.parts) c.self.view_is ∙ stands in
    let other = c.as_slice.ensures ∙ ap (λ kept. kept.parts) c.other.view_is ∙ stands_more in
    c.merge_parts.ensures.value ∙ (λ i. all_joined (old i) (other i)) ∙ parts_of_both (aggs_of config.shape) docs more

pub returns-clause-same : goal.returns-clause-same
returns-clause-same c = as_many_after _ _ c.merge_parts.ensures.value ∙ ap (λ kept. length kept.parts) c.self.view_is
