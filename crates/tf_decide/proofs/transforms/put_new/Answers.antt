use Rattle.std.proofs.Common.{true, sym, ap, subst, ◌∙◌, cond}
use Rattle.std.specs.Prelude.{reverse}
use Rattle.tf_config.specs.Reading.{Reads, reading}
use Rattle.tf_history.specs.Catalogue.{catalogue}
use Rattle.tf_reply.specs.declared.faults.Refusal.TheVariants as refusal
use Rattle.tf_core.specs.Sources.{catalogued}
use Rattle.tf_decide.specs.Asking as spec
use Rattle.tf_decide.proofs.PutAnswers.{refused_reading}
use Rattle.tf_decide.proofs.SpelledConfigs.{read_config_fits}
use Rattle.tf_decide.proofs.transforms.put_new.Goals as goal

pub put_with-requires-clause-config : goal.put_with-requires-clause-config
put_with-requires-clause-config c =
    let read = subst (λ r. Reads (reading c.in_ok-indices.indices true c.args.config.now) r) c.in-Ok.is c.read_config.ensures.answer in
    read_config_fits c.in_ok-indices.indices c.args.config.now c.in-Ok.config c.requires.config.1 read

pub returns-in_ok-config_refusal-in-Err-clause-asked : goal.returns-in_ok-config_refusal-in-Err-clause-asked
returns-in_ok-config_refusal-in-Err-clause-asked c =
    let past = reverse c.args.core.now.history in
    let put_by = spec.put_by past c.args.given.now.actor c.args.given.now.at_ms c.args.id in
    let wanted = reading (catalogued (catalogue past)) true c.args.config.now in
    let reads = subst (λ indices. Reads (reading indices true c.args.config.now) c.read_config.result) c.in_ok-indices.ensures c.read_config.ensures.answer in
    let told = sym c.in_ok-config_refusal-in-Err.ensures in
    let refused = refused_reading wanted c.in-Err.error c.in_ok-config_refusal-in-Err.field-0 (subst (Reads wanted) c.in-Err.is reads) told in
    let new = sym c.is_transform.ensures ∙ c.if-is_transform.false in
    c.refused-in-Err.ensures.asked
    ∙ sym (ap (λ used. cond used (spec.refuses (refusal.TransformExists c.args.id)) (put_by wanted)) new ∙ (ap put_by refused ∙ ap (λ o. spec.refused_by o) told))
