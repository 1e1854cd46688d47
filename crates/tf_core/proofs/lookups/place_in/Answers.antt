use Rattle.std.proofs.Common.{ap, sym, ◌∙◌}
use Rattle.std.specs.Prelude.{option_map}
use Rattle.std.specs.Arc.{arc_value}
use Rattle.std.proofs.lemmas.Option.{slice_get-map}
use Rattle.tf_history.specs.LegalEntries.{has_id}
use Rattle.tf_core.specs.Lookups.{some_has}
use Rattle.tf_core.specs.Standing.{shared}
use Rattle.tf_core.proofs.Found.{entered_elsewhere, entered_there, not_entered}
use Rattle.tf_core.proofs.lookups.place_in.Goals as goal

pub returns-in-None : goal.returns-in-None
returns-in-None c = sym (not_entered c.args.ids.now (shared c.args.docs.now) c.args.index c.args.id.now c.requires (sym c.place.ensures ∙ c.in-None.is))

pub returns-then-is_at : goal.returns-then-is_at
returns-then-is_at c =
    let has = has_id c.args.index c.args.id.now in
    let found = ap (some_has has) (slice_get-map (λ doc. arc_value doc) c.args.docs.now c.in-Some.place ∙ ap (option_map (λ doc. arc_value doc)) (sym c.doc_at.ensures)) in
    sym (entered_there c.args.ids.now (shared c.args.docs.now) c.args.index c.args.id.now c.requires c.in-Some.place (sym c.place.ensures ∙ c.in-Some.is) (found ∙ (sym c.is_at.ensures ∙ c.if-is_at.true)))

pub returns-else-is_at : goal.returns-else-is_at
returns-else-is_at c =
    let has = has_id c.args.index c.args.id.now in
    let found = ap (some_has has) (slice_get-map (λ doc. arc_value doc) c.args.docs.now c.in-Some.place ∙ ap (option_map (λ doc. arc_value doc)) (sym c.doc_at.ensures)) in
    sym (entered_elsewhere c.args.ids.now (shared c.args.docs.now) c.args.index c.args.id.now c.requires c.in-Some.place (sym c.place.ensures ∙ c.in-Some.is) (found ∙ (sym c.is_at.ensures ∙ c.if-is_at.false)))
