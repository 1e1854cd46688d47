use Rattle.std.proofs.Common.{◌≡◌, ◌++◌, ◌∷◌, [], map, get_or, sym, ap, ◌∙◌, subst, arith, Some}
use Rattle.std.proofs.lemmas.List.{get_or-map, map-set}
use Rattle.std.specs.Option.{option_copied}
use Rattle.std.specs.Prelude.{None}
use Rattle.tf_model.specs.Latest.{age_cmp, newer}
use Rattle.tf_model.specs.Rows.{of_both}
use Rattle.tf_latest.specs.Newest.{AreNewest, IsPlaceAmong}
use Rattle.tf_latest.proofs.NewestLaws.{none_grown, one_grown}
use Rattle.tf_latest.proofs.keeping.add_doc.Goals as goal

pub returns-in-Some : goal.returns-in-Some
returns-in-Some c = λ docs are.
    let sources = c.args.sources.now in
    let sort = c.args.sort.now in
    let config = c.args.config.now in
    let doc = c.args.doc.now in
    let keys = c.args.keys.now in
    let found = c.args.found.now.items in
    let at = c.in-Some.at in
    let place = subst (IsPlaceAmong config doc keys) c.in-Some.is c.place_among.ensures in
    let was : get_or (map option_copied found) at None ≡ option_copied c.index.result.now =
    get_or-map option_copied found at c.index.result.now None (omega (arith, place.0, c.requires.many)) ∙ ap option_copied (sym c.index.ensures) in
    subst (AreNewest sources sort config (docs ++ doc ∷ []) keys) (sym (map-set option_copied found at (Some c.newer_of.result)))
    (one_grown sources sort config docs doc keys (map option_copied found) at (Some c.newer_of.result.now) c.requires.ascend are place.0 place.1
    (c.newer_of.ensures ∙ ap (λ x. of_both (newer (age_cmp sources sort)) x (Some doc)) (sym was)))

pub returns-in_default : goal.returns-in_default
returns-in_default c = λ docs are.
    none_grown c.args.sources.now c.args.sort.now c.args.config.now docs c.args.doc.now c.args.keys.now (map option_copied c.args.found.now.items) are
    (subst (IsPlaceAmong c.args.config.now c.args.doc.now c.args.keys.now) c.in_default.is c.place_among.ensures)
