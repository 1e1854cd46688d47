use Rattle.std.proofs.Common.{◌≡◌, ◌+◌, ◌++◌, [], ◌∷◌, map, take, sym, ap, subst, ◌∙◌, arith}
use Rattle.std.proofs.lemmas.List.{take_all}
use Rattle.std.proofs.lemmas.List.Elements.{All-filter}
use Rattle.std.specs.Prelude.{Some}
use Rattle.std.specs.Option.{option_copied}
use Rattle.tf_model.specs.Conditions.{Fits}
use Rattle.tf_model.specs.Counted.{counted, counts, is_in_window, window}
use Rattle.tf_reader.specs.Places.{documents, doc_at, place}
use Rattle.tf_reader.proofs.Walking.{as_many, is_place, docs_more, doc_has}
use Rattle.tf_plan.specs.Newest.{AreNewest, newest_at}
use Rattle.tf_plan.proofs.NewestLaws.{adds_more, opens_more}
use Rattle.tf_plan.proofs.scanning.window_newest.Goals as goal

pub fetch-doc-requires : goal.fetch-doc-requires
fetch-doc-requires g c =
    let reader = c.args.reader.now in
    let docs = window c.args.config.now c.args.low c.args.high (documents reader) in
    let found : map (doc_at reader) c.as_slice-place-items.result.now ≡ map Some docs = ap (map (doc_at reader)) c.as_slice-place-items.ensures ∙ c.in_ok-changed.ensures.found in
    is_place (doc_at reader) c.as_slice-place-items.result.now docs found c.loop-place.place-index (place 0 0) c.loop-place-test.true

pub open_for-requires-clause-fits : goal.open_for-requires-clause-fits
unfolding window
open_for-requires-clause-fits g c =
    let reader = c.args.reader.now in
    let docs = window c.args.config.now c.args.low c.args.high (documents reader) in
    let found : map (doc_at reader) c.as_slice-place-items.result.now ≡ map Some docs = ap (map (doc_at reader)) c.as_slice-place-items.ensures ∙ c.in_ok-changed.ensures.found in
    doc_has (doc_at reader) c.as_slice-place-items.result.now docs found c.loop-place.place-index (place 0 0) c.loop-place-test.true
    (Fits c.args.config.now) (All-filter (is_in_window c.args.config.now c.args.low c.args.high) (Fits c.args.config.now) (documents reader) c.requires.docs)
    c.fetch-doc.result.now c.fetch-doc.ensures.document

pub loop-place-preserved : goal.loop-place-preserved
loop-place-preserved g c =
    let inv = c.loop-place.invariant in
    let reader = c.args.reader.now in
    let config = c.args.config.now in
    let after = option_copied c.args.after in
    let docs = window config c.args.low c.args.high (documents reader) in
    let at = c.loop-place.place-index in
    let d = c.fetch-doc.result.now in
    let found : map (doc_at reader) c.as_slice-place-items.result.now ≡ map Some docs = ap (map (doc_at reader)) c.as_slice-place-items.ensures ∙ c.in_ok-changed.ensures.found in
    let more : take (at + 1) docs ≡ take at docs ++ d ∷ [] = docs_more (doc_at reader) c.as_slice-place-items.result.now docs found at (place 0 0) c.loop-place-test.true d c.fetch-doc.ensures.document in
    record {
      newest = subst (λ ds. AreNewest c.args.sources.now c.args.sort.now config after ds [] (newest_at c.open_for.new.newest.entries)) (sym more)
          (opens_more c.args.sources.now c.args.sort.now config after d (newest_at c.loop-place.newest.entries) (newest_at c.open_for.new.newest.entries) (take at docs) c.in_ok-open_for.ensures inv.newest);
      steps = omega (arith, c.fetch-doc.ensures.cost, inv.steps);
    }

pub loop-spot-init : goal.loop-spot-init
loop-spot-init g c =
    let inv = c.loop-place.invariant in
    let reader = c.args.reader.now in
    let docs = window c.args.config.now c.args.low c.args.high (documents reader) in
    let found : map (doc_at reader) c.as_slice-place-items.result.now ≡ map Some docs = ap (map (doc_at reader)) c.as_slice-place-items.ensures ∙ c.in_ok-changed.ensures.found in
    let many = as_many (doc_at reader) c.as_slice-place-items.result.now docs found in
    let whole : take c.loop-place.place-index docs ≡ docs = take_all c.loop-place.place-index docs (omega (arith, many, c.loop-place-test.false)) in
    record {
      newest = subst (λ ds. AreNewest c.args.sources.now c.args.sort.now c.args.config.now (option_copied c.args.after) ds [] (newest_at c.loop-place.newest.entries)) whole inv.newest;
      within = omega arith;
      steps = omega (arith, many, inv.steps);
    }

pub fetch-doc-requires-in-loop-spot : goal.fetch-doc-requires-in-loop-spot
fetch-doc-requires-in-loop-spot g c =
    let reader = c.args.reader.now in
    let docs = counted c.args.config.now c.args.high (documents reader) in
    let found : map (doc_at reader) c.as_slice-spot-items.result.now ≡ map Some docs = ap (map (doc_at reader)) c.as_slice-spot-items.ensures ∙ c.in_ok-counted.ensures.found in
    is_place (doc_at reader) c.as_slice-spot-items.result.now docs found c.loop-spot.spot-index (place 0 0) c.loop-spot-test.true

pub add_doc-requires-clause-fits : goal.add_doc-requires-clause-fits
unfolding counted
add_doc-requires-clause-fits g c =
    let reader = c.args.reader.now in
    let docs = counted c.args.config.now c.args.high (documents reader) in
    let found : map (doc_at reader) c.as_slice-spot-items.result.now ≡ map Some docs = ap (map (doc_at reader)) c.as_slice-spot-items.ensures ∙ c.in_ok-counted.ensures.found in
    doc_has (doc_at reader) c.as_slice-spot-items.result.now docs found c.loop-spot.spot-index (place 0 0) c.loop-spot-test.true
    (Fits c.args.config.now) (All-filter (counts c.args.config.now c.args.high) (Fits c.args.config.now) (documents reader) c.requires.docs)
    c.fetch-doc-in-loop-spot.result.now c.fetch-doc-in-loop-spot.ensures.document

pub loop-spot-preserved : goal.loop-spot-preserved
loop-spot-preserved g c =
    let inv = c.loop-spot.invariant in
    let reader = c.args.reader.now in
    let config = c.args.config.now in
    let after = option_copied c.args.after in
    let seen = window config c.args.low c.args.high (documents reader) in
    let docs = counted config c.args.high (documents reader) in
    let at = c.loop-spot.spot-index in
    let d = c.fetch-doc-in-loop-spot.result.now in
    let found : map (doc_at reader) c.as_slice-spot-items.result.now ≡ map Some docs = ap (map (doc_at reader)) c.as_slice-spot-items.ensures ∙ c.in_ok-counted.ensures.found in
    let more : take (at + 1) docs ≡ take at docs ++ d ∷ [] = docs_more (doc_at reader) c.as_slice-spot-items.result.now docs found at (place 0 0) c.loop-spot-test.true d c.fetch-doc-in-loop-spot.ensures.document in
    record {
      newest = subst (λ ds. AreNewest c.args.sources.now c.args.sort.now config after seen ds (newest_at c.add_doc.new.newest.entries)) (sym more)
          (adds_more c.args.sources.now c.args.sort.now config after d (newest_at c.loop-spot.newest.entries) (newest_at c.add_doc.new.newest.entries) seen (take at docs) c.in_ok-add_doc.ensures inv.newest);
      within = let many = as_many (doc_at reader) c.as_slice-spot-items.result.now docs found in omega (arith, many, c.loop-spot-test.true);
      steps = omega (arith, c.fetch-doc-in-loop-spot.ensures.cost, inv.steps);
    }

pub returns-in_err-add_doc-clause-cost : goal.returns-in_err-add_doc-clause-cost
returns-in_err-add_doc-clause-cost g c =
    let reader = c.args.reader.now in
    let docs = counted c.args.config.now c.args.high (documents reader) in
    let found : map (doc_at reader) c.as_slice-spot-items.result.now ≡ map Some docs = ap (map (doc_at reader)) c.as_slice-spot-items.ensures ∙ c.in_ok-counted.ensures.found in
    let many = as_many (doc_at reader) c.as_slice-spot-items.result.now docs found in
    omega (arith, many, c.fetch-doc-in-loop-spot.ensures.cost, c.loop-spot.invariant.steps, c.loop-spot-test.true)

pub returns-clause-newest : goal.returns-clause-newest
returns-clause-newest g c =
    let reader = c.args.reader.now in
    let docs = counted c.args.config.now c.args.high (documents reader) in
    let found : map (doc_at reader) c.as_slice-spot-items.result.now ≡ map Some docs = ap (map (doc_at reader)) c.as_slice-spot-items.ensures ∙ c.in_ok-counted.ensures.found in
    let many = as_many (doc_at reader) c.as_slice-spot-items.result.now docs found in
    let whole : take c.loop-spot.spot-index docs ≡ docs = take_all c.loop-spot.spot-index docs (omega (arith, many, c.loop-spot-test.false)) in
    subst (λ ds. AreNewest c.args.sources.now c.args.sort.now c.args.config.now (option_copied c.args.after) (window c.args.config.now c.args.low c.args.high (documents reader)) ds (newest_at c.loop-spot.newest.entries)) whole c.loop-spot.invariant.newest

pub returns-clause-cost : goal.returns-clause-cost
returns-clause-cost g c = omega (arith, c.loop-spot.invariant.steps, c.loop-spot.invariant.within)
