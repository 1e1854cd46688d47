use Rattle.std.proofs.Common.{◌≡◌, ◌+◌, ◌++◌, [], ◌∷◌, map, take, sym, ap, subst, ◌∙◌, arith}
use Rattle.std.proofs.lemmas.List.{take_all}
use Rattle.std.proofs.lemmas.List.Elements.{All-filter}
use Rattle.std.specs.Prelude.{Some}
use Rattle.std.specs.Option.{option_copied}
use Rattle.tf_model.specs.Conditions.{Fits}
use Rattle.tf_model.specs.Counted.{counted, counts}
use Rattle.tf_reader.specs.Places.{documents, doc_at, place}
use Rattle.tf_reader.proofs.Walking.{as_many, is_place, docs_more, doc_has}
use Rattle.tf_plan.specs.Newest.{AreNewest, newest_at}
use Rattle.tf_plan.proofs.NewestLaws.{grows_more}
use Rattle.tf_plan.proofs.scanning.counted_newest.Goals as goal

pub fetch-doc-requires : goal.fetch-doc-requires
fetch-doc-requires g c =
    let reader = c.args.reader.now in
    let docs = counted c.args.config.now c.args.high (documents reader) in
    let found : map (doc_at reader) c.as_slice-place-items.result.now ≡ map Some docs = ap (map (doc_at reader)) c.as_slice-place-items.ensures ∙ c.in_ok-places.ensures.found in
    is_place (doc_at reader) c.as_slice-place-items.result.now docs found c.loop-place.place-index (place 0 0) c.loop-place-test.true

pub grow_with-requires-clause-fits : goal.grow_with-requires-clause-fits
unfolding counted
grow_with-requires-clause-fits g c =
    let reader = c.args.reader.now in
    let docs = counted c.args.config.now c.args.high (documents reader) in
    let found : map (doc_at reader) c.as_slice-place-items.result.now ≡ map Some docs = ap (map (doc_at reader)) c.as_slice-place-items.ensures ∙ c.in_ok-places.ensures.found in
    doc_has (doc_at reader) c.as_slice-place-items.result.now docs found c.loop-place.place-index (place 0 0) c.loop-place-test.true
    (Fits c.args.config.now) (All-filter (counts c.args.config.now c.args.high) (Fits c.args.config.now) (documents reader) c.requires.docs)
    c.fetch-doc.result.now c.fetch-doc.ensures.document

pub loop-place-preserved : goal.loop-place-preserved
loop-place-preserved g c =
    let inv = c.loop-place.invariant in
    let reader = c.args.reader.now in
    let config = c.args.config.now in
    let after = option_copied c.args.after in
    let docs = counted config c.args.high (documents reader) in
    let at = c.loop-place.place-index in
    let d = c.fetch-doc.result.now in
    let found : map (doc_at reader) c.as_slice-place-items.result.now ≡ map Some docs = ap (map (doc_at reader)) c.as_slice-place-items.ensures ∙ c.in_ok-places.ensures.found in
    let more : take (at + 1) docs ≡ take at docs ++ d ∷ [] = docs_more (doc_at reader) c.as_slice-place-items.result.now docs found at (place 0 0) c.loop-place-test.true d c.fetch-doc.ensures.document in
    record {
      newest = subst (λ ds. AreNewest c.args.sources.now c.args.sort.now config after ds ds (newest_at c.grow_with.new.newest.entries)) (sym more)
          (grows_more c.args.sources.now c.args.sort.now config after d (newest_at c.loop-place.newest.entries) (newest_at c.grow_with.new.newest.entries) (take at docs) c.in_ok-grow_with.ensures inv.newest);
      steps = omega (arith, c.fetch-doc.ensures.cost, inv.steps);
    }

pub returns-clause-newest : goal.returns-clause-newest
returns-clause-newest g c =
    let reader = c.args.reader.now in
    let docs = counted c.args.config.now c.args.high (documents reader) in
    let found : map (doc_at reader) c.as_slice-place-items.result.now ≡ map Some docs = ap (map (doc_at reader)) c.as_slice-place-items.ensures ∙ c.in_ok-places.ensures.found in
    let whole : take c.loop-place.place-index docs ≡ docs = take_all c.loop-place.place-index docs (let n = as_many (doc_at reader) c.as_slice-place-items.result.now docs found in omega (arith, n, c.loop-place-test.false)) in
    subst (λ ds. AreNewest c.args.sources.now c.args.sort.now c.args.config.now (option_copied c.args.after) ds ds (newest_at c.loop-place.newest.entries)) whole c.loop-place.invariant.newest
