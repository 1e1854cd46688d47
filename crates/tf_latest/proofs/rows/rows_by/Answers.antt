use Rattle.std.proofs.Common.{◌≡◌, ◌+◌, ◌++◌, ◌∷◌, [], length, map, take, sym, ap, subst, ◌∙◌, arith, Some}
use Rattle.std.proofs.lemmas.List.{length-map, take_all}
use Rattle.std.proofs.lemmas.List.Elements.{All-filter}
use Rattle.std.specs.List.{filter_map}
use Rattle.std.specs.Prelude.{IfOk}
use Rattle.std.specs.Option.{option_copied}
use Rattle.tf_model.specs.Conditions.{Fits}
use Rattle.tf_model.specs.Counted.{counted, counts}
use Rattle.tf_model.specs.Latest.{latest_row}
use Rattle.tf_reader.specs.Places.{documents, doc_at, place}
use Rattle.tf_reader.proofs.Walking.{is_place, docs_more, doc_has}
use Rattle.tf_latest.specs.Newest.{AreNewest, named, newest_of}
use Rattle.tf_latest.proofs.NewestLaws.{named_newest, nothing_yet, same_many}
use Rattle.tf_latest.proofs.rows.rows_by.Goals as goal

pub loop-place-init : goal.loop-place-init
loop-place-init g c = record {
  newest = c.in_ok-found.ensures ∙ nothing_yet c.args.sources.now c.args.sort.now c.args.config.now c.as_slice-keys.result.now;
  steps = omega arith;
}

pub fetch-doc-requires : goal.fetch-doc-requires
fetch-doc-requires g c =
    let reader = c.args.reader.now in
    let docs = counted c.args.config.now c.args.high (documents reader) in
    let found : map (doc_at reader) c.as_slice-place-items.result.now ≡ map Some docs = ap (map (doc_at reader)) c.as_slice-place-items.ensures ∙ c.in_ok-places.ensures.found in
    is_place (doc_at reader) c.as_slice-place-items.result.now docs found c.loop-place.place-index (place 0 0) c.loop-place-test.true

pub add_doc-requires-clause-fits : goal.add_doc-requires-clause-fits
unfolding counted
add_doc-requires-clause-fits g c =
    let reader = c.args.reader.now in
    let docs = counted c.args.config.now c.args.high (documents reader) in
    let found : map (doc_at reader) c.as_slice-place-items.result.now ≡ map Some docs = ap (map (doc_at reader)) c.as_slice-place-items.ensures ∙ c.in_ok-places.ensures.found in
    doc_has (doc_at reader) c.as_slice-place-items.result.now docs found c.loop-place.place-index (place 0 0) c.loop-place-test.true
    (Fits c.args.config.now) (All-filter (counts c.args.config.now c.args.high) (Fits c.args.config.now) (documents reader) c.requires.docs)
    c.fetch-doc.result.now c.fetch-doc.ensures.document

pub add_doc-requires-clause-many : goal.add_doc-requires-clause-many
add_doc-requires-clause-many g c =
    same_many c.args.sources.now c.args.sort.now c.args.config.now (take c.loop-place.place-index (counted c.args.config.now c.args.high (documents c.args.reader.now))) c.as_slice-keys.result.now c.loop-place.found.items c.loop-place.invariant.newest

pub loop-place-preserved : goal.loop-place-preserved
loop-place-preserved g c =
    let inv = c.loop-place.invariant in
    let reader = c.args.reader.now in
    let config = c.args.config.now in
    let docs = counted config c.args.high (documents reader) in
    let at = c.loop-place.place-index in
    let d = c.fetch-doc.result.now in
    let found : map (doc_at reader) c.as_slice-place-items.result.now ≡ map Some docs = ap (map (doc_at reader)) c.as_slice-place-items.ensures ∙ c.in_ok-places.ensures.found in
    let more : take (at + 1) docs ≡ take at docs ++ d ∷ [] = docs_more (doc_at reader) c.as_slice-place-items.result.now docs found at (place 0 0) c.loop-place-test.true d c.fetch-doc.ensures.document in
    record {
      newest = subst (λ ds. AreNewest c.args.sources.now c.args.sort.now config ds c.as_slice-keys.result.now (map option_copied c.add_doc.new.found.items)) (sym more)
          (c.add_doc.ensures (take at docs) inv.newest);
      steps = omega (arith, c.fetch-doc.ensures.cost, inv.steps);
    }

pub named_rows-requires : goal.named_rows-requires
named_rows-requires g c = record {
  many =
      ap length c.as_slice.ensures.value
      ∙ same_many c.args.sources.now c.args.sort.now c.args.config.now (take c.loop-place.place-index (counted c.args.config.now c.args.high (documents c.args.reader.now))) c.as_slice-keys.result.now c.loop-place.found.items c.loop-place.invariant.newest;
}

pub returns-clause-rows : goal.returns-clause-rows
returns-clause-rows g c =
    let sources = c.args.sources.now in
    let config = c.args.config.now in
    let reader = c.args.reader.now in
    let docs = counted config c.args.high (documents reader) in
    let keys = c.as_slice-keys.result.now in
    let at = c.loop-place.place-index in
    let found : map (doc_at reader) c.as_slice-place-items.result.now ≡ map Some docs = ap (map (doc_at reader)) c.as_slice-place-items.ensures ∙ c.in_ok-places.ensures.found in
    let many : length c.as_slice-place-items.result.now ≡ length docs = sym (length-map c.as_slice-place-items.result.now (doc_at reader)) ∙ ap length found ∙ length-map docs Some in
    let all : take at docs ≡ docs = take_all at docs (omega (arith, many, c.loop-place-test.false)) in
    let newest : map option_copied c.as_slice.result.now ≡ map (newest_of sources c.args.sort.now config docs) keys =
    ap (map option_copied) c.as_slice.ensures.value ∙ subst (λ ds. AreNewest sources c.args.sort.now config ds keys (map option_copied c.loop-place.found.items)) all c.loop-place.invariant.newest in
    let rows : named keys (map option_copied c.as_slice.result.now) ≡ filter_map (λ k. latest_row sources config k docs) c.args.keys.now =
    ap (named keys) newest ∙ ap (λ sort. named keys (map (newest_of sources sort config docs) keys)) c.requires.sort ∙ named_newest sources config docs keys
    ∙ ap (filter_map (λ k. latest_row sources config k docs)) c.as_slice-keys.ensures in
    subst (λ made. IfOk c.named_rows.result (λ rows. rows ≡ made)) rows c.named_rows.ensures
