-- Entries that are prepared one after the other.
use Rattle.std.proofs.Common.{◌≡◌, List, [], ◌∷◌, ◌++◌, refl, sym, ap, ◌∙◌, subst, append-nil}
use Rattle.tf_model.specs.declared.entry.Entry.{Entry}
use Rattle.tf_history.specs.Catalogue.{SourceIndex, makes}
use Rattle.tf_core.specs.declared.ready.Prepared.{Prepared}
use Rattle.tf_core.specs.declared.ready.Step.{Step}
use Rattle.tf_core.specs.declared.ready.Step.TheVariants as step
use Rattle.tf_core.specs.Chain.{AreSteps, IsPlaced, Paged, PutHas, PutsHave, all_added, all_paged, entries_in, paged}
use Rattle.tf_core.specs.Kept.{entry_of}
use Rattle.tf_core.specs.Made.{IsPreparedFor, page_of, pages_of}
use Rattle.tf_core.specs.Preparing.{AllFit}
use Rattle.tf_core.specs.Steps.{IsStep, added}
use Rattle.tf_core.proofs.RowRoom.{all_append, all_behind, all_front}

append_assoc : {X : Type 0} (xs ys zs : List X) → (xs ++ ys) ++ zs ≡ xs ++ (ys ++ zs)
append_assoc [] ys zs = refl
append_assoc (x ∷ xs) ys zs = ap (λ ws. x ∷ ws) (append_assoc xs ys zs)

entries_more : (steps : List Prepared) (p : Prepared) (rest : List Entry) → entries_in (steps ++ p ∷ []) ++ rest ≡ entries_in steps ++ entry_of p.kept ∷ rest
entries_more [] p rest = refl
entries_more (x ∷ steps) p rest = ap (λ es. entry_of x.kept ∷ es) (entries_more steps p rest)

steps_more : (indices : List SourceIndex) (steps : List Prepared) (p : Prepared) → AreSteps indices steps → IsStep (indices ++ all_added steps) (entry_of p.kept) p.step → AreSteps indices (steps ++ p ∷ [])
steps_more indices [] p h is = (subst (λ ss. IsStep ss (entry_of p.kept) p.step) (append-nil indices) is, tt)
steps_more indices (x ∷ steps) p h is =
    (h.0, steps_more (indices ++ added x.step) steps p h.1 (subst (λ ss. IsStep ss (entry_of p.kept) p.step) (sym (append_assoc indices (added x.step) (all_added steps))) is))

paged_more : (steps : List Prepared) (p : Prepared) → all_paged (steps ++ p ∷ []) ≡ all_paged steps ++ paged p.step
paged_more [] p = append-nil (paged p.step)
paged_more (x ∷ steps) p = ap (λ pages. paged x.step ++ pages) (paged_more steps p) ∙ sym (append_assoc (paged x.step) (all_paged steps) (paged p.step))

-- the Page that comes next stands behind the others
page_moves : (s : Step) (before more next : List Paged) → PutHas (before ++ (more ++ next)) s → PutHas ((before ++ next) ++ more) s
page_moves (step.Index index) before more next h = tt
page_moves (step.Write doc) before more next h = tt
page_moves (step.Put t) before more next h =
    let P = IsPlaced t.id t.rows.places in
    let behind = all_behind P before (more ++ next) h in
    all_append P (before ++ next) more (all_append P before next (all_front P before (more ++ next) h) (all_behind P more next behind)) (all_front P more next behind)
page_moves (step.Delete id) before more next h = tt
page_moves (step.Change id by) before more next h = tt

puts_more : (steps : List Prepared) (p : Prepared) (more : List Paged) → PutsHave steps (more ++ paged p.step) → PutHas more p.step → PutsHave (steps ++ p ∷ []) more
puts_more [] p more h has = (has, tt)
puts_more (x ∷ steps) p more h has = (
  subst (λ pages. PutHas (pages ++ more) x.step) (sym (paged_more steps p)) (page_moves x.step (all_paged steps) more (paged p.step) h.0),
  puts_more steps p more h.1 has,
)

pages_more : (entries : List Entry) (e : Entry) → pages_of (entries ++ e ∷ []) ≡ pages_of entries ++ page_of e.kind
pages_more [] e = append-nil (page_of e.kind)
pages_more (x ∷ entries) e = ap (λ pages. page_of x.kind ++ pages) (pages_more entries e) ∙ sym (append_assoc (page_of x.kind) (pages_of entries) (page_of e.kind))

added_more : (steps : List Prepared) (p : Prepared) → all_added (steps ++ p ∷ []) ≡ all_added steps ++ added p.step
added_more [] p = append-nil (added p.step)
added_more (x ∷ steps) p = ap (λ ss. added x.step ++ ss) (added_more steps p) ∙ sym (append_assoc (added x.step) (all_added steps) (added p.step))

module _ (indices : List SourceIndex) (behind : List Entry) (steps now : List Prepared) (p : Prepared) (e : Entry) (more : now ≡ steps ++ p ∷ []) (h : IsPreparedFor (indices ++ all_added steps) (pages_of behind) e p) where
  pub same_more : (rest : List Entry) → entries_in now ++ rest ≡ entries_in steps ++ e ∷ rest
  same_more rest = ap (λ xs. entries_in xs ++ rest) more ∙ (entries_more steps p rest ∙ ap (λ x. entries_in steps ++ x ∷ rest) h.entry)

  pub chain_more : AreSteps indices steps → AreSteps indices now
  chain_more chain = subst (AreSteps indices) (sym more) (steps_more indices steps p chain (subst (λ x. IsStep (indices ++ all_added steps) x p.step) (sym h.entry) h.step.step))

  pub fit_more : (rest : List Entry) → AllFit ((indices ++ all_added steps) ++ makes e.kind) rest → AllFit (indices ++ all_added now) rest
  fit_more rest fit =
      subst (λ ss. AllFit ss rest)
      (ap (λ ss. (indices ++ all_added steps) ++ ss) h.step.step.makes_is
      ∙ (append_assoc indices (all_added steps) (added p.step) ∙ ap (λ ss. indices ++ ss) (sym (added_more steps p) ∙ ap all_added (sym more))))
      fit

  -- the Pages that were to come are those behind it and its own
  pub put_rows_more : (old : List Entry) → old ≡ behind ++ e ∷ [] → PutsHave steps (pages_of old) → PutsHave now (pages_of behind)
  put_rows_more old is puts =
      let here : pages_of old ≡ pages_of behind ++ paged p.step = ap pages_of is ∙ (pages_more behind e ∙ ap (λ page. pages_of behind ++ page) (sym h.step.page)) in
      subst (λ xs. PutsHave xs (pages_of behind)) (sym more) (puts_more steps p (pages_of behind) (subst (PutsHave steps) here puts) h.step.has)
