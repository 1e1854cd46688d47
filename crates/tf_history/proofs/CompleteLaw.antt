-- With no late document, each key's row is that over all documents below the bound.
use Rattle.std.proofs.Common.{◌≡◌, ℕ, ℤ, ◌+◌, ◌<◌, suc, Bool, true, false, cond, not, ◌&&◌, ◌||◌, List, [], ◌∷◌, ◌++◌, length, drop, Option, Some, None, arith, refl, sym, ap, ◌∙◌, subst, inl, inr}
use Rattle.std.specs.Prelude.{⊤, IfSome}
use Rattle.std.specs.List.{list_any, filter}
use Rattle.std.proofs.lemmas.List.{append-nil}
use Rattle.std.proofs.lemmas.List.Elements.{filter-append}
use Rattle.tf_history.specs.Grouping.{has_key, is_below, is_from, counts, counted, row_of, stays, scratch, all_keys, row_if_any, row_at, keep}
use Rattle.tf_model.specs.Keys.{is_among}
use Rattle.tf_history.specs.Lives.{Checkpoint, Life, Act, act, life, life_after, documents, written, from_sources, cutoff, changed, window, last_bound, next_bound, last_row, is_under, is_late}
use Rattle.tf_model.specs.Changed.{is_after}
use Rattle.tf_model.specs.Bounds.{risen}
use Rattle.tf_history.specs.Grouping.{from_bound}
use Rattle.tf_history.specs.Lives.Act.{Aside, Opens, Reopens, Closes, Writes, Begins, Pages, Finishes, Turns}
use Rattle.tf_history.specs.Legality.{IsLegal}
use Rattle.tf_history.proofs.Lists.{any_filter}
use Rattle.tf_history.proofs.Keys.{sorted, IsAscending, ascending-all_keys, is_among-all_keys}
use Rattle.tf_history.proofs.Rows.{keys_in, row_at_keep, ascending_keep, ascending_made, row_at_made, same_rows}
use Rattle.tf_history.proofs.Counting.{keyed, row_if_any-same, same_counted}
use Rattle.tf_history.specs.Laws.{IsSound, FinishedIsScratch, RowsAscend, RowsWhenIdle, RowsWhenRunning}
use Rattle.tf_history.proofs.Acts.{may_act, act_writes, documents_act}
use Rattle.tf_history.specs.Acts.{MayAct}
use Rattle.tf_history.proofs.RowsLaw.{RowsHold, LifeRowsHold, rows_hold}
use Rattle.tf_history.specs.Events.{Event}
use Rattle.tf_history.specs.Meaning.{Meaning}
use Rattle.tf_model.specs.declared.doc.Doc.{Doc}
use Rattle.tf_model.specs.declared.entry.Row.{Row}
use Rattle.tf_model.specs.declared.value.Key.{Key}

abbrev pub IsComplete : Meaning → List Checkpoint → List Doc → Type 0
IsComplete c [] docs = ⊤
IsComplete c (b ∷ before) docs = (k : Key) → last_row c (b ∷ before) k ≡ row_if_any c (counted c b.bound docs) k

abbrev pub HasBound : List Checkpoint → Type 0
HasBound [] = ⊤
HasBound (b ∷ before) = (x : ℤ) × (b.bound ≡ Some x)

-- docs are all documents written
pub record LifeComplete (l : Life) (docs : List Doc) : Type 0 where
  pub bounded : l.meaning.is_batch ≡ false → HasBound l.checkpoints
  pub complete : l.meaning.is_batch ≡ false → l.meaning.includes_late ≡ false → l.late ≡ 0 → IsComplete l.meaning l.checkpoints (from_sources l.meaning docs)

-- ---- a write that is not late
not_counted : (source m under others below : Bool) → under ≡ below → (source && (m && (under || others))) ≡ false → source ≡ true → (m && below) ≡ false
not_counted true true true others below e f g = absurd (let z : true ≡ false = f in cc)
not_counted true true false others below e f g = sym e
not_counted true false under others below e f g = refl
not_counted false m under others below e f g = absurd (let z : false ≡ true = g in cc)

under_is_below : (bound value : Option ℤ) (x : ℤ) → bound ≡ Some x → is_under bound value ≡ is_below bound value
under_is_below None value x e = absurd (let z : ◌≡◌ {A = Option ℤ} None (Some x) = e in cc)
under_is_below (Some y) value x e = refl

counted_still : (c : Meaning) (b : Checkpoint) (before : List Checkpoint) (docs : List Doc) (d : Doc) (x : ℤ) → b.bound ≡ Some x
    → is_late c (b ∷ before) d ≡ false → counted c b.bound (from_sources c (docs ++ d ∷ [])) ≡ counted c b.bound (from_sources c docs)
counted_still c b before docs d x bounded late =
    ap (λ ds. counted c b.bound ds) (filter-append (λ e. c.is_source e.index) docs (d ∷ []))
    ∙ (filter-append (counts c b.bound) (from_sources c docs) (from_sources c (d ∷ []))
    ∙ (ap (λ ds. counted c b.bound (from_sources c docs) ++ ds) (one (c.is_source d.index) refl) ∙ append-nil _))
  where
    one : (s : Bool) → c.is_source d.index ≡ s → filter (counts c b.bound) (cond s (d ∷ []) []) ≡ []
    one true e = ap (λ t. cond t (d ∷ []) []) (not_counted (c.is_source d.index) (c.matches d) (is_under b.bound (c.sync d)) _ (is_below b.bound (c.sync d)) (under_is_below b.bound (c.sync d) x bounded) late e)
    one false e = refl

written_complete : (c : Meaning) (checkpoints : List Checkpoint) (docs : List Doc) (d : Doc) → HasBound checkpoints → is_late c checkpoints d ≡ false
    → IsComplete c checkpoints (from_sources c docs) → IsComplete c checkpoints (from_sources c (docs ++ d ∷ []))
written_complete c [] docs d bounded late h = tt
written_complete c (b ∷ before) docs d bounded late h =
    λ k. h k ∙ ap (λ ds. row_if_any c ds k) (sym (counted_still c b before docs d bounded.0 bounded.1 late))

no_more : (b : Bool) (n : ℕ) → cond b (n + 1) n ≡ 0 → (b ≡ false) × (n ≡ 0)
no_more true n e = absurd (omega arith)
no_more false n e = (refl, e)

-- ---- a Begin
pub window_is : (c : Meaning) (b a : Checkpoint) (before : List Checkpoint) → c.includes_late ≡ false
    → window c (b ∷ a ∷ before) ≡ from_bound c a.bound (counted c b.bound b.read)
window_is c b a before ignores =
    ap (λ t. cond t (from_bound c a.bound (counted c b.bound a.read) ++ counted c b.bound (drop (length a.read) b.read)) (from_bound c a.bound (counted c b.bound b.read))) ignores

begun_complete : (c : Meaning) (b : Checkpoint) (checkpoints : List Checkpoint) → c.includes_late ≡ false → HasBound checkpoints → (y : ℤ)
    → b.bound ≡ Some (risen (last_bound checkpoints) y) → IsComplete c checkpoints b.read → IsComplete c (b ∷ checkpoints) b.read
begun_complete c b [] ignores bounded y next h k = ap (λ t. cond t (row_of c (counted c b.bound b.read) k) None) (is_among-all_keys c k (counted c b.bound b.read))
begun_complete c b (a ∷ before) ignores bounded y next h k =
    ap (λ o. cond (is_among (changed c (b ∷ a ∷ before)) k) (row_of c (counted c b.bound b.read) k) o) (h k)
    ∙ by_change (is_among (changed c (b ∷ a ∷ before)) k) refl
  where
    by_change : (t : Bool) → is_among (changed c (b ∷ a ∷ before)) k ≡ t
        → cond t (row_of c (counted c b.bound b.read) k) (row_if_any c (counted c a.bound b.read) k) ≡ row_if_any c (counted c b.bound b.read) k
    by_change true e = ap (λ t. cond t (row_of c (counted c b.bound b.read) k) None) (sym (any_filter (has_key c k) (λ d. is_from a.bound (c.sync d)) (counted c b.bound b.read) (sym (ap (list_any (has_key c k)) (window_is c b a before ignores)) ∙ (sym (is_among-all_keys c k (window c (b ∷ a ∷ before))) ∙ e))))
    by_change false e = sym (row_if_any-same c k (counted c b.bound b.read) (counted c a.bound b.read)
        (same_counted c k a.bound b.bound bounded.0 y bounded.1 next b.read (sym (ap (list_any (has_key c k)) (window_is c b a before ignores)) ∙ (sym (is_among-all_keys c k (window c (b ∷ a ∷ before))) ∙ e))))

pub continuous_next : (c : Meaning) (o : Option ℤ) (moment : ℤ) → c.is_batch ≡ false → next_bound c o moment ≡ Some (risen o (c.aligned moment))
continuous_next c o moment e = ap (λ b. cond b None (Some (risen o (c.aligned moment)))) e

-- ---- over the history
same_documents : (l : Life) (docs now : List Doc) → now ≡ docs ++ [] → LifeComplete l docs → LifeComplete l now
same_documents l docs now e h = subst (λ ds. LifeComplete l ds) (sym (e ∙ append-nil docs)) h

pub step : (docs now : List Doc) (a : Act) (o : Option Life) → now ≡ docs ++ act_writes a → MayAct a o → IfSome o (λ l. LifeComplete l docs)
    → IfSome (life_after docs a o) (λ l. LifeComplete l now)
step docs now (Opens c) o e m h = record { bounded = λ _. tt; complete = λ _ _ _. tt }
step docs now Reopens None e m h = tt
step docs now Reopens (Some l) e m h = record { bounded = λ _. tt; complete = λ _ _ _. tt }
step docs now Closes o e m h = tt
step docs now Aside None e m h = tt
step docs now Aside (Some l) e m h = same_documents l docs now e h
step docs now (Turns turn) None e m h = tt
step docs now (Turns turn) (Some l) e m h = let g = same_documents l docs now e h in record { bounded = g.bounded; complete = g.complete }
step docs now (Writes d) None e m h = tt
step docs now (Writes d) (Some l) e m h =
    record {
      bounded = h.bounded;
      complete = λ f i z. let both = no_more (is_late l.meaning l.checkpoints d) l.late z in
          subst (λ ds. IsComplete l.meaning l.checkpoints (from_sources l.meaning ds)) (sym e) (written_complete l.meaning l.checkpoints docs d (h.bounded f) both.0 (h.complete f i both.1));
    }
step docs now (Begins n bound moment) None e m h = tt
step docs now (Begins n bound moment) (Some l) e m h =
    record {
      bounded = λ f. (risen (last_bound l.checkpoints) (l.meaning.aligned moment), m.bound_is ∙ continuous_next l.meaning (last_bound l.checkpoints) moment f);
      complete = λ f i z. subst (λ ds. IsComplete l.meaning (record { bound = bound; moment = moment; read = from_sources l.meaning docs; late = l.late } ∷ l.checkpoints) (from_sources l.meaning ds)) (sym (e ∙ append-nil docs))
          (begun_complete l.meaning (record { bound = bound; moment = moment; read = from_sources l.meaning docs; late = l.late }) l.checkpoints i (h.bounded f) (l.meaning.aligned moment) (m.bound_is ∙ continuous_next l.meaning (last_bound l.checkpoints) moment f) (h.complete f i z));
    }
step docs now (Pages n rows) None e m h = tt
step docs now (Pages n rows) (Some l) e m h = let g = same_documents l docs now e h in record { bounded = g.bounded; complete = g.complete }
step docs now (Finishes n) None e m h = tt
step docs now (Finishes n) (Some l) e m h = let g = same_documents l docs now e h in record { bounded = g.bounded; complete = g.complete }

pub complete_hold : (t : List ℕ) (past : List Event) → IsLegal past → IfSome (life t past) (λ l. LifeComplete l (documents past))
complete_hold t [] legal = tt
complete_hold t (e ∷ past) legal =
    step (documents past) (documents (e ∷ past)) (act t e) (life t past) (documents_act t e past) (may_act t e past legal.1) (complete_hold t past legal.0)

-- ---- the grouping from scratch
row_at-scratch : (c : Meaning) (bound cut : Option ℤ) (docs : List Doc) (k : Key)
    → row_at k (scratch c bound cut docs) ≡ keep (stays c docs cut) (row_if_any c (counted c bound docs) k)
row_at-scratch c bound cut docs k =
    row_at_keep (stays c docs cut) k _ (ascending_made (row_of c (counted c bound docs)) (keyed c (counted c bound docs)) (all_keys c (counted c bound docs)) (ascending-all_keys c (counted c bound docs)))
    ∙ ap (keep (stays c docs cut)) (row_at_made (row_of c (counted c bound docs)) (keyed c (counted c bound docs)) k (all_keys c (counted c bound docs)) (ascending-all_keys c (counted c bound docs))
    ∙ ap (λ b. cond b (row_of c (counted c bound docs) k) None) (is_among-all_keys c k (counted c bound docs)))

ascending-scratch : (c : Meaning) (bound cut : Option ℤ) (docs : List Doc) → IsAscending (keys_in (scratch c bound cut docs))
ascending-scratch c bound cut docs = ascending_keep (stays c docs cut) _ (ascending_made (row_of c (counted c bound docs)) (keyed c (counted c bound docs)) (all_keys c (counted c bound docs)) (ascending-all_keys c (counted c bound docs)))

-- ---- the laws
pub held : (past : List Event) (t : List ℕ) (l : Life) → IsSound past t l
    → RowsHold l.meaning (written l.meaning past) l.checkpoints l.finished l.position l.rows
held past t l sound = subst (λ o. IfSome o (LifeRowsHold (documents past))) sound.is (rows_hold t past sound.legal sound.right) sound.steady

idle_each : (c : Meaning) (docs : List Doc) (checkpoints : List Checkpoint) (finished : ℕ) (position : Option Key) (rows : List Row)
    → finished ≡ length checkpoints → RowsHold c docs checkpoints finished position rows → (k : Key)
    → row_at k rows ≡ keep (stays c docs (cutoff c checkpoints)) (last_row c checkpoints k)
idle_each c docs [] finished position rows idle h k = elim h.phase [ inl i ↦ i.each k | inr r ↦ absurd r ]
idle_each c docs (b ∷ before) finished position rows idle h k = elim h.phase [ inl i ↦ i.each k | inr r ↦ absurd (let z = r.count in omega arith) ]

pub rows_ascend : RowsAscend
rows_ascend past t l sound = sorted (keys_in l.rows) (held past t l sound).ascending

pub rows_when_idle : RowsWhenIdle
rows_when_idle past t l sound idle k = idle_each l.meaning (written l.meaning past) l.checkpoints l.finished l.position l.rows idle (held past t l sound) k

running_each : (c : Meaning) (docs : List Doc) (b : Checkpoint) (before : List Checkpoint) (finished : ℕ) (position : Option Key) (rows : List Row)
    → suc finished ≡ length (b ∷ before) → RowsHold c docs (b ∷ before) finished position rows → (k : Key)
    → row_at k rows ≡ cond (is_among (changed c (b ∷ before)) k && not (is_after position k)) (row_of c (counted c b.bound b.read) k) (keep (stays c docs (cutoff c before)) (last_row c before k))
running_each c docs b before finished position rows count h k = elim h.phase [ inl i ↦ absurd (let z = i.count in omega arith) | inr r ↦ r.each k ]

pub rows_when_running : RowsWhenRunning
rows_when_running past t l b before sound newest running k =
    running_each l.meaning (written l.meaning past) b before l.finished l.position l.rows (running ∙ ap length newest) (subst (λ (cs : List Checkpoint). RowsHold l.meaning (written l.meaning past) cs l.finished l.position l.rows) newest (held past t l sound)) k
    ∙ ap (λ (cs : List Checkpoint). cond (is_among (changed l.meaning cs) k && not (is_after l.position k)) (row_of l.meaning (counted l.meaning b.bound b.read) k) (keep (stays l.meaning (written l.meaning past) (cutoff l.meaning before)) (last_row l.meaning before k))) (sym newest)

complete_each : (c : Meaning) (checkpoints : List Checkpoint) (docs : List Doc) → 0 < length checkpoints → IsComplete c checkpoints docs → (k : Key)
    → last_row c checkpoints k ≡ row_if_any c (counted c (last_bound checkpoints) docs) k
complete_each c [] docs some h k = absurd (omega arith)
complete_each c (b ∷ before) docs some h k = h k

-- rows that ascend and have at each key what the grouping has are the grouping
pub is_scratch : (c : Meaning) (bound cut : Option ℤ) (docs : List Doc) (rows : List Row) → IsAscending (keys_in rows)
    → ((k : Key) → row_at k rows ≡ keep (stays c docs cut) (row_if_any c (counted c bound docs) k)) → rows ≡ scratch c bound cut docs
is_scratch c bound cut docs rows ascending each = same_rows rows (scratch c bound cut docs) ascending (ascending-scratch c bound cut docs) (λ k. each k ∙ sym (row_at-scratch c bound cut docs k))

pub finished_is_scratch : FinishedIsScratch
finished_is_scratch past t l sound idle some continuous ignores none =
    let whole : LifeComplete l (documents past) = subst (λ o. IfSome o (λ m. LifeComplete m (documents past))) sound.is (complete_hold t past sound.legal) in
    is_scratch l.meaning (last_bound l.checkpoints) (cutoff l.meaning l.checkpoints) (written l.meaning past) l.rows (held past t l sound).ascending
    (λ k. rows_when_idle past t l sound idle k
    ∙ ap (keep (stays l.meaning (written l.meaning past) (cutoff l.meaning l.checkpoints))) (complete_each l.meaning l.checkpoints (written l.meaning past) (omega arith) (whole.complete continuous ignores none) k))
