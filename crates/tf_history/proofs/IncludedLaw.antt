-- Where late documents are included each row is over the documents that were read last.
use Rattle.std.proofs.Common.{◌≡◌, ℤ, ◌<◌, Bool, true, false, cond, ◌||◌, List, [], ◌∷◌, ◌++◌, length, drop, Option, Some, None, arith, refl, sym, ap, ◌∙◌, subst}
use Rattle.std.specs.Prelude.{⊤, IfSome}
use Rattle.std.specs.List.{list_any, filter}
use Rattle.std.proofs.lemmas.List.{append-nil, drop_at}
use Rattle.std.proofs.lemmas.List.Elements.{filter-append}
use Rattle.tf_history.specs.Grouping.{has_key, is_from, counts, counted, row_of, stays, row_if_any, keep}
use Rattle.tf_model.specs.Keys.{is_among}
use Rattle.tf_history.specs.Lives.{Checkpoint, Life, documents, written, writes, cutoff, changed, window, last_row, last_bound, read_last}
use Rattle.tf_model.specs.Bounds.{risen}
use Rattle.tf_history.specs.Grouping.{from_bound}
use Rattle.tf_history.specs.Lives.Act.{Aside, Writes, Begins, Pages, Finishes, Turns}
use Rattle.tf_history.specs.Legality.{IsRight}
use Rattle.tf_history.specs.Laws.{IsSteady, IncludedIsScratch}
use Rattle.tf_history.proofs.Lists.{any_filter, any-append, filter_none}
use Rattle.tf_history.proofs.Keys.{is_among-all_keys}
use Rattle.tf_history.proofs.Counting.{row_if_any-same, same_counted, keep_same}
use Rattle.tf_history.proofs.CompleteLaw.{HasBound, LifeComplete, step, continuous_next, rows_when_idle, is_scratch, held}
use Rattle.tf_history.proofs.ReadsLaw.{AllBegin, ReadsHold, kept as reads_kept}
use Rattle.tf_history.proofs.Induction.{IsKept, holds, right_known}
use Rattle.tf_history.specs.Events.{Event}
use Rattle.tf_history.specs.Meaning.{Meaning}
use Rattle.tf_model.specs.declared.doc.Doc.{Doc}
use Rattle.tf_model.specs.declared.entry.Row.{Row}
use Rattle.tf_model.specs.declared.value.Key.{Key}

abbrev IsOwn : Meaning → List Checkpoint → Type 0
IsOwn c [] = ⊤
IsOwn c (b ∷ before) = (k : Key) → last_row c (b ∷ before) k ≡ row_if_any c (counted c b.bound b.read) k

begun_own : (c : Meaning) (b : Checkpoint) (checkpoints : List Checkpoint) → c.includes_late ≡ true → HasBound checkpoints → (y : ℤ)
    → b.bound ≡ Some (risen (last_bound checkpoints) y) → AllBegin checkpoints b.read → IsOwn c checkpoints → IsOwn c (b ∷ checkpoints)
begun_own c b [] includes bounded y next reads h = λ k. ap (λ t. cond t (row_of c (counted c b.bound b.read) k) None) (is_among-all_keys c k (counted c b.bound b.read))
begun_own c b (a ∷ before) includes bounded y next reads h = λ k.
    ap (λ o. cond (is_among (changed c (b ∷ a ∷ before)) k) (row_of c (counted c b.bound b.read) k) o) (h k)
    ∙ by_change k (is_among (changed c (b ∷ a ∷ before)) k) refl
  where
    counted_parts : counted c b.bound b.read ≡ counted c b.bound a.read ++ counted c b.bound reads.0.0
    counted_parts = ap (counted c b.bound) reads.0.1 ∙ filter-append (counts c b.bound) a.read reads.0.0

    window_is : window c (b ∷ a ∷ before) ≡ from_bound c a.bound (counted c b.bound a.read) ++ counted c b.bound reads.0.0
    window_is =
        ap (λ t. cond t (from_bound c a.bound (counted c b.bound a.read) ++ counted c b.bound (drop (length a.read) b.read)) (from_bound c a.bound (counted c b.bound b.read))) includes
        ∙ ap (λ ds. from_bound c a.bound (counted c b.bound a.read) ++ counted c b.bound ds) (ap (drop (length a.read)) reads.0.1 ∙ drop_at a.read reads.0.0 (length a.read) refl)

    parts : (k : Key)
        → is_among (changed c (b ∷ a ∷ before)) k ≡ (list_any (has_key c k) (from_bound c a.bound (counted c b.bound a.read)) || list_any (has_key c k) (counted c b.bound reads.0.0))
    parts k = is_among-all_keys c k (window c (b ∷ a ∷ before)) ∙ (ap (list_any (has_key c k)) window_is ∙ any-append (has_key c k) (from_bound c a.bound (counted c b.bound a.read)) (counted c b.bound reads.0.0))

    weaken : (p q r : Bool) → (p ≡ true → r ≡ true) → (p || q) ≡ true → (r || q) ≡ true
    weaken true q r f e = ap (λ t. t || q) (f refl)
    weaken false true true f e = refl
    weaken false true false f e = refl
    weaken false false r f e = absurd (let z : false ≡ true = e in cc)

    neither : (p q : Bool) → (p || q) ≡ false → (p ≡ false) × (q ≡ false)
    neither true q e = absurd (let z : true ≡ false = e in cc)
    neither false q e = (refl, e)

    by_change : (k : Key) (t : Bool) → is_among (changed c (b ∷ a ∷ before)) k ≡ t
        → cond t (row_of c (counted c b.bound b.read) k) (row_if_any c (counted c a.bound a.read) k) ≡ row_if_any c (counted c b.bound b.read) k
    by_change k true e =
        let some : list_any (has_key c k) (counted c b.bound b.read) ≡ true =
        ap (list_any (has_key c k)) counted_parts ∙ (any-append (has_key c k) (counted c b.bound a.read) (counted c b.bound reads.0.0)
        ∙ weaken (list_any (has_key c k) (from_bound c a.bound (counted c b.bound a.read))) (list_any (has_key c k) (counted c b.bound reads.0.0)) (list_any (has_key c k) (counted c b.bound a.read)) (any_filter (has_key c k) (λ d. is_from a.bound (c.sync d)) (counted c b.bound a.read)) (sym (parts k) ∙ e)) in
        ap (λ t. cond t (row_of c (counted c b.bound b.read) k) None) (sym some)
    by_change k false e =
        let none = neither (list_any (has_key c k) (from_bound c a.bound (counted c b.bound a.read))) (list_any (has_key c k) (counted c b.bound reads.0.0)) (sym (parts k) ∙ e) in
        let same : filter (has_key c k) (counted c b.bound a.read) ≡ filter (has_key c k) (counted c a.bound a.read) =
        same_counted c k a.bound b.bound bounded.0 y bounded.1 next a.read none.0 in
        sym (row_if_any-same c k (counted c b.bound b.read) (counted c a.bound a.read)
        (ap (filter (has_key c k)) counted_parts ∙ (filter-append (has_key c k) (counted c b.bound a.read) (counted c b.bound reads.0.0)
        ∙ (ap (λ ds. filter (has_key c k) (counted c b.bound a.read) ++ ds) (filter_none (has_key c k) (counted c b.bound reads.0.0) none.1) ∙ (append-nil _ ∙ same)))))

record OwnHold (past : List Event) (l : Life) : Type 0 where
  reads : ReadsHold past l
  whole : LifeComplete l (documents past)
  own : l.meaning.is_batch ≡ false → l.meaning.includes_late ≡ true → IsOwn l.meaning l.checkpoints

kept : IsKept IsRight OwnHold
kept = record {
  opened = λ past moment deed c. record { reads = reads_kept.opened past moment deed c; whole = record { bounded = λ _. tt; complete = λ _ _ _. tt }; own = λ _ _. tt };
  aside = λ past moment deed l legal none h. record { reads = reads_kept.aside past moment deed l legal none h.reads; whole = step (documents past) (documents past ++ writes deed) Aside (Some l) (ap (λ ds. documents past ++ ds) none) tt h.whole; own = h.own };
  turned = λ past moment deed turn l legal none h. record { reads = reads_kept.turned past moment deed turn l legal none h.reads; whole = step (documents past) (documents past ++ writes deed) (Turns turn) (Some l) (ap (λ ds. documents past ++ ds) none) tt h.whole; own = h.own };
  wrote = λ past moment d l legal h. record { reads = reads_kept.wrote past moment d l legal h.reads; whole = step (documents past) (documents past ++ d ∷ []) (Writes d) (Some l) refl tt h.whole; own = h.own };
  begun = λ past moment id n bound l legal m h. record {
    reads = reads_kept.begun past moment id n bound l legal m h.reads;
    whole = step (documents past) (documents past ++ []) (Begins n bound moment) (Some l) refl m h.whole;
    own = λ f i. begun_own l.meaning (record { bound = bound; moment = moment; read = written l.meaning past; late = l.late }) l.checkpoints i (h.whole.bounded f) (l.meaning.aligned moment) (m.bound_is ∙ continuous_next l.meaning (last_bound l.checkpoints) moment f) h.reads.reads (h.own f i);
  };
  paged = λ past moment id n rows l legal m r h. record { reads = reads_kept.paged past moment id n rows l legal m tt h.reads; whole = step (documents past) (documents past ++ []) (Pages n rows) (Some l) refl m h.whole; own = h.own };
  done = λ past moment id n l legal m h. record { reads = reads_kept.done past moment id n l legal m h.reads; whole = step (documents past) (documents past ++ []) (Finishes n) (Some l) refl m h.whole; own = h.own };
}

own_each : (c : Meaning) (checkpoints : List Checkpoint) → 0 < length checkpoints → IsOwn c checkpoints → (k : Key)
    → last_row c checkpoints k ≡ row_if_any c (counted c (last_bound checkpoints) (read_last checkpoints)) k
own_each c [] some h k = absurd (omega arith)
own_each c (b ∷ before) some h k = h k

steady : (c : Meaning) → IsSteady c → (checkpoints : List Checkpoint) (docs : List Doc) → 0 < length checkpoints → AllBegin checkpoints docs
    → (k : Key) (cut : Option ℤ)
    → keep (stays c docs cut) (row_if_any c (counted c (last_bound checkpoints) (read_last checkpoints)) k) ≡ keep (stays c (read_last checkpoints) cut) (row_if_any c (counted c (last_bound checkpoints) (read_last checkpoints)) k)
steady c s [] docs some reads k cut = absurd (omega arith)
steady c s (b ∷ before) docs some reads k cut = sym (keep_same c b.read docs cut (row_if_any c (counted c b.bound b.read) k) (λ r e. one (list_any (has_key c k) (counted c b.bound b.read)) r e))
  where
    one : (t : Bool) (r : Row) → cond t (row_of c (counted c b.bound b.read) k) None ≡ Some r → c.retained docs r ≡ c.retained b.read r
    one true r e = ap (λ ds. c.retained ds r) reads.0.1 ∙ s b.read reads.0.0 b.bound k r e
    one false r e = absurd (let z : ◌≡◌ {A = Option Row} None (Some r) = e in cc)

pub included_is_scratch : IncludedIsScratch
included_is_scratch past t l sound idle some continuous includes =
    let h : OwnHold past l = subst (λ o. IfSome o (OwnHold past)) sound.is (holds IsRight OwnHold kept t past sound.legal (right_known t past sound.right)) in
    is_scratch l.meaning (last_bound l.checkpoints) (cutoff l.meaning l.checkpoints) (read_last l.checkpoints) l.rows (held past t l sound).ascending
    (λ k. rows_when_idle past t l sound idle k
    ∙ (ap (keep (stays l.meaning (written l.meaning past) (cutoff l.meaning l.checkpoints))) (own_each l.meaning l.checkpoints (omega arith) (h.own continuous includes) k)
    ∙ steady l.meaning sound.steady l.checkpoints (written l.meaning past) (omega arith) h.reads.reads k (cutoff l.meaning l.checkpoints)))
