-- What each checkpoint read begins the documents written.
use Rattle.std.proofs.Common.{◌≡◌, ℕ, ℤ, ◌<◌, Bool, true, false, cond, List, [], ◌∷◌, ◌++◌, length, Option, Some, None, arith, sym, ap, ◌∙◌, subst, append_assoc}
use Rattle.std.specs.Prelude.{⊤, IfSome}
use Rattle.std.proofs.lemmas.List.Elements.{filter-append}
use Rattle.tf_history.specs.Grouping.{counted, row_of, stays, keep, scratch, all_keys}
use Rattle.tf_model.specs.Keys.{is_among}
use Rattle.tf_history.specs.Lives.{Checkpoint, Life, life, documents, written, from_sources, writes, cutoff, last_row, last_bound, read_last}
use Rattle.tf_model.specs.Bounds.{risen}
use Rattle.tf_history.specs.Legality.{IsLegal}
use Rattle.tf_history.specs.Laws.{FirstIsScratch, BatchIsScratch}
use Rattle.tf_history.proofs.Keys.{is_among-all_keys}
use Rattle.tf_history.proofs.Counting.{keep_same}
use Rattle.tf_history.proofs.Induction.{IsKept, holds, legal_known}
use Rattle.tf_history.proofs.CompleteLaw.{rows_when_idle, is_scratch, held}
use Rattle.tf_history.specs.Events.{Event}
use Rattle.tf_history.specs.Meaning.{Meaning}
use Rattle.tf_model.specs.declared.doc.Doc.{Doc}
use Rattle.tf_model.specs.declared.entry.Row.{Row}
use Rattle.tf_model.specs.declared.value.Key.{Key}

abbrev pub AllBegin : List Checkpoint → List Doc → Type 0
AllBegin [] docs = ⊤
AllBegin (b ∷ before) docs = ((rest : List Doc) × (docs ≡ b.read ++ rest)) × AllBegin before docs

-- a batch transform has one checkpoint at most, with no bound
abbrev pub IsOne : List Checkpoint → Type 0
IsOne [] = ⊤
IsOne (b ∷ before) = (before ≡ []) × (b.bound ≡ None)

pub record ReadsHold (past : List Event) (l : Life) : Type 0 where
  pub reads : AllBegin l.checkpoints (written l.meaning past)
  pub one : l.meaning.is_batch ≡ true → IsOne l.checkpoints

more_begin : (checkpoints : List Checkpoint) (docs new : List Doc) → AllBegin checkpoints docs → AllBegin checkpoints (docs ++ new)
more_begin [] docs new h = tt
more_begin (b ∷ before) docs new h = ((h.0.0 ++ new, ap (λ ds. ds ++ new) h.0.1 ∙ append_assoc b.read h.0.0 new), more_begin before docs new h.1)

written_more : (c : Meaning) (past : List Event) (new : List Doc) (checkpoints : List Checkpoint) → AllBegin checkpoints (written c past)
    → AllBegin checkpoints (from_sources c (documents past ++ new))
written_more c past new checkpoints h = subst (AllBegin checkpoints) (sym (filter-append (λ d. c.is_source d.index) (documents past) new)) (more_begin checkpoints (written c past) (from_sources c new) h)

pub kept : IsKept (λ _ _. ⊤) ReadsHold
kept = record {
  opened = λ past moment deed c. record { reads = tt; one = λ _. tt };
  aside = λ past moment deed l legal none h. record { reads = written_more l.meaning past (writes deed) l.checkpoints h.reads; one = h.one };
  turned = λ past moment deed turn l legal none h. record { reads = written_more l.meaning past (writes deed) l.checkpoints h.reads; one = h.one };
  wrote = λ past moment d l legal h. record { reads = written_more l.meaning past (d ∷ []) l.checkpoints h.reads; one = h.one };
  begun = λ past moment id n bound l legal m h. record {
    reads = ((from_sources l.meaning [], filter-append (λ d. l.meaning.is_source d.index) (documents past) []), written_more l.meaning past [] l.checkpoints h.reads);
    one = λ b. (m.once b, m.bound_is ∙ ap (λ t. cond t None (Some (risen (last_bound l.checkpoints) (l.meaning.aligned moment)))) b);
  };
  paged = λ past moment id n rows l legal m r h. record { reads = written_more l.meaning past [] l.checkpoints h.reads; one = h.one };
  done = λ past moment id n l legal m h. record { reads = written_more l.meaning past [] l.checkpoints h.reads; one = h.one };
}

pub reads_held : (past : List Event) (t : List ℕ) (l : Life) → IsLegal past → life t past ≡ Some l → ReadsHold past l
reads_held past t l legal is = subst (λ o. IfSome o (ReadsHold past)) is (holds (λ _ _. ⊤) ReadsHold kept t past legal (legal_known t past legal))

pub first_is_scratch : FirstIsScratch
first_is_scratch past t l b sound idle only =
    let reads = subst (λ (cs : List Checkpoint). AllBegin cs (written l.meaning past)) only (reads_held past t l sound.legal sound.is).reads in
    is_scratch l.meaning b.bound (cutoff l.meaning l.checkpoints) b.read l.rows (held past t l sound).ascending
    (λ k. rows_when_idle past t l sound idle k
    ∙ (ap (keep (stays l.meaning (written l.meaning past) (cutoff l.meaning l.checkpoints))) (ap (λ (cs : List Checkpoint). last_row l.meaning cs k) only)
    ∙ (sym (keep_same l.meaning b.read (written l.meaning past) (cutoff l.meaning l.checkpoints) (last_row l.meaning (b ∷ []) k) (steady k (is_among (all_keys l.meaning (counted l.meaning b.bound b.read)) k) reads.0))
    ∙ ap (keep (stays l.meaning b.read (cutoff l.meaning l.checkpoints))) (ap (λ t. cond t (row_of l.meaning (counted l.meaning b.bound b.read) k) None) (is_among-all_keys l.meaning k (counted l.meaning b.bound b.read))))))
  where
    steady : (k : Key) (t : Bool) → ((rest : List Doc) × (written l.meaning past ≡ b.read ++ rest)) → (r : Row)
        → cond t (row_of l.meaning (counted l.meaning b.bound b.read) k) None ≡ Some r
        → l.meaning.retained (written l.meaning past) r ≡ l.meaning.retained b.read r
    steady k true w r e = ap (λ ds. l.meaning.retained ds r) w.1 ∙ sound.steady b.read w.0 b.bound k r e
    steady k false w r e = absurd (let z : ◌≡◌ {A = Option Row} None (Some r) = e in cc)

batch_one : (c : Meaning) (checkpoints : List Checkpoint) (cut : Option ℤ) (rows : List Row) → 0 < length checkpoints → IsOne checkpoints
    → ((b : Checkpoint) → checkpoints ≡ b ∷ [] → rows ≡ scratch c b.bound cut b.read) → rows ≡ scratch c None cut (read_last checkpoints)
batch_one c [] cut rows some one h = absurd (omega arith)
batch_one c (b ∷ before) cut rows some one h = h b (ap (λ cs. b ∷ cs) one.0) ∙ ap (λ o. scratch c o cut b.read) one.1

pub batch_is_scratch : BatchIsScratch
batch_is_scratch past t l sound idle some batch =
    batch_one l.meaning l.checkpoints (cutoff l.meaning l.checkpoints) l.rows (omega arith) ((reads_held past t l sound.legal sound.is).one batch) (λ b only. first_is_scratch past t l b sound idle only)
