-- Where nothing was late when the running checkpoint began, what is kept is of the checkpoint before.
use Rattle.std.proofs.Common.{◌≡◌, Bool, true, false, cond, not, ◌&&◌, List, [], ◌∷◌, ◌++◌, Option, Some, None, refl, ap, ◌∙◌, subst}
use Rattle.std.specs.Prelude.{⊤, IfSome}
use Rattle.tf_history.specs.Grouping.{counted, row_of, stays, keep}
use Rattle.tf_model.specs.Keys.{is_among}
use Rattle.tf_history.specs.Lives.{Checkpoint, Life, documents, written, writes, cutoff, changed, last_row}
use Rattle.tf_model.specs.Changed.{is_after}
use Rattle.tf_model.specs.Bounds.{cutoff_by}
use Rattle.tf_history.specs.Lives.Act.{Aside, Writes, Begins, Pages, Finishes, Turns}
use Rattle.tf_history.specs.Legality.{IsRight}
use Rattle.tf_history.specs.Laws.{KeptRowIsEarlier}
use Rattle.tf_history.proofs.CompleteLaw.{IsComplete, LifeComplete, step, rows_when_running}
use Rattle.tf_history.proofs.Induction.{IsKept, holds, right_known}
use Rattle.tf_history.specs.Events.{Event}
use Rattle.tf_history.specs.Meaning.{Meaning}
use Rattle.tf_model.specs.declared.doc.Doc.{Doc}
use Rattle.tf_model.specs.declared.entry.Row.{Row}

abbrev KeptComplete : Meaning → List Checkpoint → Type 0
KeptComplete c [] = ⊤
KeptComplete c (b ∷ before) = b.late ≡ 0 → IsComplete c before b.read

record KeptHold (past : List Event) (l : Life) : Type 0 where
  whole : LifeComplete l (documents past)
  earlier : l.meaning.is_batch ≡ false → l.meaning.includes_late ≡ false → KeptComplete l.meaning l.checkpoints

kept : IsKept IsRight KeptHold
kept = record {
  opened = λ past moment deed c. record { whole = record { bounded = λ _. tt; complete = λ _ _ _. tt }; earlier = λ _ _. tt };
  aside = λ past moment deed l legal none h. record { whole = step (documents past) (documents past ++ writes deed) Aside (Some l) (ap (λ ds. documents past ++ ds) none) tt h.whole; earlier = h.earlier };
  turned = λ past moment deed turn l legal none h. record { whole = step (documents past) (documents past ++ writes deed) (Turns turn) (Some l) (ap (λ ds. documents past ++ ds) none) tt h.whole; earlier = h.earlier };
  wrote = λ past moment d l legal h. record { whole = step (documents past) (documents past ++ d ∷ []) (Writes d) (Some l) refl tt h.whole; earlier = h.earlier };
  begun = λ past moment id n bound l legal m h. record { whole = step (documents past) (documents past ++ []) (Begins n bound moment) (Some l) refl m h.whole; earlier = λ f i z. h.whole.complete f i z };
  paged = λ past moment id n rows l legal m r h. record { whole = step (documents past) (documents past ++ []) (Pages n rows) (Some l) refl m h.whole; earlier = h.earlier };
  done = λ past moment id n l legal m h. record { whole = step (documents past) (documents past ++ []) (Finishes n) (Some l) refl m h.whole; earlier = h.earlier };
}

pub no_cutoff : (c : Meaning) (checkpoints : List Checkpoint) → c.max_age ≡ None → cutoff c checkpoints ≡ None
no_cutoff c [] e = refl
no_cutoff c (b ∷ before) e = ap (λ age. cutoff_by age (cutoff c before) b.moment) e ∙ no_cutoff c before e

keep_all : (c : Meaning) (docs : List Doc) (o : Option Row) → keep (stays c docs None) o ≡ o
keep_all c docs None = refl
keep_all c docs (Some r) = refl

above_kept : (ch a : Bool) (x y : Option Row) → a ≡ true → cond (ch && not a) x y ≡ y
above_kept true a x y e = ap (λ t. cond (not t) x y) e
above_kept false a x y e = refl

pub kept_row_is_earlier : KeptRowIsEarlier
kept_row_is_earlier past t l b a before sound newest running continuous ignores forever none k above =
    let h : KeptHold past l = subst (λ o. IfSome o (KeptHold past)) sound.is (holds IsRight KeptHold kept t past sound.legal (right_known t past sound.right)) in
    let earlier : KeptComplete l.meaning (b ∷ a ∷ before) = subst (λ (cs : List Checkpoint). KeptComplete l.meaning cs) newest (h.earlier continuous ignores) in
    rows_when_running past t l b (a ∷ before) sound newest running k
    ∙ (above_kept (is_among (changed l.meaning l.checkpoints) k) (is_after l.position k) (row_of l.meaning (counted l.meaning b.bound b.read) k) _ above
    ∙ (ap (λ o. keep (stays l.meaning (written l.meaning past) o) (last_row l.meaning (a ∷ before) k)) (no_cutoff l.meaning (a ∷ before) forever)
    ∙ (keep_all l.meaning (written l.meaning past) (last_row l.meaning (a ∷ before) k) ∙ earlier none k)))
