-- Entries that are taken one after another.
use Rattle.std.proofs.Common.{◌≡◌, List, [], ◌∷◌, ◌++◌, reverse, sym, ◌∙◌, ap, subst, append_assoc}
use Rattle.std.proofs.lemmas.List.{reverse-append}
use Rattle.tf_model.specs.declared.entry.Entry.{Entry}
use Rattle.tf_core.specs.Legal.{IsTaken, IsTakenPast, AreTaken, IsTakenHistory, AreTakenAfter}

-- the past behind an entry and those after it
past_of : (past es : List Entry) (e : Entry) → reverse (e ∷ es) ++ past ≡ reverse es ++ e ∷ past
past_of past es e = ap (λ (l : List Entry). l ++ past) (reverse-append (e ∷ []) es) ∙ append_assoc (reverse es) (e ∷ []) past

-- the same entry after the same past
after_past : (past same : List Entry) (e : Entry) → past ≡ same → IsTaken past e → IsTaken same e
after_past past same e is = subst (λ (l : List Entry). IsTaken l e) is

more : (past es : List Entry) (e : Entry) → AreTaken past es → IsTaken (reverse es ++ past) e → AreTaken past (es ++ e ∷ [])
more past [] e taken last = (last, tt)
more past (x ∷ es) e taken last = (taken.0, more (x ∷ past) es e taken.1 (after_past _ _ e (past_of past es x) last))

at : (past es later : List Entry) (e : Entry) → AreTaken past (es ++ e ∷ later) → IsTaken (reverse es ++ past) e
at past [] later e taken = taken.0
at past (x ∷ es) later e taken = after_past _ _ e (sym (past_of past es x)) (at (x ∷ past) es later e taken.1)

past_taken : (past es : List Entry) → IsTakenPast past → AreTaken past es → IsTakenPast (reverse es ++ past)
past_taken past [] before taken = before
past_taken past (x ∷ es) before taken = subst (λ (l : List Entry). IsTakenPast l) (sym (past_of past es x)) (past_taken (x ∷ past) es (before, taken.0) taken.1)

-- one entry more is taken
pub taken_more : (history es : List Entry) (e : Entry) → AreTakenAfter history es → IsTaken (reverse (history ++ es)) e → AreTakenAfter history (es ++ e ∷ [])
taken_more history es e taken last = more (reverse history) es e taken (after_past _ _ e (reverse-append history es) last)

-- an entry among those that are taken
pub taken_at : (history es later : List Entry) (e : Entry) → AreTakenAfter history (es ++ e ∷ later) → IsTaken (reverse (history ++ es)) e
taken_at history es later e taken = after_past _ _ e (sym (reverse-append history es)) (at (reverse history) es later e taken)

-- a history grows by entries that are taken
pub history_taken : (history es : List Entry) → IsTakenHistory history → AreTakenAfter history es → IsTakenHistory (history ++ es)
history_taken history es before taken = subst (λ (l : List Entry). IsTakenPast l) (sym (reverse-append history es)) (past_taken (reverse history) es before taken)

-- a turn of the loop that takes entries
pub turn_taken : (old now front : List Entry) (x : Entry) → now ≡ old ++ front → AreTakenAfter old front → IsTaken (reverse now) x → AreTakenAfter old (front ++ x ∷ [])
turn_taken old now front x is taken next = taken_more old front x taken (after_past _ _ x (ap reverse is) next)

-- an entry that is not taken
pub turn_is_taken : (old now front entries rest : List Entry) (x : Entry) → front ++ x ∷ rest ≡ entries → now ≡ old ++ front → AreTakenAfter old entries → IsTaken (reverse now) x
turn_is_taken old now front entries rest x all is taken = after_past _ _ x (ap reverse (sym is)) (taken_at old front rest x (subst (λ (l : List Entry). AreTakenAfter old l) (sym all) taken))
