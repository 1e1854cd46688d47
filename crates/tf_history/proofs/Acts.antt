-- What legality says of an entry as an act on one transform.
use Rattle.tf_history.specs.Lives.Turn.{Starts, Asks, Stops, Prompts, Fails}
use Rattle.std.proofs.Common.{◌≡◌, ℕ, ℤ, Bool, true, false, cond, not, ◌&&◌, ◌||◌, List, [], ◌∷◌, ◌++◌, Option, refl, sym, ap, subst, Some, None}
use Rattle.std.specs.Prelude.{IsSomeAnd}
use Rattle.tf_history.specs.Events.Deed.{Index, Write, Put, Delete, Reset, Start, StopAsked, Stopped, Schedule, Fail, Begin, Page, Finish}
use Rattle.tf_history.specs.Lives.{Checkpoint, Life, Act, act, life, writes, documents, is_same}
use Rattle.tf_history.specs.Lives.Act.{Aside, Opens, Reopens, Closes, Writes, Begins, Pages, Finishes, Turns}
use Rattle.tf_history.specs.Acts.{IsNextBegin, MayAct}
use Rattle.tf_history.specs.Legality.{MayBegin, MayPage, MayFinish, IsAllowed, is_empty}
use Rattle.tf_history.proofs.Ids.{same_id}
use Rattle.tf_history.specs.Events.{Deed, Event}
use Rattle.tf_model.specs.declared.doc.Doc.{Doc}

due_once : (batch : Bool) (checkpoints : List Checkpoint) (rest : Bool) → (is_empty checkpoints || (not batch && rest)) ≡ true → batch ≡ true → checkpoints ≡ []
due_once batch [] rest e b = refl
due_once true (c ∷ checkpoints) rest e b = absurd (let z : false ≡ true = e in cc)
due_once false (c ∷ checkpoints) rest e b = absurd (let z : false ≡ true = b in cc)

pub some_begin : (o : Option Life) (n : ℕ) (bound : Option ℤ) (moment : ℤ) (docs : List Doc) → IsSomeAnd o (λ l. MayBegin l docs n bound moment)
    → IsSomeAnd o (λ l. IsNextBegin l n bound moment)
some_begin None n bound moment docs h = h
some_begin (Some l) n bound moment docs h = record { idle = h.idle; number = h.number; bound_is = h.bound_is; once = due_once l.meaning.is_batch l.checkpoints _ h.due }

chosen : (a : Act) (o : Option Life) (b : Bool) → (b ≡ true → MayAct a o) → MayAct (cond b a Aside) o
chosen a o true h = h refl
chosen a o false h = tt

may : (t : List ℕ) (moment : ℤ) (deed : Deed) (past : List Event) → IsAllowed moment deed past
    → MayAct (act t (record { moment = moment; deed = deed })) (life t past)
may t moment Index past h = tt
may t moment (Write d) past h = tt
may t moment (Put id c) past h = chosen (Opens c) (life t past) (is_same t id) (λ e. tt)
may t moment (Delete id) past h = chosen Closes (life t past) (is_same t id) (λ e. tt)
may t moment (Reset id) past h = chosen Reopens (life t past) (is_same t id) (λ e. tt)
may t moment (Start id) past h = chosen (Turns Starts) (life t past) (is_same t id) (λ e. tt)
may t moment (StopAsked id wait) past h = chosen (Turns (Asks wait)) (life t past) (is_same t id) (λ e. tt)
may t moment (Stopped id) past h = chosen (Turns Stops) (life t past) (is_same t id) (λ e. tt)
may t moment (Schedule id) past h = chosen (Turns Prompts) (life t past) (is_same t id) (λ e. tt)
may t moment (Fail id n k name value) past h = chosen (Turns (Fails k name value)) (life t past) (is_same t id) (λ e. tt)
may t moment (Begin id n bound) past h = chosen (Begins n bound moment) (life t past) (is_same t id) (λ e. subst (λ x. IsSomeAnd (life x past) (λ l. IsNextBegin l n bound moment)) (sym (same_id t id e)) (some_begin (life id past) n bound moment (documents past) h))
may t moment (Page id n rows) past h = chosen (Pages n rows) (life t past) (is_same t id) (λ e. subst (λ x. IsSomeAnd (life x past) (λ l. MayPage l n rows)) (sym (same_id t id e)) h)
may t moment (Finish id n) past h = chosen (Finishes n) (life t past) (is_same t id) (λ e. subst (λ x. IsSomeAnd (life x past) (λ l. MayFinish l n)) (sym (same_id t id e)) h)

pub may_act : (t : List ℕ) (e : Event) (past : List Event) → IsAllowed e.moment e.deed past → MayAct (act t e) (life t past)
may_act t e past h = may t e.moment e.deed past h

-- the documents that an act writes
abbrev pub act_writes : Act → List Doc
act_writes (Writes d) = d ∷ []
act_writes _ = []

chosen_writes : (a : Act) (b : Bool) → act_writes a ≡ [] → [] ≡ act_writes (cond b a Aside)
chosen_writes a true e = sym e
chosen_writes a false e = refl

writes_kind : (t : List ℕ) (moment : ℤ) (deed : Deed) → writes deed ≡ act_writes (act t (record { moment = moment; deed = deed }))
writes_kind t moment Index = refl
writes_kind t moment (Write d) = refl
writes_kind t moment (Put id c) = chosen_writes (Opens c) (is_same t id) refl
writes_kind t moment (Delete id) = chosen_writes Closes (is_same t id) refl
writes_kind t moment (Reset id) = chosen_writes Reopens (is_same t id) refl
writes_kind t moment (Start id) = chosen_writes (Turns Starts) (is_same t id) refl
writes_kind t moment (StopAsked id wait) = chosen_writes (Turns (Asks wait)) (is_same t id) refl
writes_kind t moment (Stopped id) = chosen_writes (Turns Stops) (is_same t id) refl
writes_kind t moment (Schedule id) = chosen_writes (Turns Prompts) (is_same t id) refl
writes_kind t moment (Fail id n k name value) = chosen_writes (Turns (Fails k name value)) (is_same t id) refl
writes_kind t moment (Begin id n bound) = chosen_writes (Begins n bound moment) (is_same t id) refl
writes_kind t moment (Page id n rows) = chosen_writes (Pages n rows) (is_same t id) refl
writes_kind t moment (Finish id n) = chosen_writes (Finishes n) (is_same t id) refl

pub documents_act : (t : List ℕ) (e : Event) (past : List Event) → documents (e ∷ past) ≡ documents past ++ act_writes (act t e)
documents_act t e past = ap (λ ds. documents past ++ ds) (writes_kind t e.moment e.deed)
