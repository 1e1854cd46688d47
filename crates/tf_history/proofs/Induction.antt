-- What each deed of entry keeps of a life holds of every life of a legal history.
use Rattle.tf_history.specs.Lives.Turn.{Starts, Asks, Stops, Prompts, Fails}
use Rattle.std.proofs.Common.{◌≡◌, ℕ, ℤ, Bool, true, false, cond, List, [], ◌∷◌, Option, Some, None, refl, sym, subst}
use Rattle.std.specs.Prelude.{⊤, IsSomeAnd, IfSome}
use Rattle.tf_history.specs.Events.Deed.{Index, Write, Put, Delete, Reset, Start, StopAsked, Stopped, Schedule, Fail, Begin, Page, Finish}
use Rattle.tf_history.specs.Lives.{Life, Act, act, life, life_after, lived, fresh, documents, writes, Turn, is_same}
use Rattle.tf_history.specs.Lives.Act.{Aside, Opens, Reopens, Closes, Writes, Begins, Pages, Finishes, Turns}
use Rattle.tf_history.specs.Legality.{MayFinish, IsRight, IsLegal, PagesRight, RightAct, MayPage}
use Rattle.tf_history.proofs.Acts.{may_act, some_begin}
use Rattle.tf_history.specs.Acts.{IsNextBegin, MayAct}
use Rattle.tf_history.proofs.Ids.{same_id}
use Rattle.tf_history.specs.Events.{Deed, Event}
use Rattle.tf_history.specs.Meaning.{Meaning}
use Rattle.tf_model.specs.declared.doc.Doc.{Doc}
use Rattle.tf_model.specs.declared.entry.Row.{Row}

abbrev pub event : ℤ → Deed → Event
event moment deed = record { moment = moment; deed = deed }

-- R is what is known of each Page of the life
pub record IsKept (R : Life → List Row → Type 0) (I : List Event → Life → Type 0) : Type 0 where
  pub opened : (past : List Event) (moment : ℤ) (deed : Deed) (c : Meaning) → I (event moment deed ∷ past) (fresh c)
  pub aside : (past : List Event) (moment : ℤ) (deed : Deed) (l : Life) → IsLegal (event moment deed ∷ past) → writes deed ≡ [] → I past l
      → I (event moment deed ∷ past) l
  pub turned : (past : List Event) (moment : ℤ) (deed : Deed) (turn : Turn) (l : Life) → IsLegal (event moment deed ∷ past) → writes deed ≡ []
      → I past l → I (event moment deed ∷ past) (lived (documents past) (Turns turn) l)
  pub wrote : (past : List Event) (moment : ℤ) (d : Doc) (l : Life) → IsLegal (event moment (Write d) ∷ past) → I past l
      → I (event moment (Write d) ∷ past) (lived (documents past) (Writes d) l)
  pub begun : (past : List Event) (moment : ℤ) (id : List ℕ) (n : ℕ) (bound : Option ℤ) (l : Life) → IsLegal (event moment (Begin id n bound) ∷ past)
      → IsNextBegin l n bound moment → I past l → I (event moment (Begin id n bound) ∷ past) (lived (documents past) (Begins n bound moment) l)
  pub paged : (past : List Event) (moment : ℤ) (id : List ℕ) (n : ℕ) (rows : List Row) (l : Life) → IsLegal (event moment (Page id n rows) ∷ past)
      → MayPage l n rows → R l rows → I past l → I (event moment (Page id n rows) ∷ past) (lived (documents past) (Pages n rows) l)
  pub done : (past : List Event) (moment : ℤ) (id : List ℕ) (n : ℕ) (l : Life) → IsLegal (event moment (Finish id n) ∷ past) → MayFinish l n
      → I past l → I (event moment (Finish id n) ∷ past) (lived (documents past) (Finishes n) l)

-- what is known of the Pages of the life of t
abbrev pub KnownAct : (Life → List Row → Type 0) → Act → Option Life → Type 0 → Type 0
KnownAct R (Opens c) l before = ⊤
KnownAct R Reopens l before = ⊤
KnownAct R (Pages n rows) l before = IsSomeAnd l (λ l. R l rows) × before
KnownAct R _ l before = before

abbrev pub PagesKnown : (Life → List Row → Type 0) → List ℕ → List Event → Type 0
PagesKnown R t [] = ⊤
PagesKnown R t (e ∷ past) = KnownAct R (act t e) (life t past) (PagesKnown R t past)

module _ (R : Life → List Row → Type 0) (I : List Event → Life → Type 0) (keeps : IsKept R I) where
  aside_any : (past : List Event) (moment : ℤ) (deed : Deed) (o : Option Life) → IsLegal (event moment deed ∷ past) → writes deed ≡ []
      → IfSome o (I past) → IfSome (life_after (documents past) Aside o) (I (event moment deed ∷ past))
  aside_any past moment deed None legal none h = tt
  aside_any past moment deed (Some l) legal none h = keeps.aside past moment deed l legal none h

  -- an act that names an id
  named : (past : List Event) (moment : ℤ) (deed : Deed) (a : Act) (o : Option Life) (b : Bool) (P : Type 0) → IsLegal (event moment deed ∷ past)
      → writes deed ≡ [] → (P → IfSome o (I past))
      → (b ≡ true → KnownAct R a o P → IfSome (life_after (documents past) a o) (I (event moment deed ∷ past)))
      → KnownAct R (cond b a Aside) o P → IfSome (life_after (documents past) (cond b a Aside) o) (I (event moment deed ∷ past))
  named past moment deed a o true P legal none h g known = g refl known
  named past moment deed a o false P legal none h g known = aside_any past moment deed o legal none (h known)

  reopened : (past : List Event) (moment : ℤ) (deed : Deed) (o : Option Life) → IfSome (life_after (documents past) Reopens o) (I (event moment deed ∷ past))
  reopened past moment deed None = tt
  reopened past moment deed (Some l) = keeps.opened past moment deed l.meaning

  turned_any : (past : List Event) (moment : ℤ) (deed : Deed) (turn : Turn) (o : Option Life) → IsLegal (event moment deed ∷ past) → writes deed ≡ []
      → IfSome o (I past) → IfSome (life_after (documents past) (Turns turn) o) (I (event moment deed ∷ past))
  turned_any past moment deed turn None legal none h = tt
  turned_any past moment deed turn (Some l) legal none h = keeps.turned past moment deed turn l legal none h

  wrote_any : (past : List Event) (moment : ℤ) (d : Doc) (o : Option Life) → IsLegal (event moment (Write d) ∷ past) → IfSome o (I past)
      → IfSome (life_after (documents past) (Writes d) o) (I (event moment (Write d) ∷ past))
  wrote_any past moment d None legal h = tt
  wrote_any past moment d (Some l) legal h = keeps.wrote past moment d l legal h

  begun_any : (past : List Event) (moment : ℤ) (id : List ℕ) (n : ℕ) (bound : Option ℤ) (o : Option Life)
      → IsLegal (event moment (Begin id n bound) ∷ past) → IsSomeAnd o (λ l. IsNextBegin l n bound moment) → IfSome o (I past)
      → IfSome (life_after (documents past) (Begins n bound moment) o) (I (event moment (Begin id n bound) ∷ past))
  begun_any past moment id n bound None legal m h = tt
  begun_any past moment id n bound (Some l) legal m h = keeps.begun past moment id n bound l legal m h

  paged_any : (past : List Event) (moment : ℤ) (id : List ℕ) (n : ℕ) (rows : List Row) (o : Option Life)
      → IsLegal (event moment (Page id n rows) ∷ past) → IsSomeAnd o (λ l. MayPage l n rows) → IsSomeAnd o (λ l. R l rows) → IfSome o (I past)
      → IfSome (life_after (documents past) (Pages n rows) o) (I (event moment (Page id n rows) ∷ past))
  paged_any past moment id n rows None legal m r h = tt
  paged_any past moment id n rows (Some l) legal m r h = keeps.paged past moment id n rows l legal m r h

  done_any : (past : List Event) (moment : ℤ) (id : List ℕ) (n : ℕ) (o : Option Life) → IsLegal (event moment (Finish id n) ∷ past)
      → IsSomeAnd o (λ l. MayFinish l n) → IfSome o (I past)
      → IfSome (life_after (documents past) (Finishes n) o) (I (event moment (Finish id n) ∷ past))
  done_any past moment id n None legal m h = tt
  done_any past moment id n (Some l) legal m h = keeps.done past moment id n l legal m h

  step : (t : List ℕ) (moment : ℤ) (deed : Deed) (past : List Event) (P : Type 0) → IsLegal (event moment deed ∷ past)
      → KnownAct R (act t (event moment deed)) (life t past) P → (P → IfSome (life t past) (I past))
      → IfSome (life t (event moment deed ∷ past)) (I (event moment deed ∷ past))
  step t moment Index past P legal known h = aside_any past moment Index (life t past) legal refl (h known)
  step t moment (Write d) past P legal known h = wrote_any past moment d (life t past) legal (h known)
  step t moment (Put id c) past P legal known h = named past moment (Put id c) (Opens c) (life t past) (is_same t id) P legal refl h (λ e k. keeps.opened past moment (Put id c) c) known
  step t moment (Delete id) past P legal known h = named past moment (Delete id) Closes (life t past) (is_same t id) P legal refl h (λ e k. tt) known
  step t moment (Reset id) past P legal known h = named past moment (Reset id) Reopens (life t past) (is_same t id) P legal refl h (λ e k. reopened past moment (Reset id) (life t past)) known
  step t moment (Start id) past P legal known h = named past moment (Start id) (Turns Starts) (life t past) (is_same t id) P legal refl h (λ e k. turned_any past moment (Start id) Starts (life t past) legal refl (h k)) known
  step t moment (StopAsked id wait) past P legal known h = named past moment (StopAsked id wait) (Turns (Asks wait)) (life t past) (is_same t id) P legal refl h (λ e k. turned_any past moment (StopAsked id wait) (Asks wait) (life t past) legal refl (h k)) known
  step t moment (Stopped id) past P legal known h = named past moment (Stopped id) (Turns Stops) (life t past) (is_same t id) P legal refl h (λ e k. turned_any past moment (Stopped id) Stops (life t past) legal refl (h k)) known
  step t moment (Schedule id) past P legal known h = named past moment (Schedule id) (Turns Prompts) (life t past) (is_same t id) P legal refl h (λ e k. turned_any past moment (Schedule id) Prompts (life t past) legal refl (h k)) known
  step t moment (Fail id n k name value) past P legal known h = named past moment (Fail id n k name value) (Turns (Fails k name value)) (life t past) (is_same t id) P legal refl h (λ e q. turned_any past moment (Fail id n k name value) (Fails k name value) (life t past) legal refl (h q)) known
  step t moment (Begin id n bound) past P legal known h = named past moment (Begin id n bound) (Begins n bound moment) (life t past) (is_same t id) P legal refl h (λ e k. begun_any past moment id n bound (life t past) legal (subst (λ x. IsSomeAnd (life x past) (λ l. IsNextBegin l n bound moment)) (sym (same_id t id e)) (some_begin (life id past) n bound moment (documents past) legal.1)) (h k)) known
  step t moment (Page id n rows) past P legal known h = named past moment (Page id n rows) (Pages n rows) (life t past) (is_same t id) P legal refl h (λ e k. paged_any past moment id n rows (life t past) legal (subst (λ x. IsSomeAnd (life x past) (λ l. MayPage l n rows)) (sym (same_id t id e)) legal.1) k.0 (h k.1)) known
  step t moment (Finish id n) past P legal known h = named past moment (Finish id n) (Finishes n) (life t past) (is_same t id) P legal refl h (λ e k. done_any past moment id n (life t past) legal (subst (λ x. IsSomeAnd (life x past) (λ l. MayFinish l n)) (sym (same_id t id e)) legal.1) (h k)) known

  pub holds : (t : List ℕ) (past : List Event) → IsLegal past → PagesKnown R t past → IfSome (life t past) (I past)
  holds t [] legal known = tt
  holds t (e ∷ past) legal known = step t e.moment e.deed past (PagesKnown R t past) legal known (holds t past legal.0)

right_known_act : (a : Act) (o : Option Life) (P Q : Type 0) → (P → Q) → RightAct a o P → KnownAct IsRight a o Q
right_known_act (Opens c) o P Q f h = tt
right_known_act Reopens o P Q f h = tt
right_known_act (Pages n rows) o P Q f h = (h.0, f h.1)
right_known_act Aside o P Q f h = f h
right_known_act (Turns turn) o P Q f h = f h
right_known_act Closes o P Q f h = f h
right_known_act (Writes d) o P Q f h = f h
right_known_act (Begins n bound moment) o P Q f h = f h
right_known_act (Finishes n) o P Q f h = f h

pub right_known : (t : List ℕ) (past : List Event) → PagesRight t past → PagesKnown IsRight t past
right_known t [] h = tt
right_known t (e ∷ past) h = right_known_act (act t e) (life t past) (PagesRight t past) (PagesKnown IsRight t past) (right_known t past) h

-- in every legal history each Page has a life
some_any : (o : Option Life) (n : ℕ) (rows : List Row) → IsSomeAnd o (λ l. MayPage l n rows) → IsSomeAnd o (λ l. ⊤)
some_any None n rows h = h
some_any (Some l) n rows h = tt

legal_known_act : (a : Act) (o : Option Life) (P : Type 0) → MayAct a o → P → KnownAct (λ _ _. ⊤) a o P
legal_known_act (Opens c) o P m h = tt
legal_known_act Reopens o P m h = tt
legal_known_act (Pages n rows) o P m h = (some_any o n rows m, h)
legal_known_act Aside o P m h = h
legal_known_act (Turns turn) o P m h = h
legal_known_act Closes o P m h = h
legal_known_act (Writes d) o P m h = h
legal_known_act (Begins n bound moment) o P m h = h
legal_known_act (Finishes n) o P m h = h

pub legal_known : (t : List ℕ) (past : List Event) → IsLegal past → PagesKnown (λ _ _. ⊤) t past
legal_known t [] legal = tt
legal_known t (e ∷ past) legal = legal_known_act (act t e) (life t past) (PagesKnown (λ _ _. ⊤) t past) (may_act t e past legal.1) (legal_known t past legal.0)
