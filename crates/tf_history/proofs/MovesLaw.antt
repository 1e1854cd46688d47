-- What the indexer would make next is legal and right.
use Rattle.tf_history.specs.Lives.Turn.{Starts, Asks, Stops, Prompts, Fails}
use Rattle.std.proofs.lemmas.List.{length-map}
use Rattle.std.proofs.Common.{◌≡◌, ℕ, ℤ, ◌+◌, ◌<◌, ◌≤◌, zero, suc, Bool, true, false, cond, ◌&&◌, List, [], ◌∷◌, length, map, take, Option, Some, None, arith, refl, sym, ap, ◌∙◌, subst, inl, inr, ◌⊎◌, ltb-true, length-take, ltb-false}
use Rattle.std.specs.Prelude.{⊤, IfSome, IsSomeAnd, is_none, option_map, option_and_then, filter_map, nat_lt}
use Rattle.std.specs.List.{filter, find, list_all, cons_option}
use Rattle.std.proofs.lemmas.Option.{same_Some}
use Rattle.tf_history.specs.Events.Deed.{Page, Finish, Stopped as StoppedDeed}
use Rattle.tf_model.specs.declared.task.State.{State}
use Rattle.tf_history.specs.Lives.{Life, life, documents, counted_last, changed, window, last_bound, next_bound, is_running, Turn, state_turned, after_finish}
use Rattle.tf_model.specs.Changed.{is_after}
use Rattle.tf_model.specs.declared.task.State.TheVariants.{Stopped, Started, Indexing, Stopping, Failed}
use Rattle.tf_history.specs.Legality.{IsRunning, MayBegin, MayPage, MayFail, MayFinish, IsRight, IsAllowed, is_active, is_started, is_due, may_stop, to_do, next_page, row_now, sum_now, told, failing, move_of, page_move, fail_move, begin_move}
use Rattle.tf_history.specs.Histories.{IsRightEvent, MovesAreLegal}
use Rattle.tf_history.proofs.Lists.{and_first, and_second}
use Rattle.tf_history.proofs.Keys.{sorted, IsBelowAll, IsAscending, ascending-all_keys, ascending_filter}
use Rattle.tf_history.proofs.Rows.{keys_in, keys_from}
use Rattle.tf_history.proofs.Counting.{keyed}
use Rattle.tf_history.proofs.Induction.{IsKept, holds, legal_known}
use Rattle.tf_history.specs.Events.{Deed, Event}
use Rattle.tf_history.specs.Meaning.{row_key}
use Rattle.tf_model.specs.declared.entry.Row.{Row}
use Rattle.tf_model.specs.declared.entry.SumRange.{SumRange}
use Rattle.tf_model.specs.declared.value.Key.{Key}

-- none or one is running, and a started transform has none
abbrev IsCount : ℕ → ℕ → Type 0
IsCount finished begun = (finished ≡ begun) ⊎ (finished + 1 ≡ begun)

abbrev StartedIdle : State → ℕ → ℕ → Type 0
StartedIdle Started finished begun = finished ≡ begun
StartedIdle _ finished begun = ⊤

record CountHold (past : List Event) (l : Life) : Type 0 where
  count : IsCount l.finished (length l.checkpoints)
  started : StartedIdle l.state l.finished (length l.checkpoints)

below_take : (n : ℕ) (k : Key) (keys : List Key) → IsBelowAll k keys → IsBelowAll k (take n keys)
below_take zero k keys h = tt
below_take (suc n) k [] h = tt
below_take (suc n) k (j ∷ keys) h = (h.0, below_take n k keys h.1)

ascending_take : (n : ℕ) (keys : List Key) → IsAscending keys → IsAscending (take n keys)
ascending_take zero keys h = tt
ascending_take (suc n) [] h = tt
ascending_take (suc n) (j ∷ keys) h = (below_take n j keys h.0, ascending_take n keys h.1)

all_filter : (p : Key → Bool) (n : ℕ) (keys : List Key) → list_all p (take n (filter p keys)) ≡ true
all_filter p zero keys = refl
all_filter p (suc n) [] = refl
all_filter p (suc n) (k ∷ keys) = elim (p k) as (λ b. p k ≡ b → list_all p (take (suc n) (cond b (k ∷ filter p keys) (filter p keys))) ≡ true) [
  | true ↦ λ e. ap (λ b. b && list_all p (take n (filter p keys))) e ∙ all_filter p n keys
  | false ↦ λ e. all_filter p (suc n) keys
] refl

rows_above : (p : Key → Bool) (rows : List Row) → list_all (λ (r : Row). p (row_key r)) rows ≡ list_all p (keys_in rows)
rows_above p [] = refl
rows_above p (r ∷ rows) = ap (λ b. p (row_key r) && b) (rows_above p rows)

all_made : (f : Key → Option Row) (keys : List Key) → find (λ k. is_none (f k)) keys ≡ None → map Some (filter_map f keys) ≡ map f keys
all_made f [] e = refl
all_made f (k ∷ keys) e = elim (f k) as (λ o. f k ≡ o → cond (is_none o) (Some k) (find (λ k. is_none (f k)) keys) ≡ None → map Some (cons_option o (filter_map f keys)) ≡ o ∷ map f keys) [
  | None ↦ λ s g. absurd (let z : ◌≡◌ {A = Option Key} (Some k) None = g in cc)
  | Some r ↦ λ s g. ap (λ os. Some r ∷ os) (all_made f keys g)
] refl e

made_length : (f : Key → Option Row) (rows : List Row) (keys : List Key) → map Some rows ≡ map f keys → length rows ≡ length keys
made_length f rows keys e = sym (length-map rows (λ (r : Row). Some r)) ∙ (ap length e ∙ length-map keys f)

-- ---- the state of a legal life
idle_from : (finished begun : ℕ) (b : Bool) → nat_lt finished begun ≡ b → b ≡ false → IsCount finished begun → finished ≡ begun
idle_from finished begun b e f (inl h) = h
idle_from finished begun b e f (inr h) = let z : begun ≤ finished = ltb-false finished begun (e ∙ f) in omega arith

turned_started : (turn : Turn) (b : Bool) (state : State) (finished begun : ℕ) → nat_lt finished begun ≡ b → IsCount finished begun
    → StartedIdle state finished begun → StartedIdle (state_turned turn b state) finished begun
turned_started Starts true state finished begun e c h = tt
turned_started Starts false state finished begun e c h = idle_from finished begun false e refl c
turned_started (Asks wait) b state finished begun e c h = tt
turned_started Stops b state finished begun e c h = tt
turned_started Prompts b state finished begun e c h = h
turned_started (Fails k name value) b state finished begun e c h = tt

finish_started : (state : State) (n begun : ℕ) → n ≡ begun → StartedIdle (after_finish state) n begun
finish_started Stopped n begun e = tt
finish_started Started n begun e = e
finish_started Indexing n begun e = e
finish_started Stopping n begun e = tt
finish_started Failed n begun e = tt

kept : IsKept (λ _ _. ⊤) CountHold
kept = record {
  opened = λ past moment deed c. record { count = inl refl; started = tt };
  aside = λ past moment deed l legal none h. record { count = h.count; started = h.started };
  turned = λ past moment deed turn l legal none h. record { count = h.count; started = turned_started turn (is_running l) l.state l.finished (length l.checkpoints) refl h.count h.started };
  wrote = λ past moment d l legal h. record { count = h.count; started = h.started };
  begun = λ past moment id n bound l legal m h. record { count = inr (let z = m.idle in omega arith); started = tt };
  paged = λ past moment id n rows l legal m r h. record { count = h.count; started = h.started };
  done = λ past moment id n l legal m h. record { count = inl m.running.1; started = finish_started l.state n (length l.checkpoints) m.running.1 };
}

-- ---- the move
running_from : (finished begun : ℕ) → nat_lt finished begun ≡ true → IsCount finished begun → finished + 1 ≡ begun
running_from finished begun e (inl h) = absurd (let z : finished < begun = ltb-true finished begun e in omega arith)
running_from finished begun e (inr h) = h

started_idle : (state : State) (finished begun : ℕ) → is_started state ≡ true → StartedIdle state finished begun → (state ≡ Started) × (finished ≡ begun)
started_idle Started finished begun e h = (refl, h)
started_idle Stopped finished begun e h = absurd (let z : false ≡ true = e in cc)
started_idle Indexing finished begun e h = absurd (let z : false ≡ true = e in cc)
started_idle Stopping finished begun e h = absurd (let z : false ≡ true = e in cc)
started_idle Failed finished begun e h = absurd (let z : false ≡ true = e in cc)

front_none : (size : ℕ) (keys : List Key) → 0 < size → take size keys ≡ [] → keys ≡ []
front_none zero keys some e = absurd (omega arith)
front_none (suc size) [] some e = refl
front_none (suc size) (k ∷ keys) some e = absurd (let z : ◌≡◌ {A = List Key} (k ∷ take size keys) [] = e in cc)

abbrev IsFine : ℤ → List Event → Deed → Type 0
IsFine moment past deed = IsAllowed moment deed past × IsRightEvent deed past

-- a Fail with the sum that is there
fail_fine : (past : List Event) (t : List ℕ) (moment : ℤ) (l : Life) (deed : Deed) → life t past ≡ Some l → IsRunning l (l.finished + 1)
    → is_active l.state ≡ true → (k : Key) → failing l ≡ Some k
    → (o : Option SumRange) → sum_now l k ≡ o → option_map (fail_move t l k) o ≡ Some deed → IsFine moment past deed
fail_fine past t moment l deed is running active k first None e f = absurd (let z : ◌≡◌ {A = Option Deed} None (Some deed) = f in cc)
fail_fine past t moment l deed is running active k first (Some range) e f =
    subst (IsFine moment past) (same_Some (fail_move t l k range) deed f) (
      subst (λ o. IsSomeAnd o (λ m. MayFail m (l.finished + 1) k range.name range.value)) (sym is)
          (record { running = running; active = active; first = first; tells = ap (option_map told) e }),
      tt,
    )

finish_fine : (past : List Event) (t : List ℕ) (moment : ℤ) (l : Life) → life t past ≡ Some l → 0 < l.meaning.page_size → IsRunning l (l.finished + 1)
    → is_active l.state ≡ true
    → next_page l ≡ [] → IsFine moment past (Finish t (l.finished + 1))
finish_fine past t moment l is size running active f = (
  subst (λ o. IsSomeAnd o (λ m. MayFinish m (l.finished + 1))) (sym is)
      (record { running = running; active = active; nothing_left = front_none l.meaning.page_size (to_do l) size f }),
  tt,
)

rows_fine : (past : List Event) (t : List ℕ) (moment : ℤ) (l : Life) → life t past ≡ Some l → IsRunning l (l.finished + 1) → is_active l.state ≡ true
    → (k : Key) (keys : List Key) → failing l ≡ None → next_page l ≡ k ∷ keys → IsFine moment past (Page t (l.finished + 1) (filter_map (row_now l) (k ∷ keys)))
rows_fine past t moment l is running active k keys e f = (
  subst (λ o. IsSomeAnd o (λ m. MayPage m (l.finished + 1) rows)) (sym is) (record {
    running = running;
    active = active;
    some = some;
    fits = omega (arith, made_length (row_now l) rows (k ∷ keys) made, ap length f, length-take l.meaning.page_size (to_do l));
    ascending = sorted (keys_in rows) (subst IsAscending (sym page_keys) (subst IsAscending f
        (ascending_take l.meaning.page_size (to_do l) (ascending_filter (is_after l.position) (changed l.meaning l.checkpoints) (ascending-all_keys l.meaning (window l.meaning l.checkpoints))))));
    above = rows_above (is_after l.position) rows
        ∙ (ap (list_all (is_after l.position)) page_keys
        ∙ (ap (list_all (is_after l.position)) (sym f) ∙ all_filter (is_after l.position) l.meaning.page_size (changed l.meaning l.checkpoints)));
  }),
  subst (λ o. IsSomeAnd o (λ m. IsRight m rows)) (sym is) (record { some = some; same = made ∙ ap (map (row_now l)) (sym f) }),
)
  where
    rows : List Row
    rows = filter_map (row_now l) (k ∷ keys)

    made : map Some (filter_map (row_now l) (k ∷ keys)) ≡ map (row_now l) (k ∷ keys)
    made = all_made (row_now l) (k ∷ keys) (ap (find (λ j. is_none (row_now l j))) (sym f) ∙ e)

    page_keys : keys_in (filter_map (row_now l) (k ∷ keys)) ≡ k ∷ keys
    page_keys = keys_from (row_now l) (keyed l.meaning (counted_last l.meaning l.checkpoints)) (filter_map (row_now l) (k ∷ keys)) (k ∷ keys) made

    some : 0 < length (filter_map (row_now l) (k ∷ keys))
    some = let z = made_length (row_now l) (filter_map (row_now l) (k ∷ keys)) (k ∷ keys) made in omega arith

page_fine : (past : List Event) (t : List ℕ) (moment : ℤ) (l : Life) (deed : Deed) → life t past ≡ Some l → 0 < l.meaning.page_size
    → IsRunning l (l.finished + 1) → is_active l.state ≡ true
    → (o : Option Key) (keys : List Key) → failing l ≡ o → next_page l ≡ keys → page_move t l o keys ≡ Some deed → IsFine moment past deed
page_fine past t moment l deed is size running active (Some k) keys e f g = fail_fine past t moment l deed is running active k e (sum_now l k) refl g
page_fine past t moment l deed is size running active None [] e f g =
    subst (IsFine moment past) (same_Some (Finish t (l.finished + 1)) deed g) (finish_fine past t moment l is size running active f)
page_fine past t moment l deed is size running active None (k ∷ keys) e f g =
    subst (IsFine moment past) (same_Some (Page t (l.finished + 1) (filter_map (row_now l) (k ∷ keys))) deed g) (rows_fine past t moment l is running active k keys e f)

begin_fine : (past : List Event) (t : List ℕ) (moment : ℤ) (l : Life) → life t past ≡ Some l → l.state ≡ Started → l.finished ≡ length l.checkpoints
    → is_due l (documents past) moment ≡ true → IsFine moment past (begin_move t l moment)
begin_fine past t moment l is started idle due = (
  subst (λ o. IsSomeAnd o (λ m. MayBegin m (documents past) (l.finished + 1) (next_bound l.meaning (last_bound l.checkpoints) moment) moment)) (sym is)
      (record { started = started; idle = idle; due = due; number = refl; bound_is = refl }),
  tt,
)

chain : (past : List Event) (t : List ℕ) (moment : ℤ) (deed : Deed) (l : Life) → life t past ≡ Some l → 0 < l.meaning.page_size → CountHold past l
    → (a b c : Bool) → may_stop l.state l ≡ a → (is_started l.state && is_due l (documents past) moment) ≡ b → (is_running l && is_active l.state) ≡ c
    → cond a (Some (StoppedDeed t)) (cond b (Some (begin_move t l moment)) (cond c (page_move t l (failing l) (next_page l)) None)) ≡ Some deed → IsFine moment past deed
chain past t moment deed l is size h true b c p q r e = subst (IsFine moment past) (same_Some (StoppedDeed t) deed e) (subst (λ o. IsSomeAnd o (λ m. may_stop m.state m ≡ true)) (sym is) p, tt)
chain past t moment deed l is size h false true c p q r e =
    let state = started_idle l.state l.finished (length l.checkpoints) (and_first (is_started l.state) (is_due l (documents past) moment) q) h.started in
    subst (IsFine moment past) (same_Some (begin_move t l moment) deed e) (begin_fine past t moment l is state.0 state.1 (and_second (is_started l.state) (is_due l (documents past) moment) q))
chain past t moment deed l is size h false false true p q r e =
    page_fine past t moment l deed is size (refl, running_from l.finished (length l.checkpoints) (and_first (is_running l) (is_active l.state) r) h.count) (and_second (is_running l) (is_active l.state) r) (failing l) (next_page l) refl refl e
chain past t moment deed l is size h false false false p q r e = absurd (let z : ◌≡◌ {A = Option Deed} None (Some deed) = e in cc)

moved : (past : List Event) (t : List ℕ) (moment : ℤ) (deed : Deed) (o : Option Life) → life t past ≡ o → IfSome o (λ l. 0 < l.meaning.page_size)
    → IfSome o (CountHold past) → option_and_then (λ l. move_of t l (documents past) moment) o ≡ Some deed → IsFine moment past deed
moved past t moment deed None is size h e = absurd (let z : ◌≡◌ {A = Option Deed} None (Some deed) = e in cc)
moved past t moment deed (Some l) is size h e = chain past t moment deed l is size h (may_stop l.state l) (is_started l.state && is_due l (documents past) moment) (is_running l && is_active l.state) refl refl refl e

pub moves_are_legal : MovesAreLegal
moves_are_legal past t moment deed legal size e = moved past t moment deed (life t past) refl size (holds (λ _ _. ⊤) CountHold kept t past legal (legal_known t past legal)) e
