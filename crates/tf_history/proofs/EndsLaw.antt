-- At one moment each move of a transform leaves fewer moves.
use Rattle.std.proofs.Common.{◌≡◌, ℕ, ℤ, suc, ◌+◌, ◌<◌, ◌≤◌, Bool, true, false, ◌&&◌, List, [], ◌∷◌, ◌++◌, length, drop, filter, Option, Some, None, refl, sym, ap, subst, ◌∙◌, arith, length-drop, length-take}
use Rattle.std.specs.Prelude.{◌||◌, IsSomeAnd, IfSome, filter_map, option_map, option_and_then, nat_lt, if◌then◌else◌, not, int_lt, int_le}
use Rattle.std.specs.Int.{int_max}
use Rattle.std.proofs.lemmas.Int.{ints}
use Rattle.std.proofs.Math.Seq.{drop-length}
use Rattle.std.proofs.lemmas.List.{append-nil}
use Rattle.std.proofs.lemmas.Bool.{le-ltb}
use Rattle.std.proofs.lemmas.List.{length-map}
use Rattle.std.proofs.lemmas.Option.{same_Some}
use Rattle.std.proofs.lemmas.Slice.Eq.{bytes_eq-Decides}
use Rattle.tf_model.specs.declared.doc.Doc.{Doc}
use Rattle.tf_model.specs.declared.entry.Row.{Row}
use Rattle.tf_model.specs.declared.entry.SumRange.{SumRange}
use Rattle.tf_model.specs.declared.value.Key.{Key}
use Rattle.tf_model.specs.declared.task.State.{State}
use Rattle.tf_model.specs.declared.task.State.TheVariants.{Stopped, Started, Indexing, Stopping, Failed}
use Rattle.tf_model.specs.Changed.{is_after}
use Rattle.tf_history.specs.Events.{Deed, Event}
use Rattle.tf_history.specs.Events.Deed.{Stopped as StoppedDeed, Page, Finish}
use Rattle.tf_history.specs.Histories.{MovesEnd, IsRightEvent}
use Rattle.tf_history.specs.Legality.{IsAllowed, IsLegal, IsRight, IsRunning, MayFinish, MayPage, move_of, page_move, fail_move, begin_move, next_move, next_page, next_checkpoint, to_do, failing, row_now, sum_now, moves_left, moves_of_next, is_empty, is_time, may_stop, is_started, is_due, is_active}
use Rattle.tf_history.specs.Grouping.{counted, counts, from_bound, is_below, is_from}
use Rattle.tf_history.specs.Lives.{Life, Act, life, life_after, lived, act, documents, writes, from_sources, changed, window, counted_last, last_bound, next_bound, is_running, last_key, is_same, after_finish}
use Rattle.tf_history.specs.Lives.Act.{Begins, Pages, Finishes, Turns}
use Rattle.tf_history.specs.Lives.Turn.{Stops, Fails}
use Rattle.tf_model.specs.Bounds.{risen}
use Rattle.tf_history.specs.Meaning.{Meaning}
use Rattle.tf_history.proofs.CompleteLaw.{continuous_next}
use Rattle.tf_history.proofs.Lists.{and_first, and_second}
use Rattle.tf_history.proofs.Counting.{keyed}
use Rattle.tf_history.proofs.Keys.{ascending-all_keys, above_page, last_of}
use Rattle.tf_history.proofs.MovesLaw.{moves_are_legal}
use Rattle.tf_history.proofs.Rows.{keys_in, keys_from, last_key-keys}
use Rattle.tf_history.proofs.RowsLaw.{filled}

-- what is left by its three tests
abbrev left_of : Bool → Bool → Bool → ℕ → ℕ → ℕ
left_of stop index started paged next = if stop then 1 else if index then paged + 2 + next else if started then next else 0

same_itself : (t : List ℕ) → is_same t t ≡ true
same_itself t = (bytes_eq-Decides t t).1 refl

-- ---- what is left after each move
none_left : (b : Bool) (paged next most : ℕ) → 0 < most → left_of false (b && false) false paged next < most
none_left true paged next most h = h
none_left false paged next most h = h

some_left : (b : Bool) (paged next n : ℕ) → next ≡ 0 → paged ≤ n → left_of false (b && true) false paged next < n + 3
some_left true paged next n e h = let g : paged + 2 + next < n + 3 = omega arith in g
some_left false paged next n e h = let g : 0 < n + 3 = omega arith in g

left_page : (stop index started : Bool) (paged next n : ℕ) → stop ≡ false → started ≡ false → paged < n → left_of stop index started paged next < n + 2 + next
left_page true index started paged next n e f h = absurd (let z : true ≡ false = e in cc)
left_page false true started paged next n e f h = let g : paged + 2 + next < n + 2 + next = omega arith in g
left_page false false true paged next n e f h = absurd (let z : true ≡ false = f in cc)
left_page false false false paged next n e f h = let g : 0 < n + 2 + next = omega arith in g

left_finished : (stop index : Bool) (paged next : ℕ) → index ≡ false → left_of stop index true paged next < 2 + next
left_finished true index paged next e = let g : 1 < 2 + next = omega arith in g
left_finished false true paged next e = absurd (let z : true ≡ false = e in cc)
left_finished false false paged next e = let g : next < 2 + next = omega arith in g

one_left : (stop index started : Bool) (paged next : ℕ) → stop ≡ true → left_of stop index started paged next < 2 + next
one_left true index started paged next e = let g : 1 < 2 + next = omega arith in g
one_left false index started paged next e = absurd (let z : false ≡ true = e in cc)

not_started : (state : State) → is_active state ≡ true → is_started state ≡ false
not_started Indexing e = refl
not_started Stopping e = refl
not_started Stopped e = refl
not_started Failed e = refl
not_started Started e = absurd (let z : false ≡ true = e in cc)

short_by : (b : Bool) (k : Key) (kept keys : List Key) → length kept ≤ length keys → length (if b then k ∷ kept else kept) ≤ suc (length keys)
short_by true k kept keys h = omega arith
short_by false k kept keys h = omega arith

filter_short : (p : Key → Bool) (keys : List Key) → length (filter p keys) ≤ length keys
filter_short p [] = omega arith
filter_short p (k ∷ keys) = short_by (p k) k (filter p keys) keys (filter_short p keys)

and_false : (b : Bool) → (b && false) ≡ false
and_false true = refl
and_false false = refl

not_active : (state : State) → is_started state ≡ true → is_active state ≡ false
not_active Started e = refl
not_active Stopped e = refl
not_active Indexing e = absurd (let z : false ≡ true = e in cc)
not_active Stopping e = absurd (let z : false ≡ true = e in cc)
not_active Failed e = refl

or_true : (b : Bool) → (b || true) ≡ true
or_true true = refl
or_true false = refl

-- ---- behind a Begin of this moment no checkpoint is due
greatest_twice : (a b : ℤ) → int_max (int_max a b) b ≡ int_max a b
greatest_twice a b = grind (arith, ints)

greatest_itself : (a : ℤ) → int_max a a ≡ a
greatest_itself a = grind (arith, ints)

risen_twice : (last : Option ℤ) (a : ℤ) → risen (Some (risen last a)) a ≡ risen last a
risen_twice None a = greatest_itself a
risen_twice (Some b) a = greatest_twice b a

not_from : (v bound : ℤ) → int_lt v bound ≡ true → int_le bound v ≡ false
not_from v bound e = grind (arith, ints)

below_or_from : (v bound : ℤ) (b : Bool) → int_lt v bound ≡ b → (b && int_le bound v) ≡ false
below_or_from v bound true e = not_from v bound e
below_or_from v bound false e = refl

-- no document counts below a bound and has a sync value from it on
counted_apart : (matches : Bool) (bound : ℤ) (value : Option ℤ) → ((matches && is_below (Some bound) value) && is_from (Some bound) value) ≡ false
counted_apart false bound value = refl
counted_apart true bound None = refl
counted_apart true bound (Some v) = below_or_from v bound (int_lt v bound) refl

filter_apart : (p q : Doc → Bool) → ((d : Doc) → (p d && q d) ≡ false) → (docs : List Doc) → filter q (filter p docs) ≡ []
filter_apart p q apart [] = refl
filter_apart p q apart (d ∷ docs) =
    elim (p d) as (λ b. (b && q d) ≡ false → filter q (if b then d ∷ filter p docs else filter p docs) ≡ []) [
      | true ↦ λ e. ap (λ b. if b then d ∷ filter q (filter p docs) else filter q (filter p docs)) e ∙ filter_apart p q apart docs
      | false ↦ λ e. filter_apart p q apart docs
    ] (apart d)

nothing_between : (c : Meaning) (bound : ℤ) (docs : List Doc) → from_bound c (Some bound) (counted c (Some bound) docs) ≡ []
nothing_between c bound docs =
    filter_apart (counts c (Some bound)) (λ d. is_from (Some bound) (c.sync d)) (λ d. counted_apart (c.matches d) bound (c.sync d)) docs

-- the documents from a bound up to the same bound, where nothing was written in between
abbrev window_of : Meaning → Bool → Option ℤ → Option ℤ → List Doc → List Doc
window_of c includes_late from to docs =
    if includes_late then from_bound c from (counted c to docs) ++ counted c to (drop (length docs) docs) else from_bound c from (counted c to docs)

no_window : (c : Meaning) (includes_late : Bool) (bound : ℤ) (docs : List Doc) → window_of c includes_late (Some bound) (Some bound) docs ≡ []
no_window c true bound docs =
    ap (λ ds. ds ++ counted c (Some bound) (drop (length docs) docs)) (nothing_between c bound docs) ∙ ap (λ ds. counted c (Some bound) ds) (drop-length docs)
no_window c false bound docs = nothing_between c bound docs

-- the bound of a moment, and the next one of the same moment
window_again : (c : Meaning) (last : Option ℤ) (moment : ℤ) (docs : List Doc) → c.is_batch ≡ false
    → window_of c c.includes_late (next_bound c last moment) (next_bound c (next_bound c last moment) moment) docs ≡ []
window_again c last moment docs continuous =
    let bound = risen last (c.aligned moment) in
    let first : next_bound c last moment ≡ Some bound = continuous_next c last moment continuous in
    let again : next_bound c (next_bound c last moment) moment ≡ Some bound
    = ap (λ o. next_bound c o moment) first ∙ (continuous_next c (Some bound) moment continuous ∙ ap Some (risen_twice last (c.aligned moment))) in
    (λ i. window_of c c.includes_late (first i) (again i) docs) ∙ no_window c c.includes_late bound docs

not_due : (c : Meaning) (docs : List Doc) (time : Bool) → (c.is_batch ≡ false → docs ≡ []) → (b : Bool) → c.is_batch ≡ b → (not b && (not (is_empty docs) && time)) ≡ false
not_due c docs time empty true e = refl
not_due c docs time empty false e = ap (λ ds. not (is_empty ds) && time) (empty e)

-- ---- the moves
module _ (past : List Event) (t : List ℕ) (moment : ℤ) (l : Life) (is : life t past ≡ Some l) where
  abbrev event : Deed → Event
  event deed = record { moment = moment; deed = deed }

  -- the moves of the next checkpoint
  abbrev next : ℕ
  next = moves_of_next l (documents past) moment

  -- a life has the meaning, and fewer moves left than so many
  abbrev Leaves : ℕ → List Doc → Life → Type 0
  Leaves most docs now = (now.meaning ≡ l.meaning) × (moves_left now docs moment < most)

  -- the life after a deed has
  abbrev After : ℕ → Deed → Type 0
  After most deed = IsSomeAnd (life t (event deed ∷ past)) (Leaves most (documents (event deed ∷ past)))

  -- after a deed that is an act, and writes nothing
  after_act : (most : ℕ) (deed : Deed) (a : Act) (now : Life) → writes deed ≡ [] → act t (event deed) ≡ a → life_after (documents past) a (Some l) ≡ Some now
      → Leaves most (documents past) now → After most deed
  after_act most deed a now none acts after leaves =
      let same : documents past ≡ documents (event deed ∷ past) = sym (append-nil (documents past)) ∙ ap (λ ds. documents past ++ ds) (sym none) in
      subst (λ o. IsSomeAnd o (Leaves most (documents (event deed ∷ past)))) (sym (ap (λ b. life_after (documents past) b (life t past)) acts ∙ (ap (life_after (documents past) a) is ∙ after)))
      (subst (λ ds. Leaves most ds now) same leaves)

  own : (a other : Act) → (if is_same t t then a else other) ≡ a
  own a other = ap (λ b. if b then a else other) (same_itself t)

  after_stopped : After 1 (StoppedDeed t)
  after_stopped =
      let now = lived (documents past) (Turns Stops) l in
      after_act 1 (StoppedDeed t) (Turns Stops) now refl (own (Turns Stops) Act.Aside) refl
      (refl, none_left (is_running l) (length (to_do l)) next 1 (omega arith))

  after_begin : After (length (changed l.meaning (next_checkpoint l (documents past) moment ∷ l.checkpoints)) + 3) (begin_move t l moment)
  after_begin =
      let docs = documents past in
      let c = next_checkpoint l docs moment in
      let begins = Begins (l.finished + 1) c.bound moment in
      let now = lived docs begins l in
      let none : is_due now docs moment ≡ false
      = not_due l.meaning (window l.meaning (next_checkpoint now docs moment ∷ now.checkpoints)) (is_time l.meaning now.checkpoints now.prompted moment)
      (window_again l.meaning (last_bound l.checkpoints) moment (from_sources l.meaning docs)) l.meaning.is_batch refl in
      after_act (length (changed l.meaning (c ∷ l.checkpoints)) + 3) (begin_move t l moment) begins now refl (own begins Act.Aside) refl (
        refl,
        some_left (is_running now) (length (to_do now)) (moves_of_next now docs moment) (length (changed l.meaning (c ∷ l.checkpoints)))
            (ap (λ b. if b then length (changed now.meaning (next_checkpoint now docs moment ∷ now.checkpoints)) + 3 else 0) none)
            (filter_short (is_after None) (changed l.meaning (c ∷ l.checkpoints))),
      )

  after_fail : (most : ℕ) (k : Key) (range : SumRange) → 0 < most → After most (fail_move t l k range)
  after_fail most k range some =
      let fails = Turns (Fails k range.name range.value) in
      after_act most (fail_move t l k range) fails (lived (documents past) fails l) refl (own fails Act.Aside) refl
      (refl, none_left (is_running l) (length (to_do l)) next most some)

  module _ (running : IsRunning l (l.finished + 1)) (active : is_active l.state ≡ true) where
    abbrev finishes : Act
    finishes = Finishes (l.finished + 1)

    abbrev finished : Life
    finished = lived (documents past) finishes l

    idle_now : nat_lt (l.finished + 1) (length l.checkpoints) ≡ false
    idle_now = le-ltb (l.finished + 1) (length l.checkpoints) (omega (arith, running.1))

    finish_leaves : (state : State) → is_active state ≡ true
        → left_of (may_stop (after_finish state) finished) (is_running finished && is_active (after_finish state)) (is_started (after_finish state)) (length (to_do finished)) next < 2 + next
    finish_leaves Indexing e = left_finished (may_stop Started finished) (is_running finished && false) (length (to_do finished)) next (and_false (is_running finished))
    finish_leaves Stopping e = one_left (may_stop Stopping finished) (is_running finished && true) false (length (to_do finished)) next
        (ap (λ b. not l.waits || not b) idle_now ∙ or_true (not l.waits))
    finish_leaves Stopped e = absurd (let z : false ≡ true = e in cc)
    finish_leaves Started e = absurd (let z : false ≡ true = e in cc)
    finish_leaves Failed e = absurd (let z : false ≡ true = e in cc)

    after_finished : After (2 + next) (Finish t (l.finished + 1))
    after_finished = after_act (2 + next) (Finish t (l.finished + 1)) finishes finished refl (own finishes Act.Aside) refl (refl, finish_leaves l.state active)

    module _ (size : 0 < l.meaning.page_size) (stays : may_stop l.state l ≡ false) (rows : List Row) (right : IsRight l rows) where
      abbrev paged : Life
      paged = lived (documents past) (Pages (l.finished + 1) rows) l

      same_stop : (state : State) → may_stop state paged ≡ may_stop state l
      same_stop Stopped = refl
      same_stop Started = refl
      same_stop Indexing = refl
      same_stop Stopping = refl
      same_stop Failed = refl

      page_keys : keys_in rows ≡ next_page l
      page_keys = keys_from (row_now l) (keyed l.meaning (counted_last l.meaning l.checkpoints)) rows (next_page l) right.same

      fewer : (o : Option Key) → last_key rows ≡ o → length (filter (is_after o) (changed l.meaning l.checkpoints)) < length (to_do l)
      fewer None e = absurd (filled rows right.some e)
      fewer (Some last) e =
          let end : last_of (next_page l) ≡ Some last = ap last_of (sym page_keys) ∙ (sym (last_key-keys rows) ∙ e) in
          let above : filter (is_after (Some last)) (changed l.meaning l.checkpoints) ≡ drop l.meaning.page_size (to_do l)
          = above_page (changed l.meaning l.checkpoints) l.position l.meaning.page_size last (ascending-all_keys l.meaning (window l.meaning l.checkpoints)) end in
          let keyed : length rows ≡ length (next_page l) = simp length-map at (ap length page_keys) in
          omega (arith, size, right.some, keyed, ap length above, length-drop l.meaning.page_size (to_do l), length-take l.meaning.page_size (to_do l))

      after_page : After (length (to_do l) + 2 + next) (Page t (l.finished + 1) rows)
      after_page =
          let pages = Pages (l.finished + 1) rows in
          after_act (length (to_do l) + 2 + next) (Page t (l.finished + 1) rows) pages paged refl (own pages Act.Aside) refl (
            refl,
            left_page (may_stop l.state paged) (is_running paged && is_active l.state) (is_started l.state) (length (to_do paged)) next (length (to_do l))
                (same_stop l.state ∙ stays) (not_started l.state active) (fewer (last_key rows) refl),
          )

-- ---- each next move
module _ (past : List Event) (t : List ℕ) (moment : ℤ) (deed : Deed) (l : Life) (legal : IsLegal past) (is : life t past ≡ Some l) (size : 0 < l.meaning.page_size)
    (next_is : next_move t past moment ≡ Some deed) where
  fine : IsAllowed moment deed past × IsRightEvent deed past
  fine = moves_are_legal past t moment deed legal (subst (λ o. IfSome o (λ l. 0 < l.meaning.page_size)) (sym is) size) next_is

  abbrev Ends : ℕ → Type 0
  Ends most = After past t moment l is most deed

  -- what is left of the running checkpoint, and the next one
  abbrev left_running : ℕ
  left_running = length (to_do l) + 2 + moves_of_next l (documents past) moment

  as_deed : (most : ℕ) (other : Deed) → other ≡ deed → After past t moment l is most other → Ends most
  as_deed most other e h = subst (After past t moment l is most) e h

  page_ends : may_stop l.state l ≡ false → is_running l ≡ true → is_active l.state ≡ true → (o : Option Key) (keys : List Key) → next_page l ≡ keys
      → page_move t l o keys ≡ Some deed → Ends left_running
  page_ends stays running active (Some k) keys f e = by (sum_now l k) e
    where
      by : (o : Option SumRange) → option_map (fail_move t l k) o ≡ Some deed → Ends left_running
      by None e = absurd (let z : ◌≡◌ {A = Option Deed} None (Some deed) = e in cc)
      by (Some range) e = as_deed left_running (fail_move t l k range) (same_Some (fail_move t l k range) deed e) (after_fail past t moment l is left_running k range (omega arith))
  page_ends stays running active None [] f e =
      let finish = Finish t (l.finished + 1) in
      let same : finish ≡ deed = same_Some finish deed e in
      let may : MayFinish l (l.finished + 1) = subst (λ o. IsSomeAnd o (λ m. MayFinish m (l.finished + 1))) is (subst (λ d. IsAllowed moment d past) (sym same) fine.0) in
      as_deed left_running finish same
      (subst (λ n. After past t moment l is n finish) (sym (ap (λ keys. length keys + 2 + moves_of_next l (documents past) moment) may.nothing_left)) (after_finished past t moment l is may.running active))
  page_ends stays running active None (k ∷ keys) f e =
      let rows = filter_map (row_now l) (k ∷ keys) in
      let page = Page t (l.finished + 1) rows in
      let same : page ≡ deed = same_Some page deed e in
      let may : MayPage l (l.finished + 1) rows = subst (λ o. IsSomeAnd o (λ m. MayPage m (l.finished + 1) rows)) is (subst (λ d. IsAllowed moment d past) (sym same) fine.0) in
      let right : IsRight l rows = subst (λ o. IsSomeAnd o (λ m. IsRight m rows)) is (subst (λ d. IsRightEvent d past) (sym same) fine.1) in
      as_deed left_running page same (after_page past t moment l is may.running active size stays rows right)

  begin_ends : may_stop l.state l ≡ false → is_started l.state ≡ true → is_due l (documents past) moment ≡ true → begin_move t l moment ≡ deed → Ends (moves_left l (documents past) moment)
  begin_ends stays started due same =
      let keys = length (changed l.meaning (next_checkpoint l (documents past) moment ∷ l.checkpoints)) in
      let most : moves_left l (documents past) moment ≡ keys + 3
      = ap (λ b. left_of b (is_running l && is_active l.state) (is_started l.state) (length (to_do l)) (moves_of_next l (documents past) moment)) stays
      ∙ (ap (λ b. left_of false (is_running l && b) (is_started l.state) (length (to_do l)) (moves_of_next l (documents past) moment)) (not_active l.state started)
      ∙ (ap (λ b. left_of false b (is_started l.state) (length (to_do l)) (moves_of_next l (documents past) moment)) (and_false (is_running l))
      ∙ (ap (λ b. left_of false false b (length (to_do l)) (moves_of_next l (documents past) moment)) started
      ∙ ap (λ b. if b then keys + 3 else 0) due))) in
      subst Ends (sym most) (as_deed (keys + 3) (begin_move t l moment) same (after_begin past t moment l is))

  by_tests : (stop begin index : Bool) → may_stop l.state l ≡ stop → (is_started l.state && is_due l (documents past) moment) ≡ begin → (is_running l && is_active l.state) ≡ index
      → (if stop then Some (StoppedDeed t) else if begin then Some (begin_move t l moment) else if index then page_move t l (failing l) (next_page l) else None) ≡ Some deed
      → Ends (moves_left l (documents past) moment)
  by_tests true begin index stop e f g =
      subst Ends (sym (ap (λ b. left_of b (is_running l && is_active l.state) (is_started l.state) (length (to_do l)) (moves_of_next l (documents past) moment)) stop))
      (as_deed 1 (StoppedDeed t) (same_Some (StoppedDeed t) deed g) (after_stopped past t moment l is))
  by_tests false true index stop e f g =
      begin_ends stop (and_first (is_started l.state) (is_due l (documents past) moment) e) (and_second (is_started l.state) (is_due l (documents past) moment) e) (same_Some (begin_move t l moment) deed g)
  by_tests false false true stop e f g =
      subst Ends (sym (ap (λ b. left_of b (is_running l && is_active l.state) (is_started l.state) (length (to_do l)) (moves_of_next l (documents past) moment)) stop
      ∙ ap (λ b. left_of false b (is_started l.state) (length (to_do l)) (moves_of_next l (documents past) moment)) f))
      (page_ends stop (and_first (is_running l) (is_active l.state) f) (and_second (is_running l) (is_active l.state) f) (failing l) (next_page l) refl g)
  by_tests false false false stop e f g = absurd (let z : ◌≡◌ {A = Option Deed} None (Some deed) = g in cc)

pub moves_end : MovesEnd
moves_end past t e l legal is size next =
    by_tests past t e.moment e.deed l legal is size next (may_stop l.state l) (is_started l.state && is_due l (documents past) e.moment) (is_running l && is_active l.state) refl refl refl
    (ap (λ o. option_and_then (λ m. move_of t m (documents past) e.moment) o) (sym is) ∙ next)
