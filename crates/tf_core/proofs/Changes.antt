-- A summary after a change, and after a document.
use Rattle.std.proofs.Common.{◌≡◌, ℕ, ℤ, suc, add-one, ◌+◌, ◌^◌, ◌<◌, Bool, true, not, List, [], ◌∷◌, ◌++◌, length, take, Option, Some, None, arith, refl, sym, ap, ◌∙◌, subst, length-append}
use Rattle.std.specs.Prelude.{count_by, nat_lt, option_map}
use Rattle.std.specs.List.{AllByRecursion, filter}
use Rattle.std.specs.Global.{Vec}
use Rattle.tf_dest.specs.declared.held.Held.{Held}
use Rattle.tf_dest.specs.Tables.{Table, rows_in, rows_of}
use Rattle.std.proofs.lemmas.List.{length-map, take-append-le}
use Rattle.tf_model.specs.declared.doc.Doc.{Doc}
use Rattle.tf_model.specs.declared.config.Retention.{Retention}
use Rattle.tf_model.specs.declared.entry.Row.{Row}
use Rattle.tf_model.specs.declared.entry.SumRange.{SumRange}
use Rattle.tf_model.specs.declared.task.State.{State}
use Rattle.tf_model.specs.declared.task.State.TheVariants as state
use Rattle.tf_model.specs.declared.value.Key.{Key}
use Rattle.tf_history.specs.Grouping.{stays}
use Rattle.tf_history.specs.Lives.{Life, after_finish, cutoff, fresh, from_sources, last_key, life_after, lived, put_rows, row_stays}
use Rattle.tf_history.specs.Lives.Act.{Begins, Finishes, Pages}
use Rattle.tf_history.specs.Acts.{IsNextBegin, MayAct}
use Rattle.tf_history.specs.Meaning.{Meaning}
use Rattle.tf_history.proofs.KeptLaw.{no_cutoff}
use Rattle.tf_core.specs.declared.ready.Change.{Change}
use Rattle.tf_core.specs.declared.ready.Change.TheVariants as change
use Rattle.tf_core.specs.declared.transform.Transform.{Transform}
use Rattle.tf_core.specs.Passed.{IsPassed}
use Rattle.tf_core.specs.Steps.{Changed, IsWhole, act_of, changed, rows_after, started}
use Rattle.tf_core.specs.Summary.{IsFew, IsSummary, put_of}
use Rattle.tf_core.specs.Table.{Tells}
use Rattle.tf_core.proofs.Passed.{all_passed_on, bound_rises, marked_more}

-- more documents
pub more_docs : (docs more : List Doc) (t : Transform) (l : Life) → IsSummary docs t l → IsSummary (docs ++ more) t l
more_docs docs more t l h = record {
  meaning_is = h.meaning_is;
  forever = h.forever;
  state = h.state;
  waits = h.waits;
  prompted = h.prompted;
  begun = h.begun;
  low = h.low;
  bound = h.bound;
  moment = h.moment;
  within = omega (arith, h.within, length-append docs more);
  read = h.read ∙ ap (from_sources l.meaning) (sym (take-append-le t.read docs more h.within));
  marked = marked_more docs more t.config t.low t.bound t.read t.passed h.within h.marked;
  earlier_moment = h.earlier_moment;
  earlier_within = omega (arith, h.earlier_within, length-append docs more);
  earlier_read = h.earlier_read ∙ ap (from_sources l.meaning) (sym (take-append-le t.before_read docs more h.earlier_within));
  finished = h.finished;
  position = h.position;
  pages = h.pages;
  late = h.late;
  reason = h.reason;
  processed = h.processed;
  indexed = h.indexed;
  deleted = h.deleted;
  rows = h.rows;
}

-- ---- a Finish without retention takes no row out
all_stay : (c : Meaning) (docs : List Doc) (rows : List Row) → filter (stays c docs None) rows ≡ rows
all_stay c docs [] = refl
all_stay c docs (r ∷ rows) = ap (λ rs. r ∷ rs) (all_stay c docs rows)

none_counted : (c : Meaning) (docs : List Doc) (rows : List Row) → count_by (λ r. not (stays c docs None r)) rows ≡ 0
none_counted c docs [] = refl
none_counted c docs (r ∷ rows) = none_counted c docs rows

no_limit : (docs : List Doc) (t : Transform) (l : Life) → IsSummary docs t l → cutoff l.meaning l.checkpoints ≡ None
no_limit docs t l h =
    let forever : l.meaning.max_age ≡ None = ap (λ (c : Meaning). c.max_age) h.meaning_is ∙ ap (option_map (λ (r : Retention). r.max_age_ms)) h.forever in
    no_cutoff l.meaning l.checkpoints forever

none_leave : (docs : List Doc) (t : Transform) (l : Life) → IsSummary docs t l → filter (row_stays docs l) l.rows ≡ l.rows
none_leave docs t l h =
    ap (λ cut. filter (stays l.meaning (from_sources l.meaning docs) cut) l.rows) (no_limit docs t l h)
    ∙ all_stay l.meaning (from_sources l.meaning docs) l.rows

none_deleted : (docs : List Doc) (t : Transform) (l : Life) → IsSummary docs t l → count_by (λ r. not (row_stays docs l r)) l.rows ≡ 0
none_deleted docs t l h =
    ap (λ cut. count_by (λ r. not (stays l.meaning (from_sources l.meaning docs) cut r)) l.rows) (no_limit docs t l h)
    ∙ none_counted l.meaning (from_sources l.meaning docs) l.rows

take_all : (docs : List Doc) → take (length docs) docs ≡ docs
take_all [] = refl
take_all (d ∷ docs) = ap (λ ds. d ∷ ds) (take_all docs)

take_none : (docs : List Doc) → take 0 docs ≡ []
take_none [] = refl
take_none (d ∷ docs) = refl

-- ---- a change
module _ (docs : List Doc) (t : Transform) (l : Life) (h : IsSummary docs t l) (rows : Table) where
  -- what changes the state alone
  turned : (s u : State) (w v p q : Bool) (r o : Option SumRange) → rows_in rows ≡ rows_in t.rows → s ≡ u → w ≡ v → p ≡ q → r ≡ o
      → IsSummary docs (record t { state = s; waits = w; prompted = p; reason = r; rows = rows }) (record l { state = u; waits = v; prompted = q; reason = o })
  turned s u w v p q r o same state waits prompted reason = record {
    meaning_is = h.meaning_is;
    forever = h.forever;
    state = state;
    waits = waits;
    prompted = prompted;
    begun = h.begun;
    low = h.low;
    bound = h.bound;
    moment = h.moment;
    within = h.within;
    read = h.read;
    marked = h.marked;
    earlier_moment = h.earlier_moment;
    earlier_within = h.earlier_within;
    earlier_read = h.earlier_read;
    finished = h.finished;
    position = h.position;
    pages = h.pages;
    late = h.late;
    reason = reason;
    processed = h.processed;
    indexed = h.indexed;
    deleted = h.deleted;
    rows = same ∙ h.rows;
  }

  begins : (n : ℕ) (bound : Option ℤ) (moment : ℤ) → IsNextBegin l n bound moment → rows_in rows ≡ rows_in t.rows
      → IsSummary docs (record (changed (length docs) (change.Begin n bound moment) t) { rows = rows }) (lived docs (Begins n bound moment) l)
  begins n bound moment m same = record {
    meaning_is = h.meaning_is;
    forever = h.forever;
    state = refl;
    waits = h.waits;
    prompted = refl;
    begun = m.number ∙ (add-one l.finished ∙ ap suc m.idle);
    low = h.bound;
    bound = refl;
    moment = refl;
    within = omega arith;
    read = ap (from_sources l.meaning) (sym (take_all docs));
    marked = record {
      risen = bound_rises l n bound moment m t.bound h.bound;
      behind = omega (arith, h.marked.behind, h.within);
      passed = all_passed_on t.config t.low t.bound h.marked.risen (take t.passed docs) h.marked.passed;
    };
    earlier_moment = h.moment;
    earlier_within = h.within;
    earlier_read = h.read;
    finished = h.finished;
    position = refl;
    pages = refl;
    late = h.late;
    reason = h.reason;
    processed = h.processed;
    indexed = h.indexed;
    deleted = h.deleted;
    rows = same ∙ h.rows;
  }

  paged : (n : ℕ) (page : Vec Held) (position : Key) → last_key (rows_of page.items) ≡ Some position → rows_in rows ≡ put_rows (rows_of page.items) (rows_in t.rows)
      → IsSummary docs (record (changed (length docs) (change.Page n page position) t) { rows = rows }) (lived docs (Pages n (rows_of page.items)) l)
  paged n page position last same = record {
    meaning_is = h.meaning_is;
    forever = h.forever;
    state = h.state;
    waits = h.waits;
    prompted = h.prompted;
    begun = h.begun;
    low = h.low;
    bound = h.bound;
    moment = h.moment;
    within = h.within;
    read = h.read;
    marked = h.marked;
    earlier_moment = h.earlier_moment;
    earlier_within = h.earlier_within;
    earlier_read = h.earlier_read;
    finished = h.finished;
    position = sym last;
    pages = ap (λ m. m + 1) h.pages;
    late = h.late;
    reason = h.reason;
    processed = ap (λ m. m + 1) h.processed;
    indexed = λ i. h.indexed i + sym (length-map page.items (λ (x : Held). x.row)) i;
    deleted = h.deleted;
    rows = same ∙ ap (put_rows (rows_of page.items)) h.rows;
  }

  finishes : (n : ℕ) → rows_in rows ≡ rows_in t.rows → IsSummary docs (record (changed (length docs) (change.Finish n) t) { rows = rows }) (lived docs (Finishes n) l)
  finishes n same = record {
    meaning_is = h.meaning_is;
    forever = h.forever;
    state = ap after_finish h.state;
    waits = h.waits;
    prompted = h.prompted;
    begun = h.begun;
    low = h.low;
    bound = h.bound;
    moment = h.moment;
    within = h.within;
    read = h.read;
    marked = h.marked;
    earlier_moment = h.earlier_moment;
    earlier_within = h.earlier_within;
    earlier_read = h.earlier_read;
    finished = refl;
    position = h.position;
    pages = h.pages;
    late = h.late;
    reason = h.reason;
    processed = h.processed;
    indexed = h.indexed;
    deleted = omega (arith, h.deleted, none_deleted docs t l h);
    rows = same ∙ (h.rows ∙ sym (none_leave docs t l h));
  }

  reopens : rows_in rows ≡ [] → IsSummary docs (record (changed (length docs) change.Reset t) { rows = rows }) (fresh l.meaning)
  reopens none = record {
    meaning_is = h.meaning_is;
    forever = h.forever;
    state = refl;
    waits = refl;
    prompted = refl;
    begun = refl;
    low = refl;
    bound = refl;
    moment = refl;
    within = omega arith;
    read = ap (from_sources l.meaning) (sym (take_none docs));
    marked = record { risen = tt; behind = omega arith; passed = subst (AllByRecursion (IsPassed t.config None)) (sym (take_none docs)) tt };
    earlier_moment = refl;
    earlier_within = omega arith;
    earlier_read = ap (from_sources l.meaning) (sym (take_none docs));
    finished = refl;
    position = refl;
    pages = refl;
    late = refl;
    reason = refl;
    processed = refl;
    indexed = refl;
    deleted = refl;
    rows = none;
  }

  -- whatever life the old one tells, the new one tells that life after the act
  changes : (by : Change) → MayAct (act_of by) (Some l) → IsWhole by → rows_in rows ≡ rows_after by (rows_in t.rows)
      → Tells docs (Some (record (changed (length docs) by t) { rows = rows })) (life_after docs (act_of by) (Some l))
  changes change.Start m whole same =
      turned (started (nat_lt t.finished t.begun)) (started (nat_lt l.finished (length l.checkpoints))) t.waits l.waits true true t.reason l.reason same
      (λ j. started (nat_lt (h.finished j) (h.begun j))) h.waits refl h.reason
  changes (change.AskStop wait) m whole same = turned state.Stopping state.Stopping wait wait t.prompted l.prompted t.reason l.reason same refl refl h.prompted h.reason
  changes change.Stop m whole same = turned state.Stopped state.Stopped t.waits l.waits t.prompted l.prompted t.reason l.reason same refl h.waits h.prompted h.reason
  changes change.Prompt m whole same = turned t.state l.state t.waits l.waits true true t.reason l.reason same h.state h.waits refl h.reason
  changes (change.Fail reason) m whole same = turned state.Failed state.Failed t.waits l.waits t.prompted l.prompted (Some reason) (Some reason) same refl h.waits h.prompted refl
  changes (change.Begin n bound at_ms) m whole same = begins n bound at_ms m same
  changes (change.Page n page position) m whole same = paged n page position whole.0 same
  changes (change.Finish n) m whole same = finishes n same
  changes change.Reset m whole same = reopens same

pub change_tells : (docs : List Doc) (by : Change) (old new : Transform) (o : Option Life) → MayAct (act_of by) o → IsWhole by → Changed (length docs) by old new → Tells docs (Some old) o
    → Tells docs (Some new) (life_after docs (act_of by) o)
change_tells docs by old new None m whole c h = absurd h
change_tells docs by old new (Some l) m whole c h =
    subst (λ (x : Transform). Tells docs (Some x) (life_after docs (act_of by) (Some l))) (sym c.same) (changes docs old l h new.rows by m whole c.rows)

-- what a transform was put with does not change
pub put_same : (w : ℕ) (by : Change) (t : Transform) (rows : Table) → put_of (record (changed w by t) { rows = rows }) ≡ put_of t
put_same w change.Start t rows = refl
put_same w (change.AskStop wait) t rows = refl
put_same w change.Stop t rows = refl
put_same w change.Prompt t rows = refl
put_same w (change.Fail reason) t rows = refl
put_same w (change.Begin n bound at_ms) t rows = refl
put_same w (change.Page n page position) t rows = refl
put_same w (change.Finish n) t rows = refl
put_same w change.Reset t rows = refl

pub put_stays : (w : ℕ) (by : Change) (old new : Transform) → Changed w by old new → put_of new ≡ put_of old
put_stays w by old new c = ap put_of c.same ∙ put_same w by old new.rows

-- ---- the counters
pub few_more : (n : ℕ) (t : Transform) → IsFew n t → IsFew (suc n) t
few_more n t h = record {
  late = omega (arith, h.late);
  pages = omega (arith, h.pages);
  processed = omega (arith, h.processed);
  indexed = omega (arith, h.indexed);
}

few_same : (n : ℕ) (t u : Transform) → u.late ≡ t.late → u.pages ≡ t.pages → u.processed ≡ t.processed → u.indexed ≡ t.indexed → IsFew n t → IsFew (suc n) u
few_same n t u late pages processed indexed h = record {
  late = omega (arith, h.late, late);
  pages = omega (arith, h.pages, pages);
  processed = omega (arith, h.processed, processed);
  indexed = omega (arith, h.indexed, indexed);
}

few_with : (n : ℕ) (t : Transform) (rows : Table) → IsFew n t → IsFew n (record t { rows = rows })
few_with n t rows h = record { late = h.late; pages = h.pages; processed = h.processed; indexed = h.indexed }

few_paged : (n m : ℕ) (page : Vec Held) (position : Key) (w : ℕ) (t : Transform) → length page.items < 2 ^ 63 → IsFew n t → IsFew (suc n) (changed w (change.Page m page position) t)
few_paged n m page position w t small h = record {
  late = omega (arith, h.late);
  pages = omega (arith, h.pages);
  processed = omega (arith, h.processed);
  indexed = omega (arith, h.indexed, small);
}

few_changed : (n w : ℕ) (by : Change) (t : Transform) → IsWhole by → IsFew n t → IsFew (suc n) (changed w by t)
few_changed n w change.Start t whole h = few_same n t (changed w change.Start t) refl refl refl refl h
few_changed n w (change.AskStop wait) t whole h = few_same n t (changed w (change.AskStop wait) t) refl refl refl refl h
few_changed n w change.Stop t whole h = few_same n t (changed w change.Stop t) refl refl refl refl h
few_changed n w change.Prompt t whole h = few_same n t (changed w change.Prompt t) refl refl refl refl h
few_changed n w (change.Fail reason) t whole h = few_same n t (changed w (change.Fail reason) t) refl refl refl refl h
few_changed n w (change.Begin m bound at_ms) t whole h = record { late = omega (arith, h.late); pages = omega arith; processed = omega (arith, h.processed); indexed = omega (arith, h.indexed) }
few_changed n w (change.Page m page position) t whole h = few_paged n m page position w t whole.1 h
few_changed n w (change.Finish m) t whole h = few_same n t (changed w (change.Finish m) t) refl refl refl refl h
few_changed n w change.Reset t whole h = record { late = omega arith; pages = omega arith; processed = omega arith; indexed = omega arith }

pub few_after : (n w : ℕ) (by : Change) (old new : Transform) → IsWhole by → Changed w by old new → IsFew n old → IsFew (suc n) new
few_after n w by old new whole c h = subst (IsFew (suc n)) (sym c.same) (few_with (suc n) (changed w by old) new.rows (few_changed n w by old whole h))
