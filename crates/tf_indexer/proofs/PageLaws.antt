-- The next page of a running checkpoint is the work that its transform wants next.
use Rattle.std.proofs.Common.{◌≡◌, ℕ, zero, suc, ◌<◌, Bool, true, false, ◌&&◌, List, [], ◌∷◌, length, map, take, Option, Some, None, refl, sym, ap, ◌∙◌, arith, ltb-true}
use Rattle.std.specs.Prelude.{ℤ, IsSome, IsSomeAnd, is_none, is_some, if◌then◌else◌, option_and_then, option_map}
use Rattle.std.specs.List.{AllByRecursion, find, slice_index_or}
use Rattle.std.specs.Ordering.{is_gt}
use Rattle.std.proofs.lemmas.List.Elements.{recursion_from_All}
use Rattle.tf_model.specs.declared.config.Config.{Config}
use Rattle.tf_model.specs.declared.doc.Doc.{Doc}
use Rattle.tf_model.specs.declared.entry.Row.{Row}
use Rattle.tf_model.specs.declared.task.State.{State}
use Rattle.tf_model.specs.declared.task.State.TheVariants as state
use Rattle.tf_model.specs.declared.value.Key.{Key}
use Rattle.tf_model.specs.Changed.{changed, changed_above, is_after}
use Rattle.tf_model.specs.Counted.{counted, window}
use Rattle.tf_model.specs.Order.{key_cmp}
use Rattle.tf_model.specs.Rows.{pivot_row, sum_range}
use Rattle.tf_model.specs.Scratch.{is_pivot}
use Rattle.tf_history.specs.Events.{Deed}
use Rattle.tf_history.specs.Events.Deed.{Stopped, Finish, Page}
use Rattle.tf_history.specs.Grouping as grouping
use Rattle.tf_history.specs.Legality.{begin_move, fail_move, failing, is_active, is_due, is_started, move_of, next_page, page_move, row_now, sum_now, to_do}
use Rattle.tf_history.specs.Lives.{Checkpoint, Life, counted_last, is_running, last_bound, life, read_last}
use Rattle.tf_history.specs.Lives as lives
use Rattle.tf_history.proofs.Keys.{IsAscending, ascending_filter}
use Rattle.tf_history.proofs.MeaningLaw.{meanings_agree}
use Rattle.tf_reader.specs.Places.{documents}
use Rattle.tf_plan.specs.declared.page.Page.{Page as PlanPage}
use Rattle.tf_plan.specs.declared.page.Page.TheVariants as page
use Rattle.tf_plan.proofs.PositionLaws.{ascending_keys}
use Rattle.tf_core.specs.declared.job.Running.{Running}
use Rattle.tf_core.specs.Job.{Fits, IsCheckpointOf, deed_for}
use Rattle.tf_core.specs.Legal.{read}
use Rattle.tf_core.specs.Summary.{bound_before}
use Rattle.tf_core.proofs.NewestCheckpoint.{no_row, pivoted}
use Rattle.tf_core.proofs.Fitting.{form_of}
use Rattle.tf_core.proofs.NextMove.{rows_made}
use Rattle.tf_core.proofs.NextPages.{ascending_take, not_below}
use Rattle.tf_indexer.specs.Works.{IsPageFor, PagesFit, work_by}

-- ---- keys and their rows
-- keys that have rows
none_missing : (row : Key → Option Row) (keys : List Key) (rows : List Row) → map Some rows ≡ map row keys → find (λ k. is_none (row k)) keys ≡ None
none_missing row [] rows made = refl
none_missing row (k ∷ keys) [] made = absurd (cc)
none_missing row (k ∷ keys) (r ∷ rows) made =
    let here : row k ≡ Some r = sym (cc) in
    (λ i. if is_none (here i) then Some k else find (λ q. is_none (row q)) keys) ∙ none_missing row keys rows (cc)

same_find : (f g : Key → Bool) → ((k : Key) → f k ≡ g k) → (keys : List Key) → find f keys ≡ find g keys
same_find f g same [] = refl
same_find f g same (k ∷ keys) = λ i. if same k i then Some k else same_find f g same keys i

module _ (c : Config) (docs : List Doc) where
  abbrev IsLeast : Key → Key → Type 0
  IsLeast found k = IsSome (sum_range c k docs) → is_gt (key_cmp found k) ≡ false

  -- the first key without a row is the least that has a sum outside i64
  first_missing : (keys : List Key) (n : ℕ) (found : Key) → IsAscending keys → n < length keys → slice_index_or keys n found ≡ found → pivot_row c found docs ≡ None → AllByRecursion (IsLeast found) keys
      → find (λ k. is_none (pivot_row c k docs)) keys ≡ Some found
  first_missing [] n found ascend low at none least = absurd (omega (arith, low))
  first_missing (k ∷ keys) zero found ascend low at none least =
      let here : is_none (pivot_row c k docs) ≡ true = ap (λ q. is_none (pivot_row c q docs)) at ∙ ap is_none none in
      (λ i. if here i then Some (at i) else find (λ q. is_none (pivot_row c q docs)) keys)
  first_missing (k ∷ keys) (suc n) found ascend low at none least =
      by (is_none (pivot_row c k docs)) refl (first_missing keys n found ascend.1 (omega (arith, low)) at none least.1)
    where
      some_from : {X : Type 0} (o : Option X) → is_some o ≡ true → IsSome o
      some_from None e = absurd (let z : false ≡ true = e in cc)
      some_from (Some x) e = refl

      by : (b : Bool) → is_none (pivot_row c k docs) ≡ b → find (λ q. is_none (pivot_row c q docs)) keys ≡ Some found
          → (if b then Some k else find (λ q. is_none (pivot_row c q docs)) keys) ≡ Some found
      by false e rest = rest
      by true e rest =
          let sum : IsSome (sum_range c k docs) = some_from (sum_range c k docs) (sym (no_row c k docs) ∙ e) in
          let above : is_gt (key_cmp found k) ≡ true = not_below k keys n found ascend.0 (omega (arith, low)) at in
          absurd (let z : false ≡ true = sym (least.0 sum) ∙ above in cc)

-- ---- the checkpoint of a life
record Newest (l : Life) : Type 0 where
  is : Checkpoint
  before : List Checkpoint
  both : l.checkpoints ≡ is ∷ before

newest_by : (l : Life) (cs : List Checkpoint) → l.checkpoints ≡ cs → 0 < length cs → Newest l
newest_by l [] e some = absurd (omega (arith, some))
newest_by l (b ∷ before) e some = record { is = b; before = before; both = e }

not_started : (s : State) → is_active s ≡ true → is_started s ≡ false
not_started state.Stopped e = absurd (let z : false ≡ true = e in cc)
not_started state.Started e = absurd (let z : false ≡ true = e in cc)
not_started state.Indexing e = refl
not_started state.Stopping e = refl
not_started state.Failed e = absurd (let z : false ≡ true = e in cc)

module _ (id : List ℕ) (l : Life) (r : Running) (is : IsCheckpointOf l r) where
  newest : Newest l
  newest =
      let below : l.finished < length l.checkpoints = ltb-true l.finished (length l.checkpoints) is.moved_on.runs in
      newest_by l l.checkpoints refl (omega (arith, below))

  abbrev docs : List Doc
  docs = documents r.reader

  abbrev here : List Doc
  here = counted r.config r.high docs

  abbrev keys : List Key
  keys = take r.config.page_size (changed_above r.config r.low r.high r.after docs)

  reads : newest.is.read ≡ docs
  reads = ap read_last (sym newest.both) ∙ sym is.docs

  high_is : newest.is.bound ≡ r.high
  high_is = ap last_bound (sym newest.both) ∙ sym is.high

  low_is : last_bound newest.before ≡ r.low
  low_is = ap bound_before (sym newest.both) ∙ sym is.low

  next_is : next_page l ≡ keys
  next_is =
      let left : to_do l ≡ changed_above r.config r.low r.high r.after docs
      = (meanings_agree is.sources r.config).to_do_is l newest.is newest.before is.means newest.both ∙ (λ i. changed_above r.config (low_is i) (high_is i) (sym is.position i) (reads i)) in
      λ i. take (ap (λ m. m.page_size) is.means i) (left i)

  counted_is : counted_last l.meaning l.checkpoints ≡ here
  counted_is =
      ap (λ cs. counted_last l.meaning cs) newest.both
      ∙ ((λ i. grouping.counted (is.means i) (high_is i) (reads i)) ∙ (meanings_agree is.sources r.config).counted_is r.high docs)

  pivot : is_pivot r.config.shape ≡ true
  pivot = (form_of r.config is.built_form).pivot

  rows_are : (k : Key) → row_now l k ≡ pivot_row r.config k here
  rows_are k = (λ i. grouping.row_of (is.means i) (counted_is i) k) ∙ ((meanings_agree is.sources r.config).row_is here k ∙ pivoted is.sources r.config here k pivot)

  sums_are : (k : Key) → sum_now l k ≡ sum_range r.config k here
  sums_are k = (λ i. grouping.sum_range (is.means i) (counted_is i) k) ∙ (meanings_agree is.sources r.config).sum_range_is here k

  failing_is : failing l ≡ find (λ k. is_none (pivot_row r.config k here)) keys
  failing_is = ap (find (λ k. is_none (row_now l k))) next_is ∙ same_find (λ k. is_none (row_now l k)) (λ k. is_none (pivot_row r.config k here)) (λ k. ap is_none (rows_are k)) keys

  abbrev move : Option Deed
  move = page_move id l (failing l) (next_page l)

  by_rows : (ks : List Key) (rows : List Row) (last : Bool) → next_page l ≡ ks → failing l ≡ None → map Some rows ≡ map (λ k. pivot_row r.config k here) ks → move ≡ Some (deed_for id (work_by r.n (page.Rows rows last)))
  by_rows [] [] last are none made = (λ i. page_move id l (none i) (are i)) ∙ ap (λ n. Some (Finish id n)) (sym is.number)
  by_rows [] (row ∷ rows) last are none made = absurd (cc)
  by_rows (k ∷ ks) [] last are none made = absurd (cc)
  by_rows (k ∷ ks) (row ∷ rows) last are none made =
      (λ i. page_move id l (none i) (are i))
      ∙ (λ i. Some (Page id (sym is.number i) (rows_made (row_now l) (λ q. pivot_row r.config q here) rows_are (k ∷ ks) (row ∷ rows) made i)))

  ascend : IsAscending keys
  unfolding changed_above changed
  ascend =
      ascending_take r.config.page_size (changed_above r.config r.low r.high r.after docs)
      (ascending_filter (is_after r.after) (changed r.config r.low r.high docs) (ascending_keys r.config (window r.config r.low r.high docs)))

  page_is : (next : PlanPage) → IsPageFor r next → move ≡ Some (deed_for id (work_by r.n next))
  page_is (page.Rows rows last) h =
      by_rows keys rows last next_is (failing_is ∙ none_missing (λ k. pivot_row r.config k here) keys rows h.0.made) h.0.made
  page_is (page.Wide found) h =
      let first : failing l ≡ Some found.key
      = failing_is ∙ first_missing r.config here keys h.key.0 found.key ascend h.key.1 h.key.2 h.no_row (recursion_from_All (IsLeast r.config here found.key) keys h.least) in
      (λ i. page_move id l (first i) (next_page l))
      ∙ (ap (option_map (fail_move id l found.key)) (sums_are found.key ∙ h.range)
      ∙ ap (λ n. Some (deed_for id (work_by n (page.Wide found)))) (sym is.number))

  move_is : (all : List Doc) (moment : ℤ) → move_of id l all moment ≡ move
  move_is all moment =
      λ i. if is.moved_on.no_stop i then Some (Stopped id)
      else if not_started l.state is.moved_on.active i && is_due l all moment then Some (begin_move id l moment)
      else if is.moved_on.runs i && is.moved_on.active i then move else None

pub pages_fit : PagesFit
pages_fit past moment id r next at is = by (life id (read past)) refl at
  where
    by : (o : Option Life) → life id (read past) ≡ o → IsSomeAnd o (λ l. IsCheckpointOf l r) → Fits past moment id (work_by r.n next)
    by None there runs = absurd runs
    by (Some l) there runs =
        ap (option_and_then (λ l. move_of id l (lives.documents (read past)) moment)) there
        ∙ (move_is id l r runs (lives.documents (read past)) moment ∙ page_is id l r runs next is)
