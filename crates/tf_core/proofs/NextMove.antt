-- What is kept of a transform tells its next move.
use Rattle.std.proofs.Common.{◌≡◌, ℕ, ◌+◌, ◌<◌, Bool, true, false, ◌&&◌, List, [], ◌∷◌, length, map, Option, Some, None, refl, sym, ap, ◌∙◌}
use Rattle.std.specs.Prelude.{ℤ, nat_lt, if◌then◌else◌, option_map, option_and_then, filter_map}
use Rattle.std.specs.List.{cons_option}
use Rattle.tf_model.specs.declared.doc.Doc.{Doc}
use Rattle.tf_model.specs.declared.entry.Entry.{Entry}
use Rattle.tf_model.specs.declared.entry.Row.{Row}
use Rattle.tf_model.specs.declared.value.Key.{Key}
use Rattle.tf_model.specs.Rows.{pivot_row}
use Rattle.tf_model.specs.Scratch.{is_pivot}
use Rattle.tf_history.specs.Catalogue.{SourceIndex}
use Rattle.tf_history.specs.Events.{Deed}
use Rattle.tf_history.specs.Events.Deed.{Stopped, Fail, Begin, Page, Finish}
use Rattle.tf_history.specs.Legality.{next_move, move_of, page_move, begin_move, fail_move, next_page, row_now, failing, is_started, is_active, is_due}
use Rattle.tf_history.specs.Lives.{Life, life, documents}
use Rattle.tf_core.specs.declared.moving.Next.{Next}
use Rattle.tf_core.specs.declared.moving.Next.TheVariants as turn
use Rattle.tf_core.specs.declared.paging.NextPage.{NextPage}
use Rattle.tf_core.specs.declared.paging.NextPage.TheVariants as page
use Rattle.tf_core.specs.declared.transform.Transform.{Transform}
use Rattle.tf_core.specs.Allowing as allowing
use Rattle.tf_core.specs.Allowing.{bound_at, failure, keys_next, may_stop}
use Rattle.tf_core.specs.Legal.{read}
use Rattle.tf_core.specs.Moves.{IsNextPage, what_next}
use Rattle.tf_core.specs.Standing.{Stands}
use Rattle.tf_core.specs.Summary.{IsSummary}
use Rattle.tf_core.specs.Table.{transform_at}
use Rattle.tf_core.proofs.AllowedTransforms.{is_pivot_there, stop_is}
use Rattle.tf_core.proofs.Due.{bound_at_is, due_is}
use Rattle.tf_core.proofs.NewestCheckpoint as newest

pub rows_made : (f g : Key → Option Row) → ((k : Key) → f k ≡ g k) → (ks : List Key) (rows : List Row) → map Some rows ≡ map g ks → filter_map f ks ≡ rows
rows_made f g same [] [] made = refl
rows_made f g same [] (r ∷ rows) made = absurd (cc)
rows_made f g same (k ∷ ks) [] made = absurd (cc)
rows_made f g same (k ∷ ks) (r ∷ rows) made =
    let here : f k ≡ Some r = same k ∙ cc in
    (λ j. cons_option (here j) (rows_made f g same ks rows (cc) j))

module _ (past : List Entry) (indices : List SourceIndex) (docs : List Doc) (ts : List Transform) (s : Stands past indices docs ts) (id : List ℕ) (t : Transform) (l : Life) (there : transform_at id ts ≡ Some t)
    (is : life id (read past) ≡ Some l) (sum : IsSummary docs t l) (moment : ℤ) where
  due_now : is_due l (documents (read past)) moment ≡ allowing.is_due t docs moment
  due_now = ap (λ ds. is_due l ds moment) s.docs_are ∙ sym (due_is docs t l sum moment)

  -- the Begin of the next checkpoint
  abbrev begins : Deed
  begins = Begin id (t.finished + 1) (bound_at t moment)

  begins_is : begin_move id l moment ≡ begins
  begins_is = λ i. Begin id (sym sum.finished i + 1) (sym (bound_at_is docs t l sum moment) i)

  -- the deed of the move that what is kept tells
  abbrev pub deed_of : Next → Option Deed
  deed_of turn.Stopped = Some (Stopped id)
  deed_of (turn.Begin n bound) = Some (Begin id n bound)
  deed_of turn.Page = page_move id l (failing l) (next_page l)
  deed_of turn.Nothing = None

  chosen : (stop begin index : Bool)
      → (if stop then Some (Stopped id) else if begin then Some begins else if index then page_move id l (failing l) (next_page l) else None)
      ≡ deed_of (if stop then turn.Stopped else if begin then turn.Begin (t.finished + 1) (bound_at t moment) else if index then turn.Page else turn.Nothing)
  chosen true begin index = refl
  chosen false true index = refl
  chosen false false true = refl
  chosen false false false = refl

  pub move_is : next_move id (read past) moment ≡ deed_of (what_next t docs moment)
  move_is =
      ap (λ o. option_and_then (λ m. move_of id m (documents (read past)) moment) o) is
      ∙ ((λ i. if sym (stop_is docs t l sum) i then Some (Stopped id)
      else if is_started (sym sum.state i) && due_now i then Some (begins_is i)
      else if nat_lt (sym sum.finished i) (sym sum.begun i) && is_active (sym sum.state i) then page_move id l (failing l) (next_page l) else None)
      ∙ chosen (may_stop t) (is_started t.state && allowing.is_due t docs moment) (nat_lt t.finished t.begun && is_active t.state))

  -- ---- pages
  -- the deed of what a checkpoint gets next
  abbrev pub deed_by : NextPage → Deed
  deed_by (page.Fails found) = Fail id (l.finished + 1) found.key found.name found.value
  deed_by (page.Rows []) = Finish id (l.finished + 1)
  deed_by (page.Rows (r ∷ rows)) = Page id (l.finished + 1) (r ∷ rows)

  pivot : is_pivot t.config.shape ≡ true
  pivot = is_pivot_there past indices docs ts s id t there

  module _ (some : 0 < length l.checkpoints) where
    failing_is : failing l ≡ option_map newest.key_of (failure t docs)
    failing_is = newest.failing_is docs t l sum pivot some

    by_keys : (keys : List Key) (rows : List Row) → next_page l ≡ keys → failing l ≡ None → map Some rows ≡ map (λ k. pivot_row t.config k (newest.counted_now docs t l sum pivot some)) keys
        → page_move id l (failing l) (next_page l) ≡ Some (deed_by (page.Rows rows))
    by_keys [] [] page none made = λ i. page_move id l (none i) (page i)
    by_keys [] (r ∷ rows) page none made = absurd (cc)
    by_keys (k ∷ ks) [] page none made = absurd (cc)
    by_keys (k ∷ ks) (r ∷ rows) page none made =
        (λ i. page_move id l (none i) (page i))
        ∙ ap (λ rs. Some (Page id (l.finished + 1) rs))
        (rows_made (row_now l) (λ k. pivot_row t.config k (newest.counted_now docs t l sum pivot some)) (newest.rows_now docs t l sum pivot some) (k ∷ ks) (r ∷ rows) made)

    pub page_next : (page : NextPage) → IsNextPage t docs page → page_move id l (failing l) (next_page l) ≡ Some (deed_by page)
    page_next (page.Rows rows) made =
        by_keys (keys_next t docs) rows (newest.next_is docs t l sum pivot some) (failing_is ∙ ap (option_map newest.key_of) made.1) made.0
    page_next (page.Fails found) fails =
        ap (λ o. page_move id l o (next_page l)) (failing_is ∙ ap (option_map newest.key_of) fails)
        ∙ ap (option_map (fail_move id l found.key)) (newest.failure_is docs t l sum pivot some found fails)
