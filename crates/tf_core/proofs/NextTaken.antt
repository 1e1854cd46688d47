-- The entry of the next move is taken, and its texts are short.
use Rattle.std.proofs.Common.{◌≡◌, ℕ, ◌<◌, ◌^◌, true, false, List, [], ◌∷◌, length, map, Option, Some, None, refl, sym, ap, subst, ◌∙◌}
use Rattle.std.specs.Prelude.{ℤ, is_none, is_some, option_and_then}
use Rattle.std.specs.List.{AllByRecursion}
use Rattle.std.proofs.lemmas.Option.{same_Some}
use Rattle.tf_model.specs.declared.doc.Doc.{Doc}
use Rattle.tf_model.specs.declared.entry.Entry.{Entry}
use Rattle.tf_model.specs.declared.entry.Kind.{Kind}
use Rattle.tf_model.specs.declared.entry.Kind.TheVariants as kind
use Rattle.tf_model.specs.declared.entry.Row.{Row}
use Rattle.tf_model.specs.declared.entry.SumRange.{SumRange}
use Rattle.tf_model.specs.declared.value.Key.{Key}
use Rattle.tf_model.specs.Conditions.{IsSpan}
use Rattle.tf_model.specs.Counted.{counted}
use Rattle.tf_model.specs.Rows.{or_else, pivot_row}
use Rattle.tf_history.specs.Catalogue.{SourceIndex}
use Rattle.tf_history.specs.Legality.{IsNotBefore, move_of, next_move}
use Rattle.tf_history.specs.Lives.{Life, documents, life}
use Rattle.tf_history.specs.Transforms.{transforms}
use Rattle.tf_core.specs.declared.job.Work.{Work}
use Rattle.tf_core.specs.declared.job.Work.TheVariants as work
use Rattle.tf_core.specs.declared.moving.Next.{Next}
use Rattle.tf_core.specs.declared.moving.Next.TheVariants as turn
use Rattle.tf_core.specs.declared.paging.NextPage.{NextPage}
use Rattle.tf_core.specs.declared.paging.NextPage.TheVariants as page
use Rattle.tf_core.specs.declared.transform.Transform.{Transform}
use Rattle.tf_core.specs.Allowing.{failure, first_wide, keys_next, read_by, wide_sum_at}
use Rattle.tf_core.specs.Job.{Fits, deed_for, kind_for}
use Rattle.tf_core.specs.Legal.{IsTaken, read}
use Rattle.tf_core.specs.Moves.{IsNextPage, kind_by, kind_of, moment_after, moved, what_next}
use Rattle.tf_core.specs.Standing.{Stands}
use Rattle.tf_core.specs.Table.{Tells, transform_at}
use Rattle.tf_core.specs.Texts.{HasTexts, IsShort, IsShortKind, IsShortPut}
use Rattle.tf_core.proofs.AllowedTransforms.{known_of, no_life}
use Rattle.tf_core.proofs.NewestCheckpoint.{no_row}
use Rattle.tf_core.proofs.NextKind.{begin_deed, begin_taken, given_is_timely, no_deed, page_kind, page_short, page_taken, stop_deed, stop_taken}

-- ---- what a checkpoint gets next is there
module _ (t : Transform) (docs : List Doc) where
  abbrev row_at : Key → Option Row
  row_at k = pivot_row t.config k (counted t.config t.bound (read_by t docs))

  abbrev Rows : List Key → Type 0
  Rows keys = (rows : List Row) × (map Some rows ≡ map row_at keys)

  -- keys with no sum outside i64 have rows
  rows_there : (keys : List Key) → first_wide t docs keys ≡ None → Rows keys
  rows_there [] none = ([], refl)
  rows_there (k ∷ keys) none = by (wide_sum_at t docs k) refl (rows_there keys) none
    where
      row : (o : Option Row) → row_at k ≡ o → is_none o ≡ false → Rows keys → Rows (k ∷ keys)
      row None is some rest = absurd (let z : true ≡ false = some in cc)
      row (Some r) is some rest = (r ∷ rest.0, (λ i. sym is i ∷ rest.1 i))

      by : (o : Option SumRange) → wide_sum_at t docs k ≡ o → (first_wide t docs keys ≡ None → Rows keys) → or_else o (first_wide t docs keys) ≡ None → Rows (k ∷ keys)
      by None is rest none =
          let some : is_none (row_at k) ≡ false = no_row t.config k (counted t.config t.bound (read_by t docs)) ∙ ap is_some is in
          row (row_at k) refl some (rest none)
      by (Some found) is rest none = absurd (let z : ◌≡◌ {A = Option SumRange} (Some found) None = none in cc)

  page_there : (p : NextPage) × IsNextPage t docs p
  page_there = by (failure t docs) refl
    where
      by : (o : Option SumRange) → failure t docs ≡ o → (p : NextPage) × IsNextPage t docs p
      by None fails = let made = rows_there (keys_next t docs) fails in (page.Rows made.0, (made.1, fails))
      by (Some found) fails = (page.Fails found, fails)

-- ---- the next entry
module _ (past : List Entry) (indices : List SourceIndex) (docs : List Doc) (ts : List Transform) (s : Stands past indices docs ts) (few : length docs < 2 ^ 63) (id : List ℕ) (moment : ℤ) (k : Kind)
    (next : option_and_then kind_of (next_move id (read past) moment) ≡ Some k) where
  -- what is known of an entry of this kind
  pub record IsKnown (made : Kind) : Type 0 where
    pub taken : IsSpan moment → IsNotBefore moment (read past) → IsTaken past (moved moment made)
    pub short : AllByRecursion (HasTexts IsShort) docs → AllByRecursion IsShortPut (transforms past) → IsShortKind made

  same : (made : Kind) → Some made ≡ option_and_then kind_of (next_move id (read past) moment) → IsKnown made → IsKnown k
  same made is known = subst IsKnown (same_Some made k (is ∙ next)) known

  never : option_and_then kind_of (next_move id (read past) moment) ≡ None → IsKnown k
  never none = absurd (let z : ◌≡◌ {A = Option Kind} None (Some k) = sym none ∙ next in cc)

  found_known : (t : Transform) → transform_at id ts ≡ Some t → IsKnown k
  found_known t there = by (what_next t docs moment) refl
    where
      by : (what : Next) → what_next t docs moment ≡ what → IsKnown k
      by turn.Stopped e =
          same (kind.Stopped id) (sym (ap (option_and_then kind_of) (stop_deed past indices docs ts s id t there moment e)))
          (record { taken = λ span later. stop_taken past indices docs ts s id t there moment e (span, later); short = λ known puts. tt })
      by (turn.Begin n bound) e =
          same (kind.Begin id n bound) (sym (ap (option_and_then kind_of) (begin_deed past indices docs ts s id t there moment n bound e)))
          (record { taken = λ span later. begin_taken past indices docs ts s id t there moment n bound e (span, later); short = λ known puts. tt })
      by turn.Page e =
          let p = page_there t docs in
          same (kind_by id t.begun p.0) (page_kind past indices docs ts s id t there moment e p.0 p.1)
          (record {
            taken = λ span later. page_taken past indices docs ts s id t there few moment e p.0 p.1 (span, later);
            short = λ known puts. page_short past indices docs ts s id t there known (known_of past indices docs ts s IsShortPut id t there puts) few p.0 p.1;
          })
      by turn.Nothing e = never (ap (option_and_then kind_of) (no_deed past indices docs ts s id t there moment e))

  pub next_known : IsKnown k
  next_known = by (transform_at id ts) refl
    where
      by : (o : Option Transform) → transform_at id ts ≡ o → IsKnown k
      by None there =
          let none : life id (read past) ≡ None = no_life docs (life id (read past)) (subst (λ o. Tells docs o (life id (read past))) there (s.lives id)) in
          never (ap (λ o. option_and_then kind_of (option_and_then (λ (l : Life). move_of id l (documents (read past)) moment) o)) none)
      by (Some t) there = found_known t there

-- ---- the entry of a work that fits
pub kind_is : (id : List ℕ) (w : Work) → kind_of (deed_for id w) ≡ Some (kind_for id w)
kind_is id work.Stopped = refl
kind_is id (work.Begin n bound) = refl
kind_is id (work.Page n rows) = refl
kind_is id (work.Finish n) = refl
kind_is id (work.Fail n found) = refl

module _ (past : List Entry) (indices : List SourceIndex) (docs : List Doc) (ts : List Transform) (s : Stands past indices docs ts) (few : length docs < 2 ^ 63) (id : List ℕ) (given : ℤ) (w : Work)
    (fits : Fits past (moment_after past given) id w) where
  known : IsKnown past indices docs ts s few id (moment_after past given) (kind_for id w) (ap (option_and_then kind_of) fits ∙ kind_is id w) (kind_for id w)
  known = next_known past indices docs ts s few id (moment_after past given) (kind_for id w) (ap (option_and_then kind_of) fits ∙ kind_is id w)

  pub work_taken : IsTaken past (moved (moment_after past given) (kind_for id w))
  work_taken = let time = given_is_timely past given s.taken in known.taken time.0 time.1

  pub work_short : AllByRecursion (HasTexts IsShort) docs → AllByRecursion IsShortPut (transforms past) → IsShortKind (kind_for id w)
  work_short = known.short
