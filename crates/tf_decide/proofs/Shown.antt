-- The rows of a life after a past of taken entries can be shown.
use Rattle.std.proofs.Common.{◌≡◌, ℕ, zero, suc, take, Bool, true, false, cond, List, [], ◌∷◌, Option, Some, None, refl, subst, sym}
use Rattle.std.specs.Prelude.{IfSome, IsSomeAnd}
use Rattle.std.specs.List.{AllByRecursion, filter}
use Rattle.std.specs.Ordering.{match_ordering}
use Rattle.std.specs.declared.cmp.Ordering.{Ordering}
use Rattle.std.specs.declared.cmp.Ordering.TheVariants.{Less, Equal, Greater}
use Rattle.tf_model.specs.declared.config.Shape.{Shape}
use Rattle.tf_model.specs.declared.config.Shape.TheVariants as shape
use Rattle.tf_model.specs.declared.doc.Doc.{Doc}
use Rattle.tf_model.specs.declared.entry.Entry.{Entry}
use Rattle.tf_model.specs.declared.entry.Kind.{Kind}
use Rattle.tf_model.specs.declared.entry.Kind.TheVariants as kind
use Rattle.tf_model.specs.declared.entry.Row.{Row}
use Rattle.tf_model.specs.declared.entry.Row.TheVariants as row
use Rattle.tf_model.specs.declared.value.Value.{Value}
use Rattle.tf_model.specs.declared.value.Value.TheVariants as value
use Rattle.tf_model.specs.Order.{key_cmp}
use Rattle.tf_reply.specs.Sources.{AreShowable}
use Rattle.tf_history.specs.Catalogue.{ValuesOf, catalogue}
use Rattle.tf_history.specs.LegalEntries.{FitsKind, IsPart, IsRowOf, IsRowValue}
use Rattle.tf_history.specs.Lives.{Act, Life, act, documents, life, life_after, put_row, put_rows, is_same, read_last, row_stays}
use Rattle.tf_history.specs.Lives.Act.{Aside, Begins, Closes, Finishes, Opens, Pages, Reopens, Turns, Writes}
use Rattle.tf_history.specs.Lives.Turn.{Starts, Asks, Stops, Prompts, Fails}
use Rattle.tf_history.specs.Meaning.{row_key}
use Rattle.tf_history.specs.Reading.{event_of, meaning_in}
use Rattle.tf_history.specs.Transforms.{PutTransform}
use Rattle.tf_core.specs.Legal.{IsTakenPast, read, reading}
use Rattle.tf_core.specs.declared.transform.Transform.{Transform}
use Rattle.tf_core.specs.Table.{Tells}
use Rattle.tf_dest.specs.Tables.{rows_in}
use Rattle.tf_model.specs.Changed.{is_after}
use Rattle.tf_decide.specs.declared.asked.Search.{Search}
use Rattle.tf_decide.specs.Replying.{rows_above, shown_rows}
use Rattle.tf_decide.specs.Rows.{IsShown}

abbrev AreShown : Life → Type 0
AreShown l = AllByRecursion IsShown l.rows

-- ---- one row
parts_shown : (values : List Value) → AllByRecursion IsPart values → AreShowable values
parts_shown [] h = tt
parts_shown (value.Null ∷ values) h = (tt, parts_shown values h.1)
parts_shown (value.Bool b ∷ values) h = (tt, parts_shown values h.1)
parts_shown (value.Int n ∷ values) h = (tt, parts_shown values h.1)
parts_shown (value.Date ms ∷ values) h = (h.0, parts_shown values h.1)
parts_shown (value.Str text ∷ values) h = (tt, parts_shown values h.1)

values_shown : (values : List Value) → AllByRecursion IsRowValue values → AreShowable values
values_shown [] h = tt
values_shown (value.Null ∷ values) h = (tt, values_shown values h.1)
values_shown (value.Bool b ∷ values) h = (tt, values_shown values h.1)
values_shown (value.Int n ∷ values) h = (tt, values_shown values h.1)
values_shown (value.Date ms ∷ values) h = (h.0, values_shown values h.1)
values_shown (value.Str text ∷ values) h = (tt, values_shown values h.1)

row_shown : (s : Shape) (docs : List Doc) (r : Row) → IsRowOf s docs r → IsShown r
row_shown (shape.Pivot groups aggs) docs (row.Pivot key values) h = (parts_shown key.parts h.part_dates, values_shown values h.fits)
row_shown (shape.Pivot groups aggs) docs (row.Latest key index shard seq) h = absurd h
row_shown (shape.Latest unique sort) docs (row.Pivot key values) h = absurd h
row_shown (shape.Latest unique sort) docs (row.Latest key index shard seq) h = tt

rows_shown : (s : Shape) (docs : List Doc) (rows : List Row) → AllByRecursion (IsRowOf s docs) rows → AllByRecursion IsShown rows
rows_shown s docs [] h = tt
rows_shown s docs (r ∷ rows) h = (row_shown s docs r h.0, rows_shown s docs rows h.1)

page_shown : (p : Option PutTransform) (o : Option Life) (rows : List Row)
    → IsSomeAnd p (λ p. IsSomeAnd o (λ l. AllByRecursion (IsRowOf p.config.shape (read_last l.checkpoints)) rows)) → AllByRecursion IsShown rows
page_shown None o rows h = absurd h
page_shown (Some p) None rows h = absurd h
page_shown (Some p) (Some l) rows h = rows_shown p.config.shape (read_last l.checkpoints) rows h

-- ---- rows that are put in their places, or taken out
one_put : (r : Row) (rows : List Row) → IsShown r → AllByRecursion IsShown rows → AllByRecursion IsShown (put_row r rows)
one_put r [] h g = (h, tt)
one_put r (s ∷ rows) h g = by_order (key_cmp (row_key r) (row_key s)) (one_put r rows h g.1)
  where
    by_order : (o : Ordering) → AllByRecursion IsShown (put_row r rows) → AllByRecursion IsShown (match_ordering o (r ∷ s ∷ rows) (r ∷ rows) (s ∷ put_row r rows))
    by_order Less rest = (h, g)
    by_order Equal rest = (h, g.1)
    by_order Greater rest = (g.0, rest)

all_put : (page rows : List Row) → AllByRecursion IsShown page → AllByRecursion IsShown rows → AllByRecursion IsShown (put_rows page rows)
all_put [] rows h g = g
all_put (r ∷ page) rows h g = all_put page (put_row r rows) h.1 (one_put r rows h.0 g)

kept : (test : Row → Bool) (rows : List Row) → AllByRecursion IsShown rows → AllByRecursion IsShown (filter test rows)
kept test [] h = tt
kept test (r ∷ rows) h = elim (test r) as (λ b. AllByRecursion IsShown (cond b (r ∷ filter test rows) (filter test rows))) [ true ↦ (h.0, kept test rows h.1) | false ↦ kept test rows h.1 ]

first : (n : ℕ) (rows : List Row) → AllByRecursion IsShown rows → AllByRecursion IsShown (take n rows)
first zero [] h = tt
first zero (r ∷ rows) h = tt
first (suc n) [] h = tt
first (suc n) (r ∷ rows) h = (h.0, first n rows h.1)

-- those that a search shows
pub searched_shown : (s : Search) (rows : List Row) → AllByRecursion IsShown rows → AllByRecursion IsShown (shown_rows s rows)
searched_shown s rows h = first s.size (rows_above s.after rows) (kept (λ r. is_after s.after (row_key r)) rows h)

-- ---- lives
-- the rows of a page can be shown
abbrev HasShown : Act → Type 0
HasShown (Pages n rows) = AllByRecursion IsShown rows
HasShown _ = Unit {0}

life_shown : (docs : List Doc) (a : Act) (o : Option Life) → HasShown a → IfSome o AreShown → IfSome (life_after docs a o) AreShown
life_shown docs (Opens c) o page h = tt
life_shown docs Reopens None page h = tt
life_shown docs Reopens (Some l) page h = tt
life_shown docs Closes o page h = tt
life_shown docs Aside None page h = tt
life_shown docs Aside (Some l) page h = h
life_shown docs (Writes d) None page h = tt
life_shown docs (Writes d) (Some l) page h = h
life_shown docs (Begins n bound moment) None page h = tt
life_shown docs (Begins n bound moment) (Some l) page h = h
life_shown docs (Pages n rows) None page h = tt
life_shown docs (Pages n rows) (Some l) page h = all_put rows l.rows page h
life_shown docs (Finishes n) None page h = tt
life_shown docs (Finishes n) (Some l) page h = kept (row_stays docs l) l.rows h
life_shown docs (Turns turn) None page h = tt
life_shown docs (Turns turn) (Some l) page h = h

by_id : (b : Bool) (a : Act) → HasShown a → HasShown (cond b a Aside)
by_id true a h = h
by_id false a h = tt

act_shown : (t : List ℕ) (past : List Entry) (e : Entry) (values_of : ValuesOf) (k : Kind) → FitsKind reading past e.at_ms k → e.kind ≡ k
    → HasShown (act t (event_of values_of (catalogue past) (record { at_ms = e.at_ms; actor = e.actor; kind = k })))
act_shown t past e values_of (kind.Index name shards mapping stamp quick) fits is = tt
act_shown t past e values_of (kind.Write index shard seq id tree) fits is = tt
act_shown t past e values_of (kind.Put id config) fits is = by_id (is_same t id) (Opens (meaning_in (catalogue past) config)) tt
act_shown t past e values_of (kind.Delete id) fits is = by_id (is_same t id) Closes tt
act_shown t past e values_of (kind.Reset id) fits is = by_id (is_same t id) Reopens tt
act_shown t past e values_of (kind.Start id) fits is = by_id (is_same t id) (Turns Starts) tt
act_shown t past e values_of (kind.StopAsked id wait) fits is = by_id (is_same t id) (Turns (Asks wait)) tt
act_shown t past e values_of (kind.Stopped id) fits is = by_id (is_same t id) (Turns Stops) tt
act_shown t past e values_of (kind.Schedule id) fits is = by_id (is_same t id) (Turns Prompts) tt
act_shown t past e values_of (kind.Fail id n key name value) fits is = by_id (is_same t id) (Turns (Fails key name value)) tt
act_shown t past e values_of (kind.Begin id n bound) fits is = by_id (is_same t id) (Begins n bound e.at_ms) tt
act_shown t past e values_of (kind.Page id n rows) fits is = by_id (is_same t id) (Pages n rows) (page_shown _ _ rows fits)
act_shown t past e values_of (kind.Finish id n) fits is = by_id (is_same t id) (Finishes n) tt

pub all_shown : (past : List Entry) (t : List ℕ) → IsTakenPast past → IfSome (life t (read past)) AreShown
all_shown [] t taken = tt
all_shown (e ∷ past) t taken =
    life_shown (documents (read past)) _ (life t (read past)) (act_shown t past e _ e.kind taken.1.legal.fits refl) (all_shown past t taken.0)

-- what a transform is shown with
pub told_shown : (docs : List Doc) (t : Transform) (o : Option Life) → Tells docs (Some t) o → IfSome o AreShown → AllByRecursion IsShown (rows_in t.rows)
told_shown docs t None tells shown = absurd tells
told_shown docs t (Some l) tells shown = subst (AllByRecursion IsShown) (sym tells.rows) shown
