-- Which pages of rows are taken.
use Rattle.std.proofs.Common.{◌≡◌, ℕ, ◌+◌, ◌≤◌, Bool, true, false, List, [], ◌∷◌, length, map, Option, Some, None, refl, sym, ap, subst, ◌∙◌, ltb-true, lt-ltb}
use Rattle.std.specs.List.{AllByRecursion, list_all}
use Rattle.std.specs.List.Sorted.{IsStrictlySortedBy}
use Rattle.std.specs.Ordering.{is_lt}
use Rattle.std.specs.Cmp.Derive.{both_true}
use Rattle.std.specs.declared.cmp.Ordering.{Ordering}
use Rattle.std.specs.declared.cmp.Ordering.TheVariants.{Less, Equal, Greater}
use Rattle.tf_model.specs.declared.config.Shape.{Shape}
use Rattle.tf_model.specs.declared.config.Shape.TheVariants as shape
use Rattle.tf_model.specs.declared.doc.Doc.{Doc}
use Rattle.tf_model.specs.declared.entry.Row.{Row}
use Rattle.tf_model.specs.declared.entry.Row.TheVariants as row
use Rattle.tf_model.specs.declared.value.Key.{Key}
use Rattle.tf_model.specs.declared.value.Value.{Value}
use Rattle.tf_model.specs.declared.value.Value.TheVariants as value
use Rattle.tf_model.specs.Changed.{is_after}
use Rattle.tf_model.specs.Order.{key_cmp}
use Rattle.tf_history.specs.Legality.{MayPage, MayFinish, IsRunning, is_active, to_do}
use Rattle.tf_history.specs.LegalEntries.{IsPart, IsRowValue, IsRowOf}
use Rattle.tf_history.specs.Lives.{Life}
use Rattle.tf_history.specs.Meaning.{row_key}
use Rattle.tf_history.proofs.Keys.{IsAscending, IsBelowAll, sorted, below_trans}
use Rattle.tf_core.specs.declared.transform.Transform.{Transform}
use Rattle.tf_core.specs.Allowing.{ascends, is_part, is_row_value, is_row_of, is_running, may_page, may_finish}
use Rattle.tf_model.specs.Scratch.{is_pivot}
use Rattle.tf_core.specs.Summary.{IsSummary}
use Rattle.tf_core.proofs.Truths.{both, int_at_most, at_most_int, nat_at_most, at_most_nat, same_nat, nat_same}

-- ---- ascending rows
less_is : (o : Ordering) → is_lt o ≡ true → o ≡ Less
less_is Less e = refl
less_is Equal e = absurd (let z : false ≡ true = e in cc)
less_is Greater e = absurd (let z : false ≡ true = e in cc)

unsorted : (keys : List Key) → IsStrictlySortedBy key_cmp keys → IsAscending keys
unfolding IsStrictlySortedBy
unsorted [] h = tt
unsorted (k ∷ keys) h = (h.0, unsorted keys h.1)

all_above : (k : Key) (rows : List Row) → ascends (Some k) rows ≡ true → IsBelowAll k (map row_key rows)
all_above k [] e = tt
all_above k (r ∷ rows) e =
    let parts = both _ _ e in
    let less : key_cmp k (row_key r) ≡ Less = less_is (key_cmp k (row_key r)) parts.0 in
    (less, below_trans k (row_key r) (map row_key rows) less (all_above (row_key r) rows parts.1))

ascending_is : (position : Option Key) (rows : List Row) → ascends position rows ≡ true → IsAscending (map row_key rows)
ascending_is position [] e = tt
ascending_is position (r ∷ rows) e = let parts = both _ _ e in (all_above (row_key r) rows parts.1, ascending_is (Some (row_key r)) rows parts.1)

below_is : (k : Key) (rows : List Row) → IsBelowAll k (map row_key rows) → list_all (λ (r : Row). is_after (Some k) (row_key r)) rows ≡ true
below_is k [] h = refl
below_is k (r ∷ rows) h = both_true (ap is_lt h.0) (below_is k rows h.1)

above_is : (position : Option Key) (rows : List Row) → ascends position rows ≡ true → list_all (λ (r : Row). is_after position (row_key r)) rows ≡ true
above_is None rows e = every rows
  where
    every : (rows : List Row) → list_all (λ (r : Row). is_after None (row_key r)) rows ≡ true
    every [] = refl
    every (r ∷ rows) = every rows
above_is (Some k) rows e = below_is k rows (all_above k rows e)

chained : (k : Key) (rows : List Row) → IsBelowAll k (map row_key rows) → IsAscending (map row_key rows) → ascends (Some k) rows ≡ true
chained k [] below h = refl
chained k (r ∷ rows) below h = both_true (ap is_lt below.0) (chained (row_key r) rows h.0 h.1)

ascends_from : (position : Option Key) (rows : List Row) → IsAscending (map row_key rows) → list_all (λ (r : Row). is_after position (row_key r)) rows ≡ true → ascends position rows ≡ true
ascends_from position [] h e = refl
ascends_from position (r ∷ rows) h e = let parts = both _ _ e in both_true parts.0 (chained (row_key r) rows h.0 h.1)

-- ---- rows
all_is : {X : Type 0} (p : X → Bool) (P : X → Type 0) (xs : List X) → ((x : X) → p x ≡ true → P x) → list_all p xs ≡ true → AllByRecursion P xs
all_is p P [] f e = tt
all_is p P (x ∷ xs) f e = let parts = both _ _ e in (f x parts.0, all_is p P xs f parts.1)

is_all : {X : Type 0} (p : X → Bool) (P : X → Type 0) (xs : List X) → ((x : X) → P x → p x ≡ true) → AllByRecursion P xs → list_all p xs ≡ true
is_all p P [] f h = refl
is_all p P (x ∷ xs) f h = both_true (f x h.0) (is_all p P xs f h.1)

part_is : (v : Value) → is_part v ≡ true → IsPart v
part_is (value.Date ms) e = let parts = both _ _ e in (int_at_most _ _ parts.0, int_at_most _ _ parts.1)
part_is value.Null e = tt
part_is (value.Bool b) e = tt
part_is (value.Int n) e = tt
part_is (value.Str text) e = tt

is_part_of : (v : Value) → IsPart v → is_part v ≡ true
is_part_of (value.Date ms) h = both_true (at_most_int _ _ h.0) (at_most_int _ _ h.1)
is_part_of value.Null h = refl
is_part_of (value.Bool b) h = refl
is_part_of (value.Int n) h = refl
is_part_of (value.Str text) h = refl

value_is : (v : Value) → is_row_value v ≡ true → IsRowValue v
value_is (value.Date ms) e = let parts = both _ _ e in (int_at_most _ _ parts.0, int_at_most _ _ parts.1)
value_is value.Null e = tt
value_is (value.Bool b) e = tt
value_is (value.Int n) e = let parts = both _ _ e in (int_at_most _ _ parts.0, int_at_most _ _ parts.1)
value_is (value.Str text) e = absurd (let z : false ≡ true = e in cc)

is_value : (v : Value) → IsRowValue v → is_row_value v ≡ true
is_value (value.Date ms) h = both_true (at_most_int _ _ h.0) (at_most_int _ _ h.1)
is_value value.Null h = refl
is_value (value.Bool b) h = refl
is_value (value.Int n) h = both_true (at_most_int _ _ h.0) (at_most_int _ _ h.1)
is_value (value.Str text) h = absurd h

row_is : (s : Shape) (docs : List Doc) (r : Row) → is_row_of s r ≡ true → IsRowOf s docs r
row_is (shape.Pivot groups aggs) docs (row.Pivot k values) e =
    let a = both _ _ e in
    let b = both _ _ a.1 in
    let c = both _ _ b.1 in
    record { parts = same_nat _ _ a.0; part_dates = all_is is_part IsPart k.parts part_is b.0; values_are = same_nat _ _ c.0; fits = all_is is_row_value IsRowValue values value_is c.1 }
row_is (shape.Pivot groups aggs) docs (row.Latest k index shard seq) e = absurd (let z : false ≡ true = e in cc)
row_is (shape.Latest keys sort) docs (row.Pivot k values) e = absurd (let z : false ≡ true = e in cc)
row_is (shape.Latest keys sort) docs (row.Latest k index shard seq) e = absurd (let z : false ≡ true = e in cc)

is_row : (s : Shape) (docs : List Doc) (r : Row) → is_pivot s ≡ true → IsRowOf s docs r → is_row_of s r ≡ true
is_row (shape.Pivot groups aggs) docs (row.Pivot k values) built h =
    both_true (nat_same _ _ h.parts) (both_true (is_all is_part IsPart k.parts is_part_of h.part_dates) (both_true (nat_same _ _ h.values_are) (is_all is_row_value IsRowValue values is_value h.fits)))
is_row (shape.Pivot groups aggs) docs (row.Latest k index shard seq) built h = absurd h
is_row (shape.Latest keys sort) docs r built h = absurd (let z : false ≡ true = built in cc)

pub rows_are : (s : Shape) (docs : List Doc) (rows : List Row) → list_all (is_row_of s) rows ≡ true → AllByRecursion (IsRowOf s docs) rows
rows_are s docs rows e = all_is (is_row_of s) (IsRowOf s docs) rows (row_is s docs) e

pub are_rows : (s : Shape) (docs : List Doc) (rows : List Row) → is_pivot s ≡ true → AllByRecursion (IsRowOf s docs) rows → list_all (is_row_of s) rows ≡ true
are_rows s docs rows built h = is_all (is_row_of s) (IsRowOf s docs) rows (λ r. is_row s docs r built) h

-- ---- pages and finishes
module _ (docs : List Doc) (t : Transform) (l : Life) (s : IsSummary docs t l) (n : ℕ) where
  running_is : is_running t n ≡ true → IsRunning l n
  running_is e = let parts = both _ _ e in (same_nat _ _ parts.0 ∙ ap (λ m. m + 1) s.finished, same_nat _ _ parts.1 ∙ s.begun)

  is_running_now : IsRunning l n → is_running t n ≡ true
  is_running_now r = both_true (nat_same _ _ (r.0 ∙ ap (λ m. m + 1) (sym s.finished))) (nat_same _ _ (r.1 ∙ sym s.begun))

  size_is : l.meaning.page_size ≡ t.config.page_size
  size_is = ap (λ m. m.page_size) s.meaning_is

  pub page_may : (rows : List Row) → may_page t n rows ≡ true → MayPage l n rows × (list_all (is_row_of t.config.shape) rows ≡ true)
  page_may rows e =
      let a = both _ _ e in
      let b = both _ _ a.1 in
      let c = both _ _ b.1 in
      let d = both _ _ c.1 in
      let f = both _ _ d.1 in
      let at_most : length rows ≤ t.config.page_size = nat_at_most _ _ d.0 in
      let above : ascends l.position rows ≡ true = ap (λ p. ascends p rows) (sym s.position) ∙ f.0 in (
        record {
          running = running_is a.0;
          active = ap is_active (sym s.state) ∙ b.0;
          some = ltb-true _ _ c.0;
          fits = subst (λ m. length rows ≤ m) (sym size_is) at_most;
          ascending = sorted (map row_key rows) (ascending_is l.position rows above);
          above = above_is l.position rows above;
        },
        f.1,
      )

  pub may_page_now : (rows : List Row) → MayPage l n rows → list_all (is_row_of t.config.shape) rows ≡ true → may_page t n rows ≡ true
  may_page_now rows m all =
      both_true (is_running_now m.running) (both_true (ap is_active s.state ∙ m.active) (both_true (lt-ltb _ _ m.some) (both_true (at_most_nat _ _ (subst (λ k. length rows ≤ k) size_is m.fits))
      (both_true (ap (λ p. ascends p rows) s.position ∙ ascends_from l.position rows (unsorted (map row_key rows) m.ascending) m.above) all))))

  pub finish_may : may_finish t n ≡ true → to_do l ≡ [] → MayFinish l n
  finish_may e none = let parts = both _ _ e in record { running = running_is parts.0; active = ap is_active (sym s.state) ∙ parts.1; nothing_left = none }

  pub running_may : IsRunning l n → is_active l.state ≡ true → may_finish t n ≡ true
  running_may r active = both_true (is_running_now r) (ap is_active s.state ∙ active)

  pub running_of : may_finish t n ≡ true → IsRunning l n
  running_of e = running_is (both _ _ e).0
