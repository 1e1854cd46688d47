-- The rows of a latest as a plan, and its pages.
use Rattle.std.proofs.Common.{◌≡◌, ℕ, suc, ◌-◌, ◌≤◌, Bool, true, false, ◌&&◌, ◌||◌, List, [], ◌∷◌, length, map, take, drop, refl, sym, ap, subst, ◌∙◌, arith, IsTrue, ◌↔◌}
use Rattle.std.proofs.lemmas.List.{drop-map, length-drop, length-map, take-map}
use Rattle.std.proofs.lemmas.Map.Entries.{btree_map_get_place}
use Rattle.std.specs.Prelude.{ℤ, Option, Some, None, is_some, if◌then◌else◌, filter, nat_eq, nat_lt, not, slice_get, unwrap_or}
use Rattle.std.specs.Borrow.{Bor}
use Rattle.std.specs.BTreeMap.{BTreeMap, IsOrdered, get, keys}
use Rattle.std.specs.List.{cons_option, filter_map, list_any}
use Rattle.std.specs.Map.{lookup}
use Rattle.std.specs.Option.{option_copied, option_map}
use Rattle.std.specs.Ordering.{eq_by_cmp}
use Rattle.std.specs.declared.cmp.Ordering.{Ordering}
use Rattle.tf_model.specs.declared.value.Key.{Key}
use Rattle.tf_model.specs.declared.doc.Doc.{Doc}
use Rattle.tf_model.specs.declared.config.Config.{Config}
use Rattle.tf_model.specs.declared.config.Shape.{Shape}
use Rattle.tf_model.specs.declared.config.Shape.TheVariants.{Pivot, Latest}
use Rattle.tf_model.specs.declared.entry.Row.{Row}
use Rattle.tf_model.specs.Changed.{changed_above, is_after}
use Rattle.tf_model.specs.Counted.{counted, counts, is_from, is_in_window, window}
use Rattle.tf_model.specs.Keys.{has_key}
use Rattle.tf_model.specs.Latest.{age_cmp, latest_row, newer, newest, row_named, sort_of}
use Rattle.tf_model.specs.Order.{key_cmp, key_cmp_total}
use Rattle.tf_model.specs.Rows.{of_both, with_key}
use Rattle.tf_history.specs.Lives.{last_key}
use Rattle.tf_history.specs.Meaning.{row_key}
use Rattle.tf_history.proofs.Keys.{last_of}
use Rattle.tf_latest.specs.Newest.{newest_of}
use Rattle.tf_plan.specs.Left.{Left, behind, is_empty, left_after, left_by, next_page, page_by, position_after, wide_within}
use Rattle.tf_plan.specs.Newest.{AreNewest, named, newest_at}
use Rattle.tf_plan.specs.Shaped.{AreLatestRows, IsLatestLeftOf, IsLatestPageOf, IsLatestPlan, IsShapedPage, IsShapedPlan}
use Rattle.tf_plan.proofs.KeysLaws.{keys_are}
use Rattle.tf_plan.proofs.LeftLaws.{and_true, page_is, sorted_drop}
use Rattle.tf_plan.proofs.PositionLaws.{above_last, plan_moves}

-- ---- a key of the window has a newest document among those that count
some_both : (cmp : Doc → Doc → Ordering) (d : Doc) (x : Option Doc) → is_some (of_both (newer cmp) (Some d) x) ≡ true
some_both cmp d None = refl
some_both cmp d (Some e) = refl

newest_some : (cmp : Doc → Doc → Ordering) (has : Doc → Bool) (docs : List Doc) → list_any has docs ≡ true → is_some (newest cmp (filter has docs)) ≡ true
newest_some cmp has [] any = absurd (cc)
newest_some cmp has (d ∷ docs) any = by (newest_some cmp has docs) (has d) any
  where
    by : (list_any has docs ≡ true → is_some (newest cmp (filter has docs)) ≡ true) → (b : Bool) → (b || list_any has docs) ≡ true → is_some (newest cmp (if b then d ∷ filter has docs else filter has docs)) ≡ true
    by rest true any = some_both cmp d (newest cmp (filter has docs))
    by rest false any = rest any

any_of_more : (has p q : Doc → Bool) (docs : List Doc) → list_any has (filter (λ d. p d && q d) docs) ≡ true → list_any has (filter p docs) ≡ true
any_of_more has p q [] any = any
any_of_more has p q (d ∷ docs) any = by (any_of_more has p q docs) (p d) (q d) any
  where
    or : (h s t : Bool) → (s ≡ true → t ≡ true) → (h || s) ≡ true → (h || t) ≡ true
    or true s t step any = refl
    or false s t step any = step any

    right : (h s t : Bool) → (s ≡ true → t ≡ true) → s ≡ true → (h || t) ≡ true
    right true s t step any = refl
    right false s t step any = step any

    by : (list_any has (filter (λ d. p d && q d) docs) ≡ true → list_any has (filter p docs) ≡ true) → (a b : Bool) → list_any has (if a && b then d ∷ filter (λ d. p d && q d) docs else filter (λ d. p d && q d) docs) ≡ true → list_any has (if a then d ∷ filter p docs else filter p docs) ≡ true
    by rest true true any = or (has d) (list_any has (filter (λ d. p d && q d) docs)) (list_any has (filter p docs)) rest any
    by rest true false any = right (has d) (list_any has (filter (λ d. p d && q d) docs)) (list_any has (filter p docs)) rest any
    by rest false b any = rest any

changed_some : (sources sort : List ℕ) (c : Config) (low high : Option ℤ) (docs : List Doc) (k : Key) → list_any (has_key c k) (window c low high docs) ≡ true
    → is_some (newest_of sources sort c (counted c high docs) k) ≡ true
unfolding window is_in_window counted with_key
changed_some sources sort c low high docs k any =
    newest_some (age_cmp sources sort) (has_key c k) (filter (counts c high) docs) (any_of_more (has_key c k) (counts c high) (is_from c low) docs any)

-- ---- the rows of entries
rows_all : {E : Type 0} (f : E → Option Row) (key : E → Key) (made : Key → Option Row) (es : List E) → ((i : ℕ) (e : E) → slice_get es i ≡ Some e → (f e ≡ made (key e)) × (is_some (f e) ≡ true))
    → map Some (filter_map f es) ≡ map made (map key es)
rows_all f key made [] are = refl
rows_all f key made (e ∷ es) are = by (rows_all f key made es (λ i x at. are (suc i) x at)) (f e) (are 0 e refl).0 (are 0 e refl).1
  where
    by : map Some (filter_map f es) ≡ map made (map key es) → (r : Option Row) → r ≡ made (key e) → is_some r ≡ true → map Some (cons_option r (filter_map f es)) ≡ made (key e) ∷ map made (map key es)
    by rest None is some = absurd (cc)
    by rest (Some r) is some = λ i. is i ∷ rest i

some_if : {X Y : Type 0} (f : X → Y) (x : Option X) (b : Bool) (y : Y) → option_map f x ≡ (if b then Some y else None) → is_some x ≡ b
some_if f None true y e = absurd (cc)
some_if f None false y e = refl
some_if f (Some x) true y e = refl
some_if f (Some x) false y e = absurd (cc)

made_if : {Y : Type 0} (x : Y) (b : Bool) (y : Y) → Some x ≡ (if b then Some y else None) → (x ≡ y) × (b ≡ true)
made_if x true y e = (cc, refl)
made_if x false y e = absurd (cc)

and_right : (a b : Bool) → (a && b) ≡ true → b ≡ true
and_right true b e = e
and_right false b e = absurd (cc)

some_mapped : {X Y : Type 0} (f : X → Y) (x : Option X) → is_some x ≡ true → is_some (option_map f x) ≡ true
some_mapped f None e = e
some_mapped f (Some x) e = refl

-- the rows of the newest documents are a plan
pub latest_plan_is : (sources : List ℕ) (c : Config) (low high : Option ℤ) (after : Option Key) (docs : List Doc) (entries : List (Key × Option (Bor Doc))) (sorted : BTreeMap Key (Option (Bor Doc))) (rows : List Row)
    → AreNewest sources (sort_of c.shape) c after (window c low high docs) (counted c high docs) (newest_at entries) → ((k : Key) → get key_cmp sorted k ≡ lookup (eq_by_cmp key_cmp k) entries) → IsOrdered key_cmp sorted
    → rows ≡ filter_map named sorted.entries → IsLatestPlan sources c low high after docs (record { rows = rows; wide = None })
unfolding latest_row
latest_plan_is sources c low high after docs entries sorted rows are same ordered made =
    let all = counted c high docs in
    let seen = window c low high docs in
    let ks : keys sorted ≡ changed_above c low high after docs =
    keys_are c low high after docs sorted ordered
    (λ k. some_if option_copied (get key_cmp sorted k) (is_after after k && list_any (has_key c k) seen) (newest_of sources (sort_of c.shape) c all k) (ap (option_map option_copied) (same k) ∙ are k)) in
    subst (λ qs. IsLatestLeftOf sources c all qs (record { rows = rows; wide = None })) ks (record {
      ascend = ordered;
      rows = ap (map Some) made ∙ rows_all named (λ e. e.0) (λ k. latest_row sources c k all) sorted.entries entry_is;
      no_wide = refl;
    })
  where
    entry_is : (i : ℕ) (e : Key × Option (Bor Doc)) → slice_get sorted.entries i ≡ Some e → (named e ≡ latest_row sources c e.0 (counted c high docs)) × (is_some (named e) ≡ true)
    entry_is i e at =
        let all = counted c high docs in
        let has = btree_map_get_place key_cmp_total sorted i e.0 e.1 ordered at in
        let kept = made_if (option_copied e.1) (is_after after e.0 && list_any (has_key c e.0) (window c low high docs)) (newest_of sources (sort_of c.shape) c all e.0)
        (ap (option_map option_copied) (sym has ∙ same e.0) ∙ are e.0) in
        let is : named e ≡ latest_row sources c e.0 all = ap (option_map (row_named e.0)) kept.0 in (
          is,
          ap is_some is ∙ some_mapped (row_named e.0) (newest_of sources (sort_of c.shape) c all e.0)
              (changed_some sources (sort_of c.shape) c low high docs e.0 (and_right (is_after after e.0) (list_any (has_key c e.0) (window c low high docs)) kept.1)),
        )

-- ---- pages
no_sum : (size : ℕ) (left : Left) → left.wide ≡ None → wide_within size left ≡ None
no_sum size left none = by (nat_lt (length left.rows) size)
  where
    by : (b : Bool) → (if b then left.wide else None) ≡ None
    by true = none
    by false = refl

as_many : (sources : List ℕ) (c : Config) (docs : List Doc) (ks : List Key) (rows : List Row) → AreLatestRows sources c docs ks rows → length rows ≡ length ks
as_many sources c docs ks rows are = sym (length-map rows Some) ∙ ap length are ∙ length-map ks (λ k. latest_row sources c k docs)

last_if : (size n : ℕ) (left : Left) → left.wide ≡ None → length left.rows ≡ n → IsTrue (is_empty (behind size left)) ↔ (n ≤ size)
last_if size n left none all = by (nat_eq (length (drop size left.rows)) 0) refl all (length-drop size left.rows)
  where
    same : is_empty (behind size left) ≡ nat_eq (length (drop size left.rows)) 0
    same = ap (λ w. nat_eq (length (drop size left.rows)) 0 && not (is_some w)) none ∙ and_true (nat_eq (length (drop size left.rows)) 0)

    by : (b : Bool) → nat_eq (length (drop size left.rows)) 0 ≡ b → length left.rows ≡ n → length (drop size left.rows) ≡ length left.rows - size → IsTrue (is_empty (behind size left)) ↔ (n ≤ size)
    by true e all count = let none : length (drop size left.rows) ≡ 0 = grind (arith, e) in ((λ t. omega (arith, all, count, none)), (λ le. same ∙ e))
    by false e all count = (
      (λ t. absurd (let z : false ≡ true = sym e ∙ sym same ∙ t in cc)),
      (λ short. let none : length (drop size left.rows) ≡ 0 = omega (arith, all, count, short) in absurd (let z : false ≡ true = sym e ∙ ap (λ n. nat_eq n 0) none in cc)),
    )

module _ (sources : List ℕ) (c : Config) (docs : List Doc) (ks : List Key) (left : Left) (is : IsLatestLeftOf sources c docs ks left) (size : ℕ) where
  first_rows : AreLatestRows sources c docs (take size ks) (take size left.rows)
  first_rows = sym (take-map Some size left.rows) ∙ ap (take size) is.rows ∙ take-map (λ k. latest_row sources c k docs) size ks

  pub latest_page_is : IsLatestPageOf sources c docs ks size (next_page size left)
  latest_page_is =
      subst (λ wide. IsLatestPageOf sources c docs ks size (page_by size left wide)) (sym (no_sum size left is.no_wide))
      (first_rows, last_if size (length ks) left is.no_wide (as_many sources c docs ks left.rows is.rows))

  latest_behind_is : IsLatestLeftOf sources c docs (drop size ks) (behind size left)
  latest_behind_is = record {
    ascend = sorted_drop size ks is.ascend;
    rows = sym (drop-map Some size left.rows) ∙ ap (drop size) is.rows ∙ drop-map (λ k. latest_row sources c k docs) size ks;
    no_wide = is.no_wide;
  }

-- a latest row has its key
named_key : (k : Key) (d : Option Doc) (r : Row) → option_map (row_named k) d ≡ Some r → row_key r ≡ k
named_key k None r e = absurd (cc)
named_key k (Some d) r e = ap (λ o. row_key (unwrap_or o r)) (sym e)

latest_keyed : (sources : List ℕ) (c : Config) (k : Key) (docs : List Doc) (r : Row) → latest_row sources c k docs ≡ Some r → row_key r ≡ k
unfolding latest_row
latest_keyed sources c k docs r e = named_key k (newest (age_cmp sources (sort_of c.shape)) (with_key c k docs)) r e

-- the last of some rows has the last of their keys
last_is : (made : Key → Option Row) → ((k : Key) (r : Row) → made k ≡ Some r → row_key r ≡ k) → (ks : List Key) (rows : List Row) → map Some rows ≡ map made ks → last_key rows ≡ last_of ks
last_is made keyed [] [] e = refl
last_is made keyed [] (r ∷ rows) e = absurd (cc)
last_is made keyed (k ∷ ks) [] e = absurd (cc)
last_is made keyed (k ∷ []) (r ∷ []) e = let first : made k ≡ Some r = cc in ap Some (keyed k r first)
last_is made keyed (k ∷ []) (r ∷ s ∷ rows) e = absurd (cc)
last_is made keyed (k ∷ j ∷ ks) (r ∷ []) e = absurd (cc)
last_is made keyed (k ∷ j ∷ ks) (r ∷ s ∷ rows) e = last_is made keyed (j ∷ ks) (s ∷ rows) (cc)

-- what is left behind the next page is the plan above its position
pub latest_plan_moves : (sources : List ℕ) (c : Config) (low high : Option ℤ) (after : Option Key) (docs : List Doc) (size : ℕ) (left : Left) → IsLatestPlan sources c low high after docs left
    → IsLatestPlan sources c low high (position_after after (next_page size left)) docs (left_after size left)
latest_plan_moves sources c low high after docs size left is =
    let ks = changed_above c low high after docs in
    let all = counted c high docs in
    let last = last_is (λ k. latest_row sources c k all) (λ k r e. latest_keyed sources c k all r e) (take size ks) (take size left.rows) (first_rows sources c all ks left is size) in
    subst (λ wide. IsLatestPlan sources c low high (position_after after (page_by size left wide)) docs (left_by size left wide)) (sym (no_sum size left is.no_wide))
    (subst (λ qs. IsLatestLeftOf sources c all qs (behind size left)) (sym (above_last c low high after docs size (last_key (take size left.rows)) (sym last))) (latest_behind_is sources c all ks left is size))

-- ---- either shape
pub shaped_page_is : (s : Shape) (sources : List ℕ) (c : Config) (low high : Option ℤ) (after : Option Key) (docs : List Doc) (size : ℕ) (left : Left) → IsShapedPlan s sources c low high after docs left
    → IsShapedPage s sources c low high after docs size (next_page size left)
shaped_page_is (Pivot groups aggs) sources c low high after docs size left is = page_is c (counted c high docs) (changed_above c low high after docs) left is size
shaped_page_is (Latest unique_key sort) sources c low high after docs size left is = latest_page_is sources c (counted c high docs) (changed_above c low high after docs) left is size

pub shaped_plan_moves : (s : Shape) (sources : List ℕ) (c : Config) (low high : Option ℤ) (after : Option Key) (docs : List Doc) (size : ℕ) (left : Left) → IsShapedPlan s sources c low high after docs left
    → IsShapedPlan s sources c low high (position_after after (next_page size left)) docs (left_after size left)
shaped_plan_moves (Pivot groups aggs) sources c low high after docs size left is = plan_moves c low high after docs size left is
shaped_plan_moves (Latest unique_key sort) sources c low high after docs size left is = latest_plan_moves sources c low high after docs size left is
