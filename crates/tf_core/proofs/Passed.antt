-- How far the first documents are behind the windows of a transform.
use Rattle.std.proofs.Common.{◌≡◌, ℕ, zero, suc, ◌≤◌, Bool, true, false, cond, ◌&&◌, not, List, [], ◌∷◌, ◌++◌, filter, length, take, drop, Option, Some, None, arith, refl, sym, ap, ◌∙◌, subst}
use Rattle.std.specs.Prelude.{ℤ, ◌||◌, ◌≤ℤ◌, if◌then◌else◌}
use Rattle.std.specs.Int.{int_max}
use Rattle.std.specs.List.{AllByRecursion, list_any}
use Rattle.std.proofs.lemmas.Int.{clamps, ints}
use Rattle.std.proofs.lemmas.List.{take-append-le}
use Rattle.std.proofs.lemmas.List.Elements.{All-from_recursion, filter-append, recursion_from_All}
use Rattle.tf_model.specs.declared.config.Config.{Config}
use Rattle.tf_model.specs.declared.doc.Doc.{Doc}
use Rattle.tf_model.specs.declared.value.Value.{Value}
use Rattle.tf_model.specs.declared.value.Value.TheVariants as value
use Rattle.tf_model.specs.Bounds.{risen}
use Rattle.tf_model.specs.Changed.{changed, changed_above, is_after}
use Rattle.tf_model.specs.Conditions.{AllFit, Fits}
use Rattle.tf_model.specs.Counted.{counts, is_before, is_from, is_in_window, is_since, sync_value, window}
use Rattle.tf_model.specs.Keys.{all_keys}
use Rattle.tf_model.specs.Query.{meets, passes}
use Rattle.tf_history.specs.Acts.{IsNextBegin}
use Rattle.tf_history.specs.Lives.{Life, last_bound, next_bound}
use Rattle.tf_core.specs.declared.transform.Transform.{Transform}
use Rattle.tf_core.specs.Allowing.{has_none_left, has_window, is_empty, is_in_next, read_by}
use Rattle.tf_core.specs.Passed.{HasMark, IsMarked, IsPassed, IsRisen, unpassed}
use Rattle.tf_core.specs.Sources.{is_among}
use Rattle.tf_core.proofs.BuiltPast.{all_weaken}
use Rattle.tf_core.proofs.RowRoom.{all_behind}
use Rattle.tf_core.proofs.Truths.{at_most_int, int_at_most}

-- ---- bounds rise
not_below : (last ms : ℤ) → last ≤ℤ int_max last ms
not_below last ms = omega (arith, ints, clamps)

risen_is : (last : Option ℤ) (ms : ℤ) → IsRisen last (Some (risen last ms))
risen_is None ms = tt
risen_is (Some last) ms = not_below last ms

-- the bound of the next checkpoint is not below that of the newest
pub bound_rises : (l : Life) (n : ℕ) (bound : Option ℤ) (moment : ℤ) → IsNextBegin l n bound moment → (last : Option ℤ) → last ≡ last_bound l.checkpoints → IsRisen last bound
bound_rises l n bound moment m last is =
    subst (λ b. IsRisen last b) (sym m.bound_is)
    (subst (λ b. IsRisen b (next_bound l.meaning (last_bound l.checkpoints) moment)) (sym is) (by l.meaning.is_batch refl))
  where
    by : (b : Bool) → l.meaning.is_batch ≡ b → IsRisen (last_bound l.checkpoints) (if b then None else Some (risen (last_bound l.checkpoints) (l.meaning.aligned moment)))
    by true batch = subst (λ cs. IsRisen (last_bound cs) None) (sym (m.once batch)) tt
    by false batch = risen_is (last_bound l.checkpoints) (l.meaning.aligned moment)

-- ---- what is passed stays passed
since_before : (low bound : ℤ) (o : Option Value) → low ≤ℤ bound → passes (is_since bound) o ≡ true → passes (is_since low) o ≡ true
since_before low bound None rises e = e
since_before low bound (Some (value.Date ms)) rises e = let h : bound ≤ℤ ms = int_at_most bound ms e in at_most_int low ms (omega (arith, ints, h, rises))
since_before low bound (Some value.Null) rises e = e
since_before low bound (Some (value.Bool b)) rises e = e
since_before low bound (Some (value.Int n)) rises e = e
since_before low bound (Some (value.Str text)) rises e = e

from_before : (c : Config) (low bound : Option ℤ) (d : Doc) → IsRisen low bound → is_from c bound d ≡ true → is_from c low d ≡ true
from_before c None bound d rises e = refl
from_before c (Some low) None d rises e = absurd rises
from_before c (Some low) (Some bound) d rises e = since_before low bound (sync_value c d) rises e

less : (m low bound : Bool) → (bound ≡ true → low ≡ true) → not (m && low) ≡ true → not (m && bound) ≡ true
less false low bound only e = refl
less true low false only e = refl
less true low true only e = absurd (let z : false ≡ true = ap not (sym (only refl)) ∙ e in cc)

passed_on : (c : Config) (low bound : Option ℤ) → IsRisen low bound → (d : Doc) → IsPassed c low d → IsPassed c bound d
unfolding is_in_window counts
passed_on c low bound rises d e = less (meets d c.query) (is_from c low d) (is_from c bound d) (from_before c low bound d rises) e

pub all_passed_on : (c : Config) (low bound : Option ℤ) → IsRisen low bound → (docs : List Doc) → AllByRecursion (IsPassed c low) docs → AllByRecursion (IsPassed c bound) docs
all_passed_on c low bound rises docs all = all_weaken (IsPassed c low) (IsPassed c bound) (passed_on c low bound rises) docs all

-- more documents leave the first ones
pub marked_more : (docs more : List Doc) (c : Config) (low bound : Option ℤ) (read passed : ℕ) → read ≤ length docs → IsMarked c low bound read passed docs → IsMarked c low bound read passed (docs ++ more)
marked_more docs more c low bound read passed within h = record {
  risen = h.risen;
  behind = h.behind;
  passed = subst (AllByRecursion (IsPassed c low)) (sym (take-append-le passed docs more (omega (arith, h.behind, within)))) h.passed;
}

-- ---- what is passed is in no window
neither : (m below from : Bool) → not (m && from) ≡ true → ((m && below) && from) ≡ false
neither false below from e = refl
neither true true false e = refl
neither true false from e = refl
neither true true true e = absurd (let z : false ≡ true = e in cc)

in_no_window : (c : Config) (low high : Option ℤ) (d : Doc) → IsPassed c low d → is_in_window c low high d ≡ false
unfolding is_in_window counts
in_no_window c low None d e = by (meets d c.query && is_from c low d) e
  where
    by : (b : Bool) → not b ≡ true → b ≡ false
    by false f = refl
    by true f = absurd (let z : false ≡ true = f in cc)
in_no_window c low (Some high) d e = neither (meets d c.query) (passes (is_before high) (sync_value c d)) (is_from c low d) e

abbrev IsOutside : (Doc → Bool) → Doc → Type 0
IsOutside test d = test d ≡ false

any_behind : (test : Doc → Bool) (docs : List Doc) (n : ℕ) → AllByRecursion (IsOutside test) (take n docs) → list_any test docs ≡ list_any test (drop n docs)
any_behind test docs zero all = refl
any_behind test [] (suc n) all = refl
any_behind test (d ∷ docs) (suc n) all = ap (λ b. b || list_any test docs) all.0 ∙ any_behind test docs n all.1

and_false : (a b : Bool) → b ≡ false → (a && b) ≡ false
and_false true b e = e
and_false false b e = refl

-- whether a window has a document is told by those that are not passed
pub window_behind : (t : Transform) (docs : List Doc) (bound : Option ℤ) → HasMark t docs → has_window t docs bound ≡ list_any (is_in_next t bound) (drop t.passed docs)
window_behind t docs bound h =
    any_behind (is_in_next t bound) docs t.passed
    (all_weaken (IsPassed t.config t.low) (IsOutside (is_in_next t bound))
    (λ d e. and_false (is_among t.sources d) (is_in_window t.config t.bound bound d) (in_no_window t.config t.bound bound d (passed_on t.config t.low t.bound h.risen d e)))
    (take t.passed docs) h.passed)

filtered_behind : (test among : Doc → Bool) (front back : List Doc) → AllByRecursion (IsOutside test) front → filter test (filter among (front ++ back)) ≡ filter test (filter among back)
filtered_behind test among [] back all = refl
filtered_behind test among (d ∷ front) back all =
    let rest = filter among (front ++ back) in
    elim (among d) as (λ b. filter test (cond b (d ∷ rest) rest) ≡ filter test (filter among back)) [
      | true ↦ ap (λ b. cond b (d ∷ filter test rest) (filter test rest)) all.0 ∙ filtered_behind test among front back all.1
      | false ↦ filtered_behind test among front back all.1
    ]

-- the first documents of some, and those of them behind a place
parted : (docs : List Doc) (n m : ℕ) → n ≤ m → take m docs ≡ take n docs ++ drop n (take m docs)
parted docs zero m low = refl
parted docs (suc n) zero low = absurd (omega (arith, low))
parted [] (suc n) (suc m) low = refl
parted (d ∷ docs) (suc n) (suc m) low = ap (λ ds. d ∷ ds) (parted docs n m (omega (arith, low)))

module _ (t : Transform) (docs : List Doc) (h : HasMark t docs) where
  read_is : read_by t docs ≡ filter (is_among t.sources) (take t.passed docs ++ drop t.passed (take t.read docs))
  read_is = ap (filter (is_among t.sources)) (parted docs t.passed t.read h.behind)

  pub unpassed_fit : AllFit t.config (read_by t docs) → AllFit t.config (unpassed t docs)
  unpassed_fit fit =
      let front = filter (is_among t.sources) (take t.passed docs) in
      let whole = recursion_from_All (Fits t.config) (read_by t docs) fit in
      let parts = read_is ∙ filter-append (is_among t.sources) (take t.passed docs) (drop t.passed (take t.read docs)) in
      All-from_recursion (Fits t.config) (unpassed t docs) (all_behind (Fits t.config) front (unpassed t docs) (subst (AllByRecursion (Fits t.config)) parts whole))

  window_is : window t.config t.low t.bound (read_by t docs) ≡ window t.config t.low t.bound (unpassed t docs)
  unfolding window
  window_is =
      ap (filter (is_in_window t.config t.low t.bound)) read_is
      ∙ filtered_behind (is_in_window t.config t.low t.bound) (is_among t.sources) (take t.passed docs) (drop t.passed (take t.read docs))
      (all_weaken (IsPassed t.config t.low) (IsOutside (is_in_window t.config t.low t.bound)) (in_no_window t.config t.low t.bound) (take t.passed docs) h.passed)

  -- whether changed keys are left is told by the documents that are not passed
  pub keys_behind : has_none_left t docs ≡ is_empty (changed_above t.config t.low t.bound t.position (unpassed t docs))
  unfolding changed_above changed
  keys_behind = ap (λ ds. is_empty (filter (is_after t.position) (all_keys t.config ds))) window_is
