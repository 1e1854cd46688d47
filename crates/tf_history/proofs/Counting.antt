-- Facts on counted documents, bounds and cutoffs.
use Rattle.std.proofs.Common.{◌≡◌, ℤ, Bool, true, false, cond, not, ◌&&◌, ◌||◌, List, [], ◌∷◌, Option, Some, None, arith, refl, sym, ap, ◌∙◌}
use Rattle.std.specs.Prelude.{int_lt, int_le, option_map, ◌-ℤ◌}
use Rattle.std.proofs.lemmas.Option.{same_Some}
use Rattle.std.specs.List.{list_any, filter}
use Rattle.std.specs.Int.{int_max}
use Rattle.std.proofs.lemmas.Int.{ints}
use Rattle.tf_history.specs.Meaning.Content.{Values, Named}
use Rattle.tf_history.specs.Grouping.{has_key, is_below, is_from, counts, counted, from_bound, row_of, stays, row_if_any, keep}
use Rattle.tf_history.specs.Lives.{Checkpoint, cutoff}
use Rattle.tf_model.specs.Bounds.{risen, cutoff_by}
use Rattle.tf_history.proofs.Lists.{any_same}
use Rattle.tf_history.specs.Meaning.{Meaning, row_key, row_from, Content}
use Rattle.tf_model.specs.declared.doc.Doc.{Doc}
use Rattle.tf_model.specs.declared.entry.Row.{Row}
use Rattle.tf_model.specs.declared.value.Key.{Key}

key_from : (j : Key) (x : Content) → row_key (row_from j x) ≡ j
key_from j (Values values) = refl
key_from j (Named index shard seq) = refl

key_found : (j : Key) (o : Option Content) (r : Row) → option_map (row_from j) o ≡ Some r → row_key r ≡ j
key_found j None r e = absurd (let f : ◌≡◌ {A = Option Row} None (Some r) = e in cc)
key_found j (Some x) r e = ap row_key (sym (same_Some (row_from j x) r e)) ∙ key_from j x

pub keyed : (c : Meaning) (docs : List Doc) (j : Key) (r : Row) → row_of c docs j ≡ Some r → row_key r ≡ j
keyed c docs j r e = key_found j (c.content (filter (has_key c j) docs)) r e

pub row_if_any-same : (c : Meaning) (k : Key) (xs ys : List Doc) → filter (has_key c k) xs ≡ filter (has_key c k) ys → row_if_any c xs k ≡ row_if_any c ys k
row_if_any-same c k xs ys e =
    ap (λ b. cond b (row_of c xs k) None) (any_same (has_key c k) xs ys e)
    ∙ ap (λ docs. cond (list_any (has_key c k) ys) (option_map (row_from k) (c.content docs)) None) e

-- a filter by p and one by the stronger q keep the same of what has the test, where nothing that has it passes both p and w, and w is what is between
same_between : {X : Type 0} (p q w has_it : X → Bool) → ((x : X) → q x ≡ true → p x ≡ true) → ((x : X) → w x ≡ false → q x ≡ p x) → (xs : List X)
    → list_any has_it (filter w (filter p xs)) ≡ false → filter has_it (filter p xs) ≡ filter has_it (filter q xs)
same_between p q w has_it stronger between [] e = refl
same_between p q w has_it stronger between (x ∷ xs) e =
    elim (p x) as (λ b. p x ≡ b → list_any has_it (filter w (cond b (x ∷ filter p xs) (filter p xs))) ≡ false → filter has_it (cond b (x ∷ filter p xs) (filter p xs)) ≡ filter has_it (cond (q x) (x ∷ filter q xs) (filter q xs))) [
      | true ↦ λ t f. inside t (w x) refl f (λ g. same_between p q w has_it stronger between xs g)
      | false ↦ λ t f. same_between p q w has_it stronger between xs f ∙ sym (outside (q x) refl t)
    ] refl e
  where
    outside : (b : Bool) → q x ≡ b → p x ≡ false → filter has_it (cond b (x ∷ filter q xs) (filter q xs)) ≡ filter has_it (filter q xs)
    outside true s t = absurd (let g = stronger x s in cc)
    outside false s t = refl

    dropped : (b h : Bool) → has_it x ≡ h → h ≡ false → filter has_it (cond b (x ∷ filter q xs) (filter q xs)) ≡ filter has_it (filter q xs)
    dropped true true s t = absurd (let g : true ≡ false = t in cc)
    dropped true false s t = ap (λ d. cond d (x ∷ filter has_it (filter q xs)) (filter has_it (filter q xs))) s
    dropped false h s t = refl

    inside : p x ≡ true → (b : Bool) → w x ≡ b → list_any has_it (cond b (x ∷ filter w (filter p xs)) (filter w (filter p xs))) ≡ false
        → (list_any has_it (filter w (filter p xs)) ≡ false → filter has_it (filter p xs) ≡ filter has_it (filter q xs))
        → cond (has_it x) (x ∷ filter has_it (filter p xs)) (filter has_it (filter p xs)) ≡ filter has_it (cond (q x) (x ∷ filter q xs) (filter q xs))
    inside t true s f rest =
        elim (has_it x) as (λ h. has_it x ≡ h → (h || list_any has_it (filter w (filter p xs))) ≡ false → cond h (x ∷ filter has_it (filter p xs)) (filter has_it (filter p xs)) ≡ filter has_it (cond (q x) (x ∷ filter q xs) (filter q xs))) [
          | true ↦ λ u g. absurd (let z : true ≡ false = g in cc)
          | false ↦ λ u g. rest g ∙ sym (dropped (q x) false u refl)
        ] refl f
    inside t false s f rest =
        let same : q x ≡ true = between x s ∙ t in
        ap (λ ys. cond (has_it x) (x ∷ ys) ys) (rest f) ∙ ap (λ b. filter has_it (cond b (x ∷ filter q xs) (filter q xs))) (sym same)

below_max : (v a b : ℤ) → int_lt v a ≡ true → int_lt v (int_max a b) ≡ true
below_max v a b e = grind (arith, ints)

-- a risen bound lets pass what the earlier one let
pub below_risen : (value : Option ℤ) (x y : ℤ) → is_below (Some x) value ≡ true → is_below (Some (risen (Some x) y)) value ≡ true
below_risen None x y e = e
below_risen (Some v) x y e = below_max v x y e

low_below : (v x : ℤ) → int_le x v ≡ false → int_lt v x ≡ true
low_below v x e = grind (arith, ints)

-- what is not at or above a bound is below both it and a risen one, or below neither
from_neither : (value : Option ℤ) (x y : ℤ) → is_from (Some x) value ≡ false → is_below (Some x) value ≡ is_below (Some (risen (Some x) y)) value
from_neither None x y e = refl
from_neither (Some v) x y e = let low = low_below v x e in low ∙ sym (below_max v x y low)

-- the documents with a key that count below a risen bound are those below the earlier bound, where none of them is at or above it
pub same_counted : (c : Meaning) (k : Key) (a b : Option ℤ) (x y : ℤ) → a ≡ Some x → b ≡ Some (risen a y) → (docs : List Doc)
    → list_any (has_key c k) (from_bound c a (counted c b docs)) ≡ false → filter (has_key c k) (counted c b docs) ≡ filter (has_key c k) (counted c a docs)
same_counted c k a b x y is next docs none =
    same_between (counts c b) (counts c a) (λ d. is_from a (c.sync d)) (has_key c k) (λ d. stronger (c.matches d) (c.sync d)) between docs none
  where
    stronger : (m : Bool) (v : Option ℤ) → (m && is_below a v) ≡ true → (m && is_below b v) ≡ true
    stronger true v e = ap (λ o. is_below o v) (next ∙ ap (λ o. Some (risen o y)) is) ∙ below_risen v x y (ap (λ o. is_below o v) (sym is) ∙ e)
    stronger false v e = e

    between : (d : Doc) → is_from a (c.sync d) ≡ false → counts c a d ≡ counts c b d
    between d e =
        let low : is_from (Some x) (c.sync d) ≡ false = ap (λ o. is_from o (c.sync d)) (sym is) ∙ e in
        ap (λ t. c.matches d && t) (ap (λ o. is_below o (c.sync d)) is ∙ (from_neither (c.sync d) x y low ∙ ap (λ o. is_below o (c.sync d)) (sym (next ∙ ap (λ o. Some (risen o y)) is))))

kept_once : (p q : Row → Bool) → ((r : Row) → q r ≡ true → p r ≡ true) → (o : Option Row) → keep q (keep p o) ≡ keep q o
kept_once p q stronger None = refl
kept_once p q stronger (Some r) =
    elim (p r) as (λ b. p r ≡ b → keep q (cond b (Some r) None) ≡ cond (q r) (Some r) None) [
      | true ↦ λ e. refl
      | false ↦ λ e. elim (q r) as (λ b. q r ≡ b → None ≡ cond b (Some r) None) [
        | true ↦ λ f. absurd (let g = stronger r f in cc)
        | false ↦ λ f. refl
      ] refl
    ] refl

stays_earlier : (c : Meaning) (docs : List Doc) (age last : Option ℤ) (moment : ℤ) (r : Row) → stays c docs (cutoff_by age last moment) r ≡ true
    → stays c docs last r ≡ true
stays_earlier c docs None last moment r e = e
stays_earlier c docs (Some age) None moment r e = refl
stays_earlier c docs (Some age) (Some a) moment r e = by (is_below (Some a) (c.retained docs r)) refl
  where
    by : (b : Bool) → is_below (Some a) (c.retained docs r) ≡ b → not (is_below (Some a) (c.retained docs r)) ≡ true
    by true t = absurd (let g = below_risen (c.retained docs r) a (moment -ℤ age) t in let z : false ≡ true = sym (ap not g) ∙ e in cc)
    by false t = ap not t

-- a cut after an earlier cut is the later cut
pub keep_later : (c : Meaning) (docs : List Doc) (b : Checkpoint) (before : List Checkpoint) (o : Option Row)
    → keep (stays c docs (cutoff c (b ∷ before))) (keep (stays c docs (cutoff c before)) o) ≡ keep (stays c docs (cutoff c (b ∷ before))) o
keep_later c docs b before o = kept_once (stays c docs (cutoff c before)) (stays c docs (cutoff c (b ∷ before))) (λ r. stays_earlier c docs c.max_age (cutoff c before) b.moment r) o

pub stays_same : (c : Meaning) (docs more : List Doc) (cut : Option ℤ) (r : Row) → c.retained more r ≡ c.retained docs r
    → stays c docs cut r ≡ stays c more cut r
stays_same c docs more None r e = refl
stays_same c docs more (Some x) r e = ap (λ v. not (is_below (Some x) v)) (sym e)

pub keep_same : (c : Meaning) (docs more : List Doc) (cut : Option ℤ) (o : Option Row)
    → ((r : Row) → o ≡ Some r → c.retained more r ≡ c.retained docs r) → keep (stays c docs cut) o ≡ keep (stays c more cut) o
keep_same c docs more cut None h = refl
keep_same c docs more cut (Some r) h = ap (λ b. cond b (Some r) None) (stays_same c docs more cut r (h r refl))
