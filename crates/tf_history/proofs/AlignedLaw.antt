-- Where bounds are aligned to a group of the sync field no key changes twice.
use Rattle.std.proofs.Common.{◌≡◌, ℤ, Bool, true, false, cond, ◌&&◌, ◌||◌, List, [], ◌∷◌, ◌++◌, Option, Some, None, arith, refl, sym, ap, ◌∙◌, subst}
use Rattle.std.specs.Prelude.{⊤, IfSome, ◌≤ℤ◌, int_lt, int_le, pos}
use Rattle.std.specs.List.{list_any, list_all, filter}
use Rattle.std.specs.Int.{int_max}
use Rattle.std.proofs.lemmas.Int.{ints}
use Rattle.tf_history.specs.Grouping.{has_key, is_below, is_from, counts, counted}
use Rattle.tf_model.specs.Keys.{is_among}
use Rattle.tf_history.specs.Lives.{Checkpoint, Life, last_bound, changed, window, from_sources, documents, written}
use Rattle.tf_model.specs.Bounds.{risen}
use Rattle.tf_history.specs.Grouping.{from_bound}
use Rattle.tf_history.specs.Laws.{IsAligned, IsNeverChanged, AreApart, AlignedIsApart}
use Rattle.tf_history.proofs.Keys.{is_among-all_keys}
use Rattle.tf_history.proofs.CompleteLaw.{continuous_next, window_is}
use Rattle.tf_history.proofs.Numbers.{int_trans, at_most_from}
use Rattle.tf_history.proofs.Lists.{any_filter, and_first, and_second}
use Rattle.tf_history.proofs.ReadsLaw.{AllBegin, reads_held}
use Rattle.tf_history.proofs.Induction.{IsKept, holds, legal_known}
use Rattle.tf_history.specs.Events.{Event}
use Rattle.tf_history.specs.Meaning.{Meaning}
use Rattle.tf_model.specs.declared.doc.Doc.{Doc}
use Rattle.tf_model.specs.declared.value.Key.{Key}

-- some element passes a test, and the other that all pass
some_fit : {X : Type 0} (p r : X → Bool) (xs : List X) → list_any p xs ≡ true → list_all r xs ≡ true → (x : X) × ((p x ≡ true) × (r x ≡ true))
some_fit p r [] e f = absurd (let z : false ≡ true = e in cc)
some_fit p r (x ∷ xs) e f =
    elim (p x) as (λ b. p x ≡ b → (b || list_any p xs) ≡ true → (y : _) × ((p y ≡ true) × (r y ≡ true))) [
      | true ↦ λ s g. (x, (s, and_first (r x) (list_all r xs) f))
      | false ↦ λ s g. some_fit p r xs g (and_second (r x) (list_all r xs) f)
    ] refl e

fit_front : {X : Type 0} (p : X → Bool) (xs ys : List X) → list_all p (xs ++ ys) ≡ true → list_all p xs ≡ true
fit_front p [] ys e = refl
fit_front p (x ∷ xs) ys e = λ i. and_first (p x) (list_all p (xs ++ ys)) e i && fit_front p xs ys (and_second (p x) (list_all p (xs ++ ys)) e) i

-- the documents that each checkpoint read fit
abbrev pub AllFit : (Doc → Bool) → List Checkpoint → Type 0
AllFit fits [] = ⊤
AllFit fits (b ∷ before) = (list_all fits b.read ≡ true) × AllFit fits before

all_fit : (fits : Doc → Bool) (checkpoints : List Checkpoint) (docs : List Doc) → AllBegin checkpoints docs → list_all fits docs ≡ true
    → AllFit fits checkpoints
all_fit fits [] docs h e = tt
all_fit fits (b ∷ before) docs h e = (fit_front fits b.read h.0.0 (ap (list_all fits) (sym h.0.1) ∙ e), all_fit fits before docs h.1 e)

-- the bounds are aligned and none is above the one after it, the first none above top
-- no interval begins below it and ends above it
abbrev pub IsLowEnd : (ℤ → ℤ) → ℤ → Type 0
IsLowEnd floor x = (v : ℤ) → x ≤ℤ v → x ≤ℤ floor v

abbrev pub IsRising : (ℤ → ℤ) → ℤ → List Checkpoint → Type 0
IsRising floor top [] = ⊤
IsRising floor top (b ∷ before) = (x : ℤ) × ((b.bound ≡ Some x) × IsLowEnd floor x × (x ≤ℤ top) × IsRising floor x before)

int_same : (x y : ℤ) → x ≡ y → x ≤ℤ y
int_same x y e = grind (arith, ints)

max_left : (x y : ℤ) → x ≤ℤ int_max x y
max_left x y = grind (arith, ints)

not_both : (x y z : ℤ) → int_lt x y ≡ true → y ≤ℤ z → z ≤ℤ x → ⊥
not_both x y z e f g = grind (arith, ints)

max_aligned : (floor : ℤ → ℤ) (x y : ℤ) → IsLowEnd floor x → IsLowEnd floor y → IsLowEnd floor (int_max x y)
max_aligned floor x y e f = elim (int_lt y x) as (λ b. IsLowEnd floor (cond b x y)) [ true ↦ e | false ↦ f ]

-- what counts has a sync value
value_of : (c : Meaning) (bound : Option ℤ) (x : ℤ) (d : Doc) → bound ≡ Some x → counts c bound d ≡ true → (v : ℤ) × ((c.sync d ≡ Some v) × (int_lt v x ≡ true))
value_of c bound x d is e = split (c.matches d) (c.sync d) refl (ap (λ o. c.matches d && is_below o (c.sync d)) (sym is) ∙ e)
  where
    split : (m : Bool) (o : Option ℤ) → c.sync d ≡ o → (m && is_below (Some x) o) ≡ true → (v : ℤ) × ((c.sync d ≡ Some v) × (int_lt v x ≡ true))
    split true (Some v) s f = (v, (s, f))
    split true None s f = absurd (let z : false ≡ true = f in cc)
    split false o s f = absurd (let z : false ≡ true = f in cc)

any_and : {X : Type 0} (p q : X → Bool) (xs : List X) → list_any p (filter q xs) ≡ list_any (λ x. p x && q x) xs
any_and p q [] = refl
any_and p q (x ∷ xs) = elim (q x) as (λ b. list_any p (cond b (x ∷ filter q xs) (filter q xs)) ≡ ((p x && b) || list_any (λ y. p y && q y) xs)) [
  | true ↦ ap (λ t. p x || t) (any_and p q xs) ∙ ap (λ t. t || list_any (λ y. p y && q y) xs) (and_yes (p x))
  | false ↦ any_and p q xs ∙ ap (λ t. t || list_any (λ y. p y && q y) xs) (and_no (p x))
]
  where
    and_yes : (t : Bool) → t ≡ (t && true)
    and_yes true = refl
    and_yes false = refl

    and_no : (t : Bool) → false ≡ (t && false)
    and_no true = refl
    and_no false = refl

module _ (c : Meaning) (fits : Doc → Bool) (part : Key → ℤ) (floor : ℤ → ℤ) (aligned : IsAligned c fits part floor) where
  lower : (x p v : ℤ) → p ≤ℤ v → int_lt v x ≡ true → int_lt p x ≡ true
  lower x p v f g = grind (arith, ints)

  -- a key of a counted document lies below the bound
  counted_low : (k : Key) (bound : Option ℤ) (x : ℤ) (docs : List Doc) → bound ≡ Some x → list_all fits docs ≡ true
      → list_any (has_key c k) (counted c bound docs) ≡ true → int_lt (part k) x ≡ true
  counted_low k bound x docs is fit e =
      let d = some_fit (λ d. has_key c k d && counts c bound d) fits docs (sym (any_and (has_key c k) (counts c bound) docs) ∙ e) fit in
      let v = value_of c bound x d.0 is (and_second (has_key c k d.0) (counts c bound d.0) d.1.0) in
      subst (λ p. int_lt p x ≡ true) (aligned.of_key k d.0 d.1.1 (and_first (has_key c k d.0) (counts c bound d.0) d.1.0) v.0 v.1.0)
      (lower x (floor v.0) v.0 (aligned.below d.0 d.1.1 v.0 v.1.0) v.1.1)

  changed_low : (k : Key) (b : Checkpoint) (before : List Checkpoint) (x : ℤ) → c.includes_late ≡ false → list_all fits b.read ≡ true
      → b.bound ≡ Some x → is_among (changed c (b ∷ before)) k ≡ true → int_lt (part k) x ≡ true
  changed_low k b [] x ignores fit is e = counted_low k b.bound x b.read is fit (sym (is_among-all_keys c k (counted c b.bound b.read)) ∙ e)
  changed_low k b (a ∷ before) x ignores fit is e =
      let inside : list_any (has_key c k) (from_bound c a.bound (counted c b.bound b.read)) ≡ true = ap (list_any (has_key c k)) (sym (window_is c b a before ignores)) ∙ (sym (is_among-all_keys c k (window c (b ∷ a ∷ before))) ∙ e) in
      counted_low k b.bound x b.read is fit (any_filter (has_key c k) (λ d. is_from a.bound (c.sync d)) (counted c b.bound b.read) inside)

  -- a document of a later window has its key at or above the bound before
  changed_high : (k : Key) (b a : Checkpoint) (before : List Checkpoint) (x y : ℤ) → c.includes_late ≡ false → list_all fits b.read ≡ true
      → b.bound ≡ Some x → a.bound ≡ Some y → IsLowEnd floor y
      → is_among (changed c (b ∷ a ∷ before)) k ≡ true → y ≤ℤ part k
  changed_high k b a before x y ignores fit is low same e =
      let inside : list_any (has_key c k) (from_bound c a.bound (counted c b.bound b.read)) ≡ true = ap (list_any (has_key c k)) (sym (window_is c b a before ignores)) ∙ (sym (is_among-all_keys c k (window c (b ∷ a ∷ before))) ∙ e) in
      let d = some_fit (λ d. (has_key c k d && is_from a.bound (c.sync d)) && counts c b.bound d) fits b.read
      (sym (any_and (λ d. has_key c k d && is_from a.bound (c.sync d)) (counts c b.bound) b.read)
      ∙ (sym (any_and (has_key c k) (λ d. is_from a.bound (c.sync d)) (counted c b.bound b.read)) ∙ inside)) fit in
      let both = and_first (has_key c k d.0 && is_from a.bound (c.sync d.0)) (counts c b.bound d.0) d.1.0 in
      let v = value_of c b.bound x d.0 is (and_second (has_key c k d.0 && is_from a.bound (c.sync d.0)) (counts c b.bound d.0) d.1.0) in
      let has_it = and_first (has_key c k d.0) (is_from a.bound (c.sync d.0)) both in
      let above = and_second (has_key c k d.0) (is_from a.bound (c.sync d.0)) both in
      let over : int_le y v.0 ≡ true = ap (λ o. is_from o (Some v.0)) (sym low) ∙ (ap (λ o. is_from a.bound o) (sym v.1.0) ∙ above) in
      subst (λ z. y ≤ℤ z) (aligned.of_key k d.0 d.1.1 has_it v.0 v.1.0) (same v.0 (at_most_from v.0 y over))

  never : (k : Key) (y : ℤ) (checkpoints : List Checkpoint) → c.includes_late ≡ false → AllFit fits checkpoints → y ≤ℤ part k
      → IsRising floor y checkpoints → IsNeverChanged c checkpoints k
  never k y [] ignores fit e h = tt
  never k y (b ∷ before) ignores fit e h = (
    not_true (is_among (changed c (b ∷ before)) k) (λ f. not_both (part k) h.0 (part k) (changed_low k b before h.0 ignores fit.0 h.1.0 f) (int_trans h.0 y (part k) h.1.2 e) (int_same (part k) (part k) refl)),
    never k h.0 before ignores fit.1 (int_trans h.0 y (part k) h.1.2 e) h.1.3,
  )
    where
      not_true : (t : Bool) → (t ≡ true → ⊥) → t ≡ false
      not_true true f = absurd (f refl)
      not_true false f = refl

  apart : (top : ℤ) (checkpoints : List Checkpoint) → c.includes_late ≡ false → AllFit fits checkpoints → IsRising floor top checkpoints
      → AreApart c checkpoints
  apart top [] ignores fit h = tt
  apart top (b ∷ []) ignores fit h = (λ k e. tt, tt)
  apart top (b ∷ a ∷ before) ignores fit h = (
    λ k e. never k h.1.3.0 (a ∷ before) ignores fit.1 (changed_high k b a before h.0 h.1.3.0 ignores fit.0 h.1.0 h.1.3.1.0 h.1.3.1.1 e) (h.1.3.0, (h.1.3.1.0, h.1.3.1.1, int_same h.1.3.0 h.1.3.0 refl, h.1.3.1.3)),
    apart h.0 (a ∷ before) ignores fit.1 h.1.3,
  )

abbrev RisingHold : List Event → Life → Type 0
RisingHold past l = (fits : Doc → Bool) (part : Key → ℤ) (floor : ℤ → ℤ) → IsAligned l.meaning fits part floor → l.meaning.is_batch ≡ false → (top : ℤ) × IsRising floor top l.checkpoints

begun : (floor : ℤ → ℤ) (b : Checkpoint) (checkpoints : List Checkpoint) (y : ℤ) → IsLowEnd floor y
    → b.bound ≡ Some (risen (last_bound checkpoints) y) → (top : ℤ) → IsRising floor top checkpoints
    → (new : ℤ) × IsRising floor new (b ∷ checkpoints)
begun floor b [] y same next top h = (y, (y, (next, same, int_same y y refl, tt)))
begun floor b (a ∷ before) y same next top h =
    let x = h.0 in
    let new = int_max x y in
    (new, (new, (next ∙ ap (λ o. Some (risen o y)) h.1.0, max_aligned floor x y h.1.1 same, int_same new new refl, (x, (h.1.0, h.1.1, max_left x y, h.1.3)))))

kept : IsKept (λ _ _. ⊤) RisingHold
kept = record {
  opened = λ past moment deed c fits part floor aligned f. (pos 0, tt);
  aside = λ past moment deed l legal none h. h;
  turned = λ past moment deed turn l legal none h. h;
  wrote = λ past moment d l legal h. h;
  begun = λ past moment id n bound l legal m h fits part floor aligned f. let r = h fits part floor aligned f in begun floor (record { bound = bound; moment = moment; read = from_sources l.meaning (documents past); late = l.late }) l.checkpoints (l.meaning.aligned moment) (aligned.bounds moment) (m.bound_is ∙ continuous_next l.meaning (last_bound l.checkpoints) moment f) r.0 r.1;
  paged = λ past moment id n rows l legal m r h. h;
  done = λ past moment id n l legal m h. h;
}

pub aligned_is_apart : AlignedIsApart
aligned_is_apart past t l fits part floor legal is continuous ignores fit aligned =
    let r = subst (λ o. IfSome o (RisingHold past)) is (holds (λ _ _. ⊤) RisingHold kept t past legal (legal_known t past legal)) fits part floor aligned continuous in
    let reads = (reads_held past t l legal is).reads in
    apart l.meaning fits part floor aligned r.0 l.checkpoints ignores (all_fit fits l.checkpoints (written l.meaning past) reads fit) r.1
