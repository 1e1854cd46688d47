-- Marks that are moved.
use Rattle.std.proofs.Common.{◌≡◌, ℕ, zero, suc, ◌+◌, ◌<◌, ◌≤◌, ◌^◌, Bool, true, false, cond, List, [], ◌∷◌, length, map, take, drop, get_or, Option, Some, None, arith, refl, sym, ap, ◌∙◌, subst}
use Rattle.std.specs.Prelude.{option_map}
use Rattle.std.specs.Arc.{arc_value}
use Rattle.std.specs.List.{AllByRecursion, prefix_len}
use Rattle.std.specs.declared.alloc.Global.{Global}
use Rattle.std.specs.declared.sync.Arc.{Arc}
use Rattle.std.proofs.lemmas.List.{get_or-map, length-drop, length-map, length-take}
use Rattle.std.proofs.lemmas.List.Sums.{prefix_len-drop_no, prefix_len-drop_yes, prefix_len-le-length}
use Rattle.tf_model.specs.declared.doc.Doc.{Doc}
use Rattle.tf_model.specs.declared.entry.Entry.{Entry}
use Rattle.tf_history.specs.Catalogue.{SourceIndex}
use Rattle.tf_history.specs.Lives.{Life, life}
use Rattle.tf_core.specs.declared.transform.Transform.{Transform}
use Rattle.tf_core.specs.Legal.{read}
use Rattle.tf_core.specs.Passed.{HasMark, is_passed, marked}
use Rattle.tf_core.specs.Standing.{Stands, shared}
use Rattle.tf_core.specs.Summary.{IsFew, IsSummary, put_of}
use Rattle.tf_core.specs.Table.{Tells, transform_at}
use Rattle.tf_core.proofs.Tables.{all_map, at_map}

-- ---- the next documents that pass a test pass it
abbrev Passes : (Doc → Bool) → Doc → Type 0
Passes test d = test d ≡ true

first_pass : (test : Doc → Bool) (docs : List Doc) (m : ℕ) → AllByRecursion (Passes test) (take (prefix_len test (take m docs)) docs)
first_pass test docs zero = tt
first_pass test [] (suc m) = tt
first_pass test (d ∷ docs) (suc m) = by (test d) refl (first_pass test docs m)
  where
    by : (b : Bool) → test d ≡ b → AllByRecursion (Passes test) (take (prefix_len test (take m docs)) docs) → AllByRecursion (Passes test) (take (cond b (1 + prefix_len test (take m docs)) 0) (d ∷ docs))
    by true e rest =
        let one : suc (prefix_len test (take m docs)) ≡ 1 + prefix_len test (take m docs) = omega arith in
        subst (λ n. AllByRecursion (Passes test) (take n (d ∷ docs))) one (e, rest)
    by false e rest = tt

next_pass : (test : Doc → Bool) (docs : List Doc) (n m : ℕ) → AllByRecursion (Passes test) (take n docs) → AllByRecursion (Passes test) (take (n + prefix_len test (drop n (take m docs))) docs)
next_pass test docs zero m all =
    let none : prefix_len test (take m docs) ≡ 0 + prefix_len test (take m docs) = omega arith in
    subst (λ k. AllByRecursion (Passes test) (take k docs)) none (first_pass test docs m)
next_pass test docs (suc n) zero all =
    let same : suc n ≡ suc n + 0 = omega arith in
    subst (λ k. AllByRecursion (Passes test) (take k docs)) same all
next_pass test [] (suc n) (suc m) all =
    let same : suc n ≡ suc n + 0 = omega arith in
    subst (λ k. AllByRecursion (Passes test) (take k [])) same all
next_pass test (d ∷ docs) (suc n) (suc m) all =
    let more : suc (n + prefix_len test (drop n (take m docs))) ≡ suc n + prefix_len test (drop n (take m docs)) = omega arith in
    subst (λ k. AllByRecursion (Passes test) (take k (d ∷ docs))) more (all.0, next_pass test docs n m all.1)

-- ---- the next document
module _ (test : Doc → Bool) (docs : List (Arc Doc Global)) (i : ℕ) (x : Arc Doc Global) (low : i < length docs) (is : x ≡ get_or docs i x) where
  within : i < length (shared docs)
  within = subst (λ n. i < n) (sym (length-map docs (λ doc. arc_value doc))) low

  at : get_or (shared docs) i (arc_value x) ≡ arc_value x
  at = get_or-map (λ doc. arc_value doc) docs i x (arc_value x) low ∙ ap (λ doc. arc_value doc) (sym is)

  pub stops : test (arc_value x) ≡ false → prefix_len test (drop i (shared docs)) ≡ 0
  stops e = prefix_len-drop_no test (shared docs) i (arc_value x) within (ap test at ∙ e)

  pub goes_on : test (arc_value x) ≡ true → prefix_len test (drop i (shared docs)) ≡ 1 + prefix_len test (drop (i + 1) (shared docs))
  goes_on e = prefix_len-drop_yes test (shared docs) i (arc_value x) within (ap test at ∙ e)

-- the mark goes no further than the documents
pub mark_fits : (test : Doc → Bool) (docs : List Doc) (n m k : ℕ) → k ≡ prefix_len test (drop n (take m docs)) → length docs < 2 ^ 64 → n < 2 ^ 64 → n + k < 2 ^ 64
mark_fits test docs n m k is few low = omega (arith, is, few, low, prefix_len-le-length test (drop n (take m docs)), length-drop n (take m docs), length-take m docs)

-- ---- transforms with their marks moved
module _ (docs : List Doc) where
  mark_moved : (t : Transform) → t.read ≤ length docs → HasMark t docs → HasMark (marked docs t) docs
  mark_moved t within h = record {
    risen = h.risen;
    behind = omega (arith, h.behind, within, prefix_len-le-length (is_passed t.config t.low) (drop t.passed (take t.read docs)), length-drop t.passed (take t.read docs), length-take t.read docs);
    passed = next_pass (is_passed t.config t.low) docs t.passed t.read h.passed;
  }

  marked_summary : (t : Transform) (l : Life) → IsSummary docs t l → IsSummary docs (marked docs t) l
  marked_summary t l h = record {
    meaning_is = h.meaning_is;
    forever = h.forever;
    state = h.state;
    waits = h.waits;
    prompted = h.prompted;
    begun = h.begun;
    low = h.low;
    bound = h.bound;
    moment = h.moment;
    within = h.within;
    read = h.read;
    marked = mark_moved t h.within h.marked;
    earlier_moment = h.earlier_moment;
    earlier_within = h.earlier_within;
    earlier_read = h.earlier_read;
    finished = h.finished;
    position = h.position;
    pages = h.pages;
    late = h.late;
    reason = h.reason;
    processed = h.processed;
    indexed = h.indexed;
    deleted = h.deleted;
    rows = h.rows;
  }

  marked_tells : (x : Option Transform) (o : Option Life) → Tells docs x o → Tells docs (option_map (marked docs) x) o
  marked_tells None None h = h
  marked_tells None (Some l) h = h
  marked_tells (Some t) None h = h
  marked_tells (Some t) (Some l) h = marked_summary t l h

  marked_puts : (ts : List Transform) → map put_of (map (marked docs) ts) ≡ map put_of ts
  marked_puts [] = refl
  marked_puts (t ∷ ts) = ap (λ ps. put_of t ∷ ps) (marked_puts ts)

  marked_few : (n : ℕ) (t : Transform) → IsFew n t → IsFew n (marked docs t)
  marked_few n t h = record { late = h.late; pages = h.pages; processed = h.processed; indexed = h.indexed }

  -- they stand for what they stood for
  pub marked_stands : (past : List Entry) (indices : List SourceIndex) (ts us : List Transform) → us ≡ map (marked docs) ts → Stands past indices docs ts → Stands past indices docs us
  marked_stands past indices ts us moved s = subst (Stands past indices docs) (sym moved) (record {
    taken = s.taken;
    indices_are = s.indices_are;
    docs_are = s.docs_are;
    transforms_are = s.transforms_are ∙ sym (marked_puts ts);
    lives = λ id. subst (λ x. Tells docs x (life id (read past))) (sym (at_map (marked docs) (λ t. refl) id ts)) (marked_tells (transform_at id ts) (life id (read past)) (s.lives id));
    few = all_map (IsFew (length past)) (IsFew (length past)) (marked docs) (marked_few (length past)) ts s.few;
  })
