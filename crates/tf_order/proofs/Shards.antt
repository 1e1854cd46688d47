-- The documents of indices, shard by shard.
use Rattle.std.proofs.Common.{◌≡◌, ℕ, zero, suc, ◌+◌, ◌<◌, ◌≤◌, Bool, true, false, ◌&&◌, ◌||◌, nat_eq, List, [], ◌∷◌, ◌++◌, map, take, drop, filter, flat_map, count_by, IsPermutation, refl, sym, ap, subst, ◌∙◌, arith, true≢false}
use Rattle.std.proofs.lemmas.Bool.Decides.{nat_tests}
use Rattle.std.proofs.lemmas.List.{take-append-drop, take_at}
use Rattle.std.proofs.lemmas.List.Concat.{flat_map-append}
use Rattle.std.proofs.lemmas.List.Elements.{filter-append, recursion_from_All}
use Rattle.std.proofs.lemmas.List.Sorted.{IsPermutation-trans}
use Rattle.std.proofs.lemmas.List.Sums.{length-filter}
use Rattle.std.proofs.lemmas.Map.Keys.{IsDistinct-head, IsDistinct-tail}
use Rattle.std.specs.List.{AllByRecursion, IsDistinct, list_any, range_with_len}
use Rattle.tf_model.specs.declared.doc.Doc.{Doc}
use Rattle.tf_order.specs.Laws.{ShardsHoldTheSources, FirstsOfAShard}
use Rattle.tf_history.specs.LegalEntries.{is_in_shard}
use Rattle.tf_order.specs.Shards.{is_among, shards_of, runs_of}
use Rattle.tf_order.proofs.Lists.{AreApart, IsPermutation-filter_by_tests, IsPermutation-flat_map_each, filter_same, same_list}

-- ---- the first documents
pub firsts_of_a_shard : FirstsOfAShard
firsts_of_a_shard index shard n docs =
    let p = is_in_shard index shard in
    let front = filter p (take n docs) in
    sym (ap (take (count_by p (take n docs))) (ap (filter p) (sym (take-append-drop n docs)) ∙ filter-append p (take n docs) (drop n docs))
    ∙ take_at front (filter p (drop n docs)) (count_by p (take n docs)) (length-filter p (take n docs)))

-- ---- by index
pub same_number : (a b : ℕ) → nat_eq a b ≡ true → a ≡ b
same_number a b e = grind (arith, nat_tests)

other_sources : (x i : ℕ) (js : List ℕ) → nat_eq x i ≡ true → AllByRecursion (λ j. nat_eq i j ≡ false) js → list_any (nat_eq x) js ≡ false
other_sources x i [] e apart = refl
other_sources x i (j ∷ js) e apart =
    (λ k. nat_eq (same_number x i e k) j || list_any (nat_eq x) js) ∙ ap (λ b. b || list_any (nat_eq x) js) apart.0 ∙ other_sources x i js e apart.1

sources_apart : (sources : List ℕ) → IsDistinct nat_eq sources → AreApart (λ i (d : Doc). nat_eq d.index i) sources
sources_apart [] distinct = tt
sources_apart (i ∷ sources) distinct = (
  λ d e. other_sources d.index i sources e (IsDistinct-head nat_eq i sources distinct),
  sources_apart sources (IsDistinct-tail nat_eq i sources distinct),
)

-- ---- by shard
nothing_from : (b : Bool) (k a n : ℕ) → k < a → list_any (λ s. b && nat_eq s k) (range_with_len a n) ≡ false
nothing_from b k a zero lt = refl
nothing_from b k a (suc n) lt = ap (λ c. c || list_any (λ s. b && nat_eq s k) (range_with_len (a + 1) n)) (other b (nat_eq a k) (grind (arith, nat_tests))) ∙ nothing_from b k (a + 1) n (omega (arith, lt))
  where
    other : (b c : Bool) → c ≡ false → (b && c) ≡ false
    other true c e = e
    other false c e = refl

shards_apart_from : (index a n : ℕ) → AreApart (is_in_shard index) (range_with_len a n)
shards_apart_from index a zero = tt
shards_apart_from index a (suc n) = (λ d e. one_only d (nat_eq index d.index) refl e, shards_apart_from index (a + 1) n)
  where
    one_only : (d : Doc) (b : Bool) → nat_eq index d.index ≡ b → (nat_eq index d.index && nat_eq a d.shard) ≡ true → list_any (λ s. is_in_shard index s d) (range_with_len (a + 1) n) ≡ false
    one_only d true is e =
        let at : a ≡ d.shard = same_number a d.shard (ap (λ c. c && nat_eq a d.shard) (sym is) ∙ e) in
        nothing_from (nat_eq index d.index) d.shard (a + 1) n (omega (arith, at))
    one_only d false is e = absurd (true≢false (sym e ∙ ap (λ c. c && nat_eq a d.shard) is))

something_from : (k a n : ℕ) → a ≤ k → k < a + n → list_any (λ s. nat_eq s k) (range_with_len a n) ≡ true
something_from k a zero low high = absurd (omega (arith, low, high))
something_from k a (suc n) low high = by (nat_eq a k) refl (λ above. something_from k (a + 1) n above (omega (arith, high)))
  where
    by : (b : Bool) → nat_eq a k ≡ b → (a + 1 ≤ k → list_any (λ s. nat_eq s k) (range_with_len (a + 1) n) ≡ true) → (b || list_any (λ s. nat_eq s k) (range_with_len (a + 1) n)) ≡ true
    by true is rest = refl
    by false is rest = rest (grind (arith, nat_tests))

no_shard : (k a n : ℕ) → list_any (λ s. false && nat_eq s k) (range_with_len a n) ≡ false
no_shard k a zero = refl
no_shard k a (suc n) = no_shard k (a + 1) n

-- a document of an index is in one of its shards
module _ (count : ℕ → ℕ) (i : ℕ) where
  in_some_shard : (d : Doc) → d.shard < count d.index → nat_eq d.index i ≡ list_any (λ s. is_in_shard i s d) (range_with_len 0 (count i))
  in_some_shard d within = by (nat_eq d.index i) refl
    where
      by : (b : Bool) → nat_eq d.index i ≡ b → b ≡ list_any (λ s. is_in_shard i s d) (range_with_len 0 (count i))
      by true is =
          let at : d.index ≡ i = same_number d.index i is in
          let back : nat_eq i d.index ≡ true = grind (arith, nat_tests) in
          sym (ap (λ b. list_any (λ s. b && nat_eq s d.shard) (range_with_len 0 (count i))) back
          ∙ something_from d.shard 0 (count i) (omega arith) (omega (arith, within, ap count at)))
      by false is =
          let back : nat_eq i d.index ≡ false = grind (arith, nat_tests) in
          sym (ap (λ b. list_any (λ s. b && nat_eq s d.shard) (range_with_len 0 (count i))) back ∙ no_shard d.shard 0 (count i))

  all_in_some_shard : (docs : List Doc) → AllByRecursion (λ d. d.shard < count d.index) docs
      → AllByRecursion (λ d. nat_eq d.index i ≡ list_any (λ s. is_in_shard i s d) (range_with_len 0 (count i))) docs
  all_in_some_shard [] within = tt
  all_in_some_shard (d ∷ docs) within = (in_some_shard d within.0, all_in_some_shard docs within.1)

  of_an_index : (docs : List Doc) → AllByRecursion (λ d. d.shard < count d.index) docs
      → IsPermutation (filter (λ d. nat_eq d.index i) docs) (flat_map (λ s. filter (is_in_shard i s) docs) (range_with_len 0 (count i)))
  of_an_index docs within =
      IsPermutation-trans (filter (λ d. nat_eq d.index i) docs) (filter (λ d. list_any (λ s. is_in_shard i s d) (range_with_len 0 (count i))) docs)
      (flat_map (λ s. filter (is_in_shard i s) docs) (range_with_len 0 (count i)))
      (same_list _ _ (filter_same (λ d. nat_eq d.index i) (λ d. list_any (λ s. is_in_shard i s d) (range_with_len 0 (count i))) docs (all_in_some_shard docs within)))
      (IsPermutation-filter_by_tests (is_in_shard i) docs (range_with_len 0 (count i)) (shards_apart_from i 0 (count i)))

joined_map : {J X : Type 0} (f : J → List X) (js : List J) → flat_map (λ run. run) (map f js) ≡ flat_map f js
joined_map f [] = refl
joined_map f (j ∷ js) = ap (λ l. f j ++ l) (joined_map f js)

joined_runs : (count : ℕ → ℕ) (sources : List ℕ) (docs : List Doc)
    → flat_map (λ i. flat_map (λ s. filter (is_in_shard i s) docs) (range_with_len 0 (count i))) sources ≡ flat_map (λ run. run) (runs_of count sources docs)
joined_runs count [] docs = refl
joined_runs count (i ∷ sources) docs =
    ap (λ l. l ++ flat_map (λ j. flat_map (λ s. filter (is_in_shard j s) docs) (range_with_len 0 (count j))) sources) (sym (joined_map (λ s. filter (is_in_shard i s) docs) (range_with_len 0 (count i))))
    ∙ ap (λ l. flat_map (λ run. run) (shards_of (count i) i docs) ++ l) (joined_runs count sources docs)
    ∙ sym (flat_map-append (λ run. run) (shards_of (count i) i docs) (runs_of count sources docs))

pub shards_hold_the_sources : ShardsHoldTheSources
shards_hold_the_sources count sources docs distinct within =
    let by_index = λ (i : ℕ). filter (λ (d : Doc). nat_eq d.index i) docs in
    let by_shard = λ (i : ℕ). flat_map (λ s. filter (is_in_shard i s) docs) (range_with_len 0 (count i)) in
    IsPermutation-trans (filter (is_among sources) docs) (flat_map by_index sources) (flat_map (λ run. run) (runs_of count sources docs))
    (IsPermutation-filter_by_tests (λ i (d : Doc). nat_eq d.index i) docs sources (sources_apart sources distinct))
    (subst (IsPermutation (flat_map by_index sources)) (joined_runs count sources docs)
    (IsPermutation-flat_map_each by_index by_shard (λ i. of_an_index count i docs (recursion_from_All (λ d. d.shard < count d.index) docs within)) sources))
