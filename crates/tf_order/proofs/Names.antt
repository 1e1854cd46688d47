-- Documents with names of their own, in any order.
use Rattle.std.proofs.Common.{◌≡◌, ℕ, suc, ◌+◌, ◌<◌, Bool, true, false, cond, not, ◌&&◌, ◌||◌, nat_eq, nat_lt, IsTrue, List, [], ◌∷◌, length, get_or, Option, Some, None, find, IsPermutation, filter, refl, sym, ap, ◌∙◌, arith, true≢false}
use Rattle.std.proofs.lemmas.Bool.Decides.{nat_tests}
use Rattle.std.proofs.lemmas.List.Elements.{All-filter, All-head, All-tail}
use Rattle.std.proofs.lemmas.List.Sorted.{IsPermutation-refl, IsPermutation-trans, IsPermutation-cons, All-permutation}
use Rattle.std.proofs.lemmas.List.Sums.{prefix_len_stops}
use Rattle.std.proofs.lemmas.Map.Keys.{IsDistinct-cons, IsDistinct-head, IsDistinct-tail, IsDistinct-IsPermutation}
use Rattle.std.proofs.lemmas.Map.Lookups.{exact_unsigned}
use Rattle.std.specs.Cmp.{IsTotalOrder, nat_cmp_total, on_total, then_total}
use Rattle.std.specs.List.{AllByRecursion, IsDistinct, list_any, position_or_len}
use Rattle.std.specs.Option.{option_map, unwrap_or}
use Rattle.std.specs.Ordering.{max_by_ordering, ordering_reverse, ordering_then}
use Rattle.std.specs.declared.cmp.Ordering.{Ordering}
use Rattle.std.specs.declared.cmp.Ordering.TheVariants.{Less, Equal, Greater}
use Rattle.tf_model.specs.declared.doc.Doc.{Doc}
use Rattle.tf_model.specs.declared.entry.Row.{Row}
use Rattle.tf_model.specs.declared.entry.Row.TheVariants as row
use Rattle.tf_model.specs.Keys.{has_key}
use Rattle.tf_model.specs.Latest.{age_cmp, latest_row, newer, newest, place_cmp, place_in, row_named, sort_of}
use Rattle.tf_model.specs.Retention.{is_named, named_doc}
use Rattle.tf_model.specs.Rows.{of_both, with_key}
use Rattle.tf_model.proofs.FoldLaws.{newest-append}
use Rattle.tf_model.proofs.LatestLaws.{sort_cmp_total}
use Rattle.tf_order.specs.Laws.{LatestRowsInAnyOrder}
use Rattle.tf_order.specs.Names.{AreAmong, AreNamedOnce, has_name_of}
use Rattle.tf_order.specs.Shards.{is_among}
use Rattle.tf_order.proofs.Flips.{by_flips}
use Rattle.tf_order.proofs.Lists.{IsPermutation-filter, flipped}

-- ---- names
number_flipped : (a b : ℕ) → nat_eq a b ≡ nat_eq b a
number_flipped a b = grind (arith, nat_tests)

name_flipped : (d e : Doc) → has_name_of d e ≡ has_name_of e d
name_flipped d e = λ i. number_flipped d.index e.index i && (number_flipped d.shard e.shard i && number_flipped d.seq e.seq i)

pub itself : (a : ℕ) → nat_eq a a ≡ true
itself a = grind (arith, nat_tests)

same_name : (d e : Doc) → d.index ≡ e.index → d.shard ≡ e.shard → d.seq ≡ e.seq → has_name_of d e ≡ true
same_name d e index shard seq =
    (λ i. nat_eq (index i) e.index && (nat_eq (shard i) e.shard && nat_eq (seq i) e.seq))
    ∙ (λ i. itself e.index i && (itself e.shard i && itself e.seq i))

named_once_permutation : (docs others : List Doc) → IsPermutation docs others → AreNamedOnce docs → AreNamedOnce others
named_once_permutation docs others moved once = IsDistinct-IsPermutation has_name_of name_flipped docs others moved once

kept_by : {X : Type 0} (p : X → Bool) (P : X → Type 0) (b : Bool) (x : X) (xs : List X) → P x → AllByRecursion P (filter p xs) → AllByRecursion P (cond b (x ∷ filter p xs) (filter p xs))
kept_by p P true x xs one rest = (one, rest)
kept_by p P false x xs one rest = rest

kept_all : {X : Type 0} (p : X → Bool) (P : X → Type 0) (xs : List X) → AllByRecursion P xs → AllByRecursion P (filter p xs)
kept_all p P [] all = tt
kept_all p P (x ∷ xs) all = kept_by p P (p x) x xs all.0 (kept_all p P xs all.1)

once_by : {X : Type 0} (e : X → X → Bool) (p : X → Bool) (b : Bool) (x : X) (xs : List X) → AllByRecursion (λ y. e x y ≡ false) (filter p xs) → IsDistinct e (filter p xs) → IsDistinct e (cond b (x ∷ filter p xs) (filter p xs))
once_by e p true x xs apart rest = IsDistinct-cons e x (filter p xs) apart rest
once_by e p false x xs apart rest = rest

pub IsDistinct-filter : {X : Type 0} (e : X → X → Bool) (p : X → Bool) (xs : List X) → IsDistinct e xs → IsDistinct e (filter p xs)
IsDistinct-filter e p [] once = once
IsDistinct-filter e p (x ∷ xs) once =
    once_by e p (p x) x xs (kept_all p (λ y. e x y ≡ false) xs (IsDistinct-head e x xs once)) (IsDistinct-filter e p xs (IsDistinct-tail e x xs once))

-- ---- places of indices
within_by : {X : Type 0} (p : X → Bool) (xs : List X) (b : Bool) → (list_any p xs ≡ true → position_or_len p xs < length xs) → (b || list_any p xs) ≡ true → cond (not b) (1 + position_or_len p xs) 0 < suc (length xs)
within_by p xs true rest e = omega arith
within_by p xs false rest e = omega (arith, rest e)

within : {X : Type 0} (p : X → Bool) (xs : List X) → list_any p xs ≡ true → position_or_len p xs < length xs
within p [] e = absurd (true≢false (sym e))
within p (x ∷ xs) e = within_by p xs (p x) (within p xs) e

-- the index at the place of an index is the same
at_its_place : (sources : List ℕ) (i : ℕ) → list_any (nat_eq i) sources ≡ true → i ≡ get_or sources (place_in sources i) 0
at_its_place sources i e =
    let at = position_or_len (nat_eq i) sources in
    let lt = within (nat_eq i) sources e in
    let place : place_in sources i ≡ at = ap (λ b. unwrap_or (cond b (Some at) None) 0) (let t : nat_lt at (length sources) ≡ true = grind (arith, nat_tests) in t) in
    let stops = prefix_len_stops (λ j. not (nat_eq i j)) sources 0 lt in
    let there : nat_eq i (get_or sources at 0) ≡ true = passes (nat_eq i (get_or sources at 0)) stops in
    let same : i ≡ get_or sources at 0 = grind (arith, nat_tests) in
    same ∙ ap (λ n. get_or sources n 0) (sym place)
  where
    passes : (b : Bool) → not b ≡ false → b ≡ true
    passes true f = refl
    passes false f = absurd (true≢false f)

-- ---- the newest
both_equal : (a b : Ordering) → ordering_then a b ≡ Equal → (a ≡ Equal) × (b ≡ Equal)
both_equal Less b e = absurd (cc)
both_equal Equal b e = (refl, e)
both_equal Greater b e = absurd (cc)

age_cmp_total : (sources sort : List ℕ) → IsTotalOrder (age_cmp sources sort)
unfolding age_cmp place_cmp
age_cmp_total sources sort =
    then_total (sort_cmp_total sort)
    (then_total (on_total (λ d. place_in sources d.index) nat_cmp_total) (then_total (on_total (λ d. d.shard) nat_cmp_total) (on_total (λ d. d.seq) nat_cmp_total)))

module _ (sources sort : List ℕ) where
  -- documents of the sources that tie have the same name
  tied_names : (d e : Doc) → is_among sources d ≡ true → is_among sources e ≡ true → age_cmp sources sort d e ≡ Equal → has_name_of d e ≡ true
  unfolding age_cmp place_cmp
  tied_names d e d_among e_among tie =
      let places = (both_equal _ _ tie).1 in
      let by_index = exact_unsigned _ _ (both_equal _ _ places).0 in
      let others = (both_equal _ _ places).1 in
      let by_shard = exact_unsigned _ _ (both_equal _ _ others).0 in
      let by_seq = exact_unsigned _ _ (both_equal _ _ others).1 in
      same_name d e
      (at_its_place sources d.index d_among ∙ ap (λ n. get_or sources n 0) by_index ∙ sym (at_its_place sources e.index e_among))
      by_shard by_seq

  newer_at : (d e : Doc) (o : Ordering) → (o ≡ Equal → ⊥) → max_by_ordering o d e ≡ max_by_ordering (ordering_reverse o) e d
  newer_at d e Less no_tie = refl
  newer_at d e Equal no_tie = absurd (no_tie refl)
  newer_at d e Greater no_tie = refl

  newer_flipped : (d e : Doc) → is_among sources d ≡ true → is_among sources e ≡ true → has_name_of d e ≡ false → newer (age_cmp sources sort) d e ≡ newer (age_cmp sources sort) e d
  newer_flipped d e d_among e_among differ =
      newer_at d e (age_cmp sources sort d e) (λ tie. true≢false (sym (tied_names d e d_among e_among tie) ∙ differ))
      ∙ ap (λ o. max_by_ordering o e d) (sym ((age_cmp_total sources sort).antisymm e d))

  -- a permutation with the same newest, where names differ
  abbrev HasSameNewest : List Doc → List Doc → Type 0
  HasSameNewest docs others = IsPermutation docs others × (AreAmong sources docs → AreNamedOnce docs → newest (age_cmp sources sort) docs ≡ newest (age_cmp sources sort) others)

  pub same_newest : (docs others : List Doc) → IsPermutation docs others → HasSameNewest docs others
  same_newest =
      by_flips HasSameNewest (λ docs. (IsPermutation-refl docs, λ among once. refl))
      (λ xs ys zs first second. (
        IsPermutation-trans xs ys zs first.0 second.0,
        λ among once. first.1 among once ∙ second.1 (All-permutation (λ d. IsTrue (is_among sources d)) xs ys first.0 among) (named_once_permutation xs ys first.0 once),
      ))
      (λ d xs ys rest. (
        IsPermutation-cons d xs ys rest.0,
        λ among once. ap (of_both (newer (age_cmp sources sort)) (Some d)) (rest.1 (All-tail (λ d. IsTrue (is_among sources d)) d xs among) (IsDistinct-tail has_name_of d xs once)),
      ))
      (λ d e xs. (
        flipped d e xs,
        λ among once.
            newest-append (age_cmp sources sort) (age_cmp_total sources sort) (d ∷ e ∷ []) xs
            ∙ ap (λ x. of_both (newer (age_cmp sources sort)) (Some x) (newest (age_cmp sources sort) xs))
            (newer_flipped d e (All-head (λ d. IsTrue (is_among sources d)) d (e ∷ xs) among)
            (All-head (λ d. IsTrue (is_among sources d)) e xs (All-tail (λ d. IsTrue (is_among sources d)) d (e ∷ xs) among))
            (IsDistinct-head has_name_of d (e ∷ xs) once).0)
            ∙ sym (newest-append (age_cmp sources sort) (age_cmp_total sources sort) (e ∷ d ∷ []) xs),
      ))

pub latest_rows_in_any_order : LatestRowsInAnyOrder
unfolding latest_row with_key
latest_rows_in_any_order sources c k docs others moved among once =
    ap (option_map (row_named k))
    ((same_newest sources (sort_of c.shape) (filter (has_key c k) docs) (filter (has_key c k) others) (IsPermutation-filter (has_key c k) docs others moved)).1
    (All-filter (has_key c k) (λ d. IsTrue (is_among sources d)) docs among) (IsDistinct-filter has_name_of (has_key c k) docs once))

-- ---- the document with a name
same_numbers : (a b c : ℕ) → nat_eq a b ≡ true → nat_eq a c ≡ true → b ≡ c
same_numbers a b c e f = grind (arith, nat_tests)

pub and_both : (a b : Bool) → (a && b) ≡ true → (a ≡ true) × (b ≡ true)
and_both true b e = (refl, e)
and_both false b e = absurd (true≢false (sym e))

-- two documents with one name have the name of each other
both_named : (index shard seq : ℕ) (d e : Doc) → is_named index shard seq d ≡ true → is_named index shard seq e ≡ true → has_name_of d e ≡ true
both_named index shard seq d e f g =
    let f_rest = and_both _ _ (and_both _ _ f).1 in
    let g_rest = and_both _ _ (and_both _ _ g).1 in
    same_name d e (same_numbers index d.index e.index (and_both _ _ f).0 (and_both _ _ g).0) (same_numbers shard d.shard e.shard f_rest.0 g_rest.0) (same_numbers seq d.seq e.seq f_rest.1 g_rest.1)

found_flipped : (b c : Bool) (d e : Doc) (rest : Option Doc) → (b ≡ true → c ≡ true → ⊥) → cond b (Some d) (cond c (Some e) rest) ≡ cond c (Some e) (cond b (Some d) rest)
found_flipped true true d e rest apart = absurd (apart refl refl)
found_flipped true false d e rest apart = refl
found_flipped false true d e rest apart = refl
found_flipped false false d e rest apart = refl

module _ (index shard seq : ℕ) where
  abbrev FindsTheSame : List Doc → List Doc → Type 0
  FindsTheSame docs others = IsPermutation docs others × (AreNamedOnce docs → find (is_named index shard seq) docs ≡ find (is_named index shard seq) others)

  finds_the_same : (docs others : List Doc) → IsPermutation docs others → FindsTheSame docs others
  finds_the_same =
      by_flips FindsTheSame (λ docs. (IsPermutation-refl docs, λ once. refl))
      (λ xs ys zs first second. (IsPermutation-trans xs ys zs first.0 second.0, λ once. first.1 once ∙ second.1 (named_once_permutation xs ys first.0 once)))
      (λ d xs ys rest. (IsPermutation-cons d xs ys rest.0, λ once. ap (cond (is_named index shard seq d) (Some d)) (rest.1 (IsDistinct-tail has_name_of d xs once))))
      (λ d e xs. (
        flipped d e xs,
        λ once. found_flipped (is_named index shard seq d) (is_named index shard seq e) d e (find (is_named index shard seq) xs)
            (λ f g. true≢false (sym (both_named index shard seq d e f g) ∙ (IsDistinct-head has_name_of d (e ∷ xs) once).0)),
      ))

pub named_doc_in_any_order : (docs others : List Doc) → IsPermutation docs others → AreNamedOnce docs → (r : Row) → named_doc docs r ≡ named_doc others r
named_doc_in_any_order docs others moved once (row.Pivot k values) = refl
named_doc_in_any_order docs others moved once (row.Latest k index shard seq) = (finds_the_same index shard seq docs others moved).1 once
