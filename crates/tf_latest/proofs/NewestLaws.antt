-- The newest document of each of some keys, with one document more.
use Rattle.std.proofs.Common.{◌≡◌, ℕ, suc, ◌+◌, ◌<◌, ◌≤◌, Bool, true, false, ◌||◌, List, [], ◌∷◌, ◌++◌, length, map, set, get_or, All, ◌⊎◌, inl, inr, refl, sym, ap, subst, ◌∙◌, arith, append-nil}
use Rattle.std.proofs.lemmas.Bool.{cases_order}
use Rattle.std.proofs.lemmas.Cmp.{tied_itself}
use Rattle.std.proofs.lemmas.Grind.{get_or-set_at}
use Rattle.std.proofs.lemmas.List.{get_or-map, get_or-set_other, length-map, length-set, same_lists}
use Rattle.std.proofs.lemmas.List.Elements.{filter-append}
use Rattle.std.proofs.lemmas.Map.Keys.{Less-from_sorted}
use Rattle.std.proofs.lemmas.Option.{get_or_from_slice_get, slice_get-get_or}
use Rattle.std.specs.Borrow.{Bor}
use Rattle.std.specs.Cmp.{IsTotalOrder, eq_by_cmp_equiv, nat_cmp_total, on_total, then_total}
use Rattle.std.specs.List.{cons_option, filter_map}
use Rattle.std.specs.List.Sorted.{IsStrictlySortedBy}
use Rattle.std.specs.Option.{option_copied, option_map, option_to_list}
use Rattle.std.specs.Ordering.{eq_by_cmp, is_eq}
use Rattle.std.specs.Prelude.{Option, Some, None, if◌then◌else◌, filter, slice_get}
use Rattle.std.specs.declared.cmp.Ordering.{Ordering}
use Rattle.std.specs.declared.cmp.Ordering.TheVariants.{Less, Equal, Greater}
use Rattle.tf_model.specs.declared.value.Key.{Key}
use Rattle.tf_model.specs.declared.doc.Doc.{Doc}
use Rattle.tf_model.specs.declared.config.Config.{Config}
use Rattle.tf_model.specs.declared.entry.Row.{Row}
use Rattle.tf_model.specs.Keys.{has_key, is_among, key_of, keys_of, listed}
use Rattle.tf_model.specs.Latest.{age_cmp, latest_row, newer, newest, place_cmp, place_in, row_named, sort_of}
use Rattle.tf_model.specs.Order.{key_cmp, key_cmp_total}
use Rattle.tf_model.specs.Rows.{of_both, with_key}
use Rattle.tf_model.proofs.FoldLaws.{newest-append}
use Rattle.tf_model.proofs.LatestLaws.{sort_cmp_total}
use Rattle.tf_model.proofs.OrderLaws.{key_ties}
use Rattle.tf_latest.specs.Newest.{AreNewest, named, newest_of}

pub age_cmp_total : (sources sort : List ℕ) → IsTotalOrder (age_cmp sources sort)
unfolding age_cmp place_cmp
age_cmp_total sources sort =
    then_total (sort_cmp_total sort)
    (then_total (on_total (λ d. place_in sources d.index) nat_cmp_total) (then_total (on_total (λ d. d.shard) nat_cmp_total) (on_total (λ d. d.seq) nat_cmp_total)))

-- ---- which documents have a key
has_by : (c : Config) (q : Key) (d : Doc) (found : Option Key) → key_of c d ≡ found → has_key c q d ≡ is_among (listed found) q
unfolding has_key keys_of
has_by c q d found e = ap (λ key. is_among (listed key) q) e

or_false : (b : Bool) → (b || false) ≡ b
or_false true = refl
or_false false = refl

-- whether a document whose key is k has the key q
pub has_one : (c : Config) (q k : Key) (d : Doc) → key_of c d ≡ Some k → has_key c q d ≡ eq_by_cmp key_cmp k q
has_one c q k d e = has_by c q d (Some k) e ∙ or_false (eq_by_cmp key_cmp q k) ∙ (eq_by_cmp_equiv key_cmp_total).symm q k

pub has_itself : (c : Config) (k : Key) (d : Doc) → key_of c d ≡ Some k → has_key c k d ≡ true
has_itself c k d e = has_one c k k d e ∙ (eq_by_cmp_equiv key_cmp_total).refl k

-- a document with no key has none
pub has_none : (c : Config) (q : Key) (d : Doc) → key_of c d ≡ None → has_key c q d ≡ false
has_none c q d e = has_by c q d None e

with_more : (c : Config) (q : Key) (docs : List Doc) (d : Doc) (b : Bool) → has_key c q d ≡ b → with_key c q (docs ++ d ∷ []) ≡ with_key c q docs ++ (if b then d ∷ [] else [])
unfolding with_key
with_more c q docs d b e = filter-append (has_key c q) docs (d ∷ []) ∙ ap (λ b. filter (has_key c q) docs ++ (if b then d ∷ [] else [])) e

some_is : {A : Type 0} (a b : A) → Some a ≡ Some b → a ≡ b
some_is a b e = cc

-- the item at a place, whatever stands for one that is not there
pub any_default : {A : Type 0} (xs : List A) (at : ℕ) (q : A) → at < length xs → q ≡ get_or xs at q → (x : A) → get_or xs at x ≡ q
any_default xs at q lt here x = get_or_from_slice_get xs at q x (slice_get-get_or xs at q lt ∙ ap Some (sym here))

-- ---- keys that a document does not have
key_apart : (k q : Key) (b : Bool) → eq_by_cmp key_cmp k q ≡ b → (k ≡ q → ⊥) → b ≡ false
key_apart k q true e apart = absurd (apart ((key_ties k q).0 e))
key_apart k q false e apart = refl

is_not : (o p q : Ordering) → p ≡ o → q ≡ o → p ≡ Less → q ≡ Greater → ⊥
is_not Less p q e f less greater = cc
is_not Equal p q e f less greater = cc
is_not Greater p q e f less greater = cc

equal_not : (p q : Ordering) → p ≡ Equal → p ≡ q → q ≡ Greater → ⊥
equal_not p q e f greater = cc

equal_no_less : (p q : Ordering) → p ≡ Equal → p ≡ q → q ≡ Less → ⊥
equal_no_less p q e f less = cc

module _ (c : Config) (d : Doc) (keys : List Key) (sorted : IsStrictlySortedBy key_cmp keys) where
  differs : (k q : Key) → key_of c d ≡ Some k → (k ≡ q → ⊥) → has_key c q d ≡ false
  differs k q is apart = has_one c q k d is ∙ key_apart k q (eq_by_cmp key_cmp k q) refl apart

  -- a key that is greater than one of ascending keys is none up to that one
  greater_apart : (k x : Key) (at i : ℕ) → key_of c d ≡ Some k → at < length keys → key_cmp k (get_or keys at x) ≡ Greater → i < at + 1 → has_key c (get_or keys i x) d ≡ false
  greater_apart k x at i is lt greater upto = differs k (get_or keys i x) is (by (cases_order i at))
    where
      by : (i ≡ at) ⊎ ((i < at) ⊎ (at < i)) → k ≡ get_or keys i x → ⊥
      by (inl here) same = equal_not (key_cmp k k) (key_cmp k (get_or keys at x)) (tied_itself key_cmp_total k) (ap (key_cmp k) (same ∙ ap (λ n. get_or keys n x) here)) greater
      by (inr (inl before)) same =
          is_not (key_cmp k (get_or keys at x)) (key_cmp (get_or keys i x) (get_or keys at x)) (key_cmp k (get_or keys at x)) (ap (λ q. key_cmp q (get_or keys at x)) (sym same)) refl
          (Less-from_sorted key_cmp keys i at x sorted before lt) greater
      by (inr (inr behind)) same = omega (arith, upto, behind)

  -- a key that is less than one is none from that one on
  less_apart : (k x : Key) (at i : ℕ) → key_of c d ≡ Some k → key_cmp k (get_or keys at x) ≡ Less → at ≤ i → i < length keys → has_key c (get_or keys i x) d ≡ false
  less_apart k x at i is less from lt = differs k (get_or keys i x) is (by (cases_order i at))
    where
      by : (i ≡ at) ⊎ ((i < at) ⊎ (at < i)) → k ≡ get_or keys i x → ⊥
      by (inl here) same = equal_no_less (key_cmp k k) (key_cmp k (get_or keys at x)) (tied_itself key_cmp_total k) (ap (key_cmp k) (same ∙ ap (λ n. get_or keys n x) here)) less
      by (inr (inl before)) same = omega (arith, from, before)
      by (inr (inr behind)) same =
          equal_no_less (key_cmp k k) (key_cmp k k) (tied_itself key_cmp_total k) refl
          (key_cmp_total.trans k (get_or keys at x) k less (subst (λ q. key_cmp (get_or keys at x) q ≡ Less) (sym same) (Less-from_sorted key_cmp keys at i x sorted behind lt)))

  -- what a comparison with the key at a place says of the others
  pub none_up_to : (q : Key) (at : ℕ) → at < length keys → q ≡ get_or keys at q → option_map (λ k. key_cmp k q) (key_of c d) ≡ Some Greater → (x : Key) (i : ℕ) → i < at + 1 → has_key c (get_or keys i x) d ≡ false
  none_up_to q at lt here e x i upto = by (key_of c d) refl e
    where
      by : (found : Option Key) → key_of c d ≡ found → option_map (λ k. key_cmp k q) found ≡ Some Greater → has_key c (get_or keys i x) d ≡ false
      by None is e = absurd (let z : ◌≡◌ {A = Option Ordering} None (Some Greater) = e in cc)
      by (Some k) is e = greater_apart k x at i is lt (ap (key_cmp k) (any_default keys at q lt here x) ∙ some_is (key_cmp k q) Greater e) upto

  pub none_from : (q : Key) (at : ℕ) → at < length keys → q ≡ get_or keys at q → option_map (λ k. key_cmp k q) (key_of c d) ≡ Some Less → (x : Key) (i : ℕ) → at ≤ i → i < length keys → has_key c (get_or keys i x) d ≡ false
  none_from q at lt here e x i from within = by (key_of c d) refl e
    where
      by : (found : Option Key) → key_of c d ≡ found → option_map (λ k. key_cmp k q) found ≡ Some Less → has_key c (get_or keys i x) d ≡ false
      by None is e = absurd (let z : ◌≡◌ {A = Option Ordering} None (Some Less) = e in cc)
      by (Some k) is e = less_apart k x at i is (ap (key_cmp k) (any_default keys at q lt here x) ∙ some_is (key_cmp k q) Less e) from within

  -- a document with no key
  pub no_key : (found : Option Key) → key_of c d ≡ found → (q : Key) → option_map (λ k. key_cmp k q) found ≡ None → All (λ k. has_key c k d ≡ false) keys
  no_key None is q e = λ i x lt. has_none c (get_or keys i x) d is
  no_key (Some k) is q e = absurd (let z : ◌≡◌ {A = Option Ordering} None (Some (key_cmp k q)) = sym e in cc)

  -- the key of a document is the one at a place
  pub found_at : (q : Key) (at : ℕ) → at < length keys → q ≡ get_or keys at q → option_map (λ k. key_cmp k q) (key_of c d) ≡ Some Equal → slice_get keys at ≡ key_of c d
  found_at q at lt here e = by (key_of c d) e
    where
      by : (found : Option Key) → option_map (λ k. key_cmp k q) found ≡ Some Equal → slice_get keys at ≡ found
      by None e = absurd (let z : ◌≡◌ {A = Option Ordering} None (Some Equal) = e in cc)
      by (Some k) e = slice_get-get_or keys at q lt ∙ ap Some (sym here ∙ sym ((key_ties k q).0 (ap is_eq (some_is (key_cmp k q) Equal e))))

  -- and at no other place
  other_apart : (k x : Key) (at i : ℕ) → key_of c d ≡ Some k → at < length keys → get_or keys at x ≡ k → i < length keys → (i ≡ at → ⊥) → has_key c (get_or keys i x) d ≡ false
  other_apart k x at i is lt here within apart = differs k (get_or keys i x) is (by (cases_order i at))
    where
      by : (i ≡ at) ⊎ ((i < at) ⊎ (at < i)) → k ≡ get_or keys i x → ⊥
      by (inl one) same = apart one
      by (inr (inl before)) same =
          equal_no_less (key_cmp k k) (key_cmp (get_or keys i x) (get_or keys at x)) (tied_itself key_cmp_total k) (λ n. key_cmp (same n) (sym here n))
          (Less-from_sorted key_cmp keys i at x sorted before lt)
      by (inr (inr behind)) same =
          equal_no_less (key_cmp k k) (key_cmp (get_or keys at x) (get_or keys i x)) (tied_itself key_cmp_total k) (λ n. key_cmp (sym here n) (same n))
          (Less-from_sorted key_cmp keys at i x sorted behind within)

-- ---- one document more
module _ (sources sort : List ℕ) (c : Config) (docs : List Doc) (d : Doc) where
  -- for a key that it has not
  pub newest_same : (k : Key) → has_key c k d ≡ false → newest_of sources sort c (docs ++ d ∷ []) k ≡ newest_of sources sort c docs k
  newest_same k e = ap (newest (age_cmp sources sort)) (with_more c k docs d false e ∙ append-nil (with_key c k docs))

  -- for a key that it has
  pub newest_grown : (k : Key) → has_key c k d ≡ true → newest_of sources sort c (docs ++ d ∷ []) k ≡ of_both (newer (age_cmp sources sort)) (newest_of sources sort c docs k) (Some d)
  newest_grown k e =
      ap (newest (age_cmp sources sort)) (with_more c k docs d true e)
      ∙ newest-append (age_cmp sources sort) (age_cmp_total sources sort) (with_key c k docs) (d ∷ [])

  pub none_grown : (keys : List Key) (found : List (Option Doc)) → AreNewest sources sort c docs keys found → All (λ k. has_key c k d ≡ false) keys → AreNewest sources sort c (docs ++ d ∷ []) keys found
  none_grown keys found are none = are ∙ sym (by keys none)
    where
      by : (keys : List Key) → All (λ k. has_key c k d ≡ false) keys → map (newest_of sources sort c (docs ++ d ∷ [])) keys ≡ map (newest_of sources sort c docs) keys
      by [] none = refl
      by (k ∷ ks) none = λ i. newest_same k (none 0 k (omega arith)) i ∷ by ks (λ at x lt. none (suc at) x (omega (arith, lt))) i

  pub one_grown : (keys : List Key) (found : List (Option Doc)) (at : ℕ) (now : Option Doc) → IsStrictlySortedBy key_cmp keys → AreNewest sources sort c docs keys found
      → at < length keys → slice_get keys at ≡ key_of c d → now ≡ of_both (newer (age_cmp sources sort)) (get_or found at None) (Some d) → AreNewest sources sort c (docs ++ d ∷ []) keys (set found at now)
  one_grown keys found at now sorted are lt here is = by (key_of c d) refl
    where
      many : length found ≡ length keys
      many = ap length are ∙ length-map keys (newest_of sources sort c docs)

      by : (key : Option Key) → key_of c d ≡ key → AreNewest sources sort c (docs ++ d ∷ []) keys (set found at now)
      by None e = absurd (let k = slice_get-get_or keys at (record { parts = [] }) lt in let z : ◌≡◌ {A = Option Key} None (Some (get_or keys at (record { parts = [] }))) = sym e ∙ sym here ∙ k in cc)
      by (Some k) e =
          let there : get_or keys at k ≡ k = get_or_from_slice_get keys at k k (here ∙ e) in
          let was : get_or found at None ≡ newest_of sources sort c docs k = ap (λ xs. get_or xs at None) are ∙ get_or-map (newest_of sources sort c docs) keys at k None lt ∙ ap (newest_of sources sort c docs) there in
          same_lists (set found at now) (map (newest_of sources sort c (docs ++ d ∷ [])) keys)
          (length-set found at now ∙ many ∙ sym (length-map keys (newest_of sources sort c (docs ++ d ∷ []))))
          (λ i x within. at_place k e there was i x (subst (λ n. i < n) (length-set found at now ∙ many) within) (cases_order i at))
        where
          other : (k : Key) → key_of c d ≡ Some k → get_or keys at k ≡ k → (i : ℕ) (x : Option Doc) → i < length keys → (i ≡ at → ⊥)
              → get_or (set found at now) i x ≡ get_or (map (newest_of sources sort c (docs ++ d ∷ [])) keys) i x
          other k e there i x within apart =
              get_or-set_other found at i now x apart ∙ ap (λ xs. get_or xs i x) are ∙ get_or-map (newest_of sources sort c docs) keys i k x within
              ∙ sym (newest_same (get_or keys i k) (other_apart c d keys sorted k k at i e lt there within apart))
              ∙ sym (get_or-map (newest_of sources sort c (docs ++ d ∷ [])) keys i k x within)

          at_place : (k : Key) → key_of c d ≡ Some k → get_or keys at k ≡ k → get_or found at None ≡ newest_of sources sort c docs k → (i : ℕ) (x : Option Doc) → i < length keys
              → (i ≡ at) ⊎ ((i < at) ⊎ (at < i)) → get_or (set found at now) i x ≡ get_or (map (newest_of sources sort c (docs ++ d ∷ [])) keys) i x
          at_place k e there was i x within (inl one) =
              get_or-set_at found at i now x one (omega (arith, lt, many)) ∙ is
              ∙ ap (λ y. of_both (newer (age_cmp sources sort)) y (Some d)) was
              ∙ sym (newest_grown k (has_itself c k d e))
              ∙ ap (newest_of sources sort c (docs ++ d ∷ [])) (sym there ∙ ap (λ n. get_or keys n k) (sym one))
              ∙ sym (get_or-map (newest_of sources sort c (docs ++ d ∷ [])) keys i k x within)
          at_place k e there was i x within (inr (inl before)) = other k e there i x within (λ one. omega (arith, one, before))
          at_place k e there was i x within (inr (inr behind)) = other k e there i x within (λ one. omega (arith, one, behind))

pub nothing_yet : (sources sort : List ℕ) (c : Config) (keys : List Key) → map (λ _. None) keys ≡ map (newest_of sources sort c []) keys
unfolding with_key
nothing_yet sources sort c [] = refl
nothing_yet sources sort c (k ∷ ks) = ap (λ rest. None ∷ rest) (nothing_yet sources sort c ks)

pub same_many : (sources sort : List ℕ) (c : Config) (docs : List Doc) (keys : List Key) (found : List (Option (Bor Doc))) → AreNewest sources sort c docs keys (map option_copied found) → length found ≡ length keys
same_many sources sort c docs keys found are = sym (length-map found option_copied) ∙ ap length are ∙ length-map keys (newest_of sources sort c docs)

-- ---- rows
pub named-push : (ks : List Key) (ds : List (Option Doc)) (k : Key) (d : Option Doc) → length ds ≡ length ks → named (ks ++ k ∷ []) (ds ++ d ∷ []) ≡ named ks ds ++ option_to_list (option_map (row_named k) d)
named-push [] [] k d many = by (option_map (row_named k) d)
  where
    by : (r : Option Row) → cons_option r [] ≡ option_to_list r
    by None = refl
    by (Some r) = refl
named-push [] (e ∷ ds) k d many = absurd (omega (arith, many))
named-push (q ∷ ks) [] k d many = absurd (omega (arith, many))
named-push (q ∷ ks) (e ∷ ds) k d many =
    ap (cons_option (option_map (row_named q) e)) (named-push ks ds k d (omega (arith, many))) ∙ by (option_map (row_named q) e) (named ks ds) (option_to_list (option_map (row_named k) d))
  where
    by : (r : Option Row) (rows more : List Row) → cons_option r (rows ++ more) ≡ cons_option r rows ++ more
    by None rows more = refl
    by (Some r) rows more = refl

-- the rows that name the newest documents are those of a latest
pub named_newest : (sources : List ℕ) (c : Config) (docs : List Doc) (keys : List Key) → named keys (map (newest_of sources (sort_of c.shape) c docs) keys) ≡ filter_map (λ k. latest_row sources c k docs) keys
unfolding latest_row
named_newest sources c docs [] = refl
named_newest sources c docs (k ∷ ks) = ap (cons_option (option_map (row_named k) (newest_of sources (sort_of c.shape) c docs k))) (named_newest sources c docs ks)
