-- Facts on ascending keys.
use Rattle.std.proofs.Common.{◌≡◌, ℕ, Bool, true, false, cond, ◌&&◌, ◌||◌, List, [], ◌∷◌, ◌++◌, Option, Some, None, take, drop, suc, zero, refl, sym, ap, ◌∙◌, subst}
use Rattle.std.specs.Prelude.{⊤}
use Rattle.std.specs.List.Sorted.{IsStrictlySortedBy}
use Rattle.std.specs.List.{AllByRecursion, list_any, filter, flat_map, fold}
use Rattle.std.specs.Ordering.{is_lt, is_eq, ordering_reverse}
use Rattle.std.specs.Cmp.{IsTotalOrder, tied_itself}
use Rattle.tf_model.specs.Order.{key_cmp_total, key_cmp}
use Rattle.tf_model.proofs.OrderLaws.{key_cmp_exact}
use Rattle.std.specs.FinMap.{IsAntisymmetric}
use Rattle.std.specs.declared.cmp.Ordering.{Ordering}
use Rattle.std.specs.declared.cmp.Ordering.TheVariants.{Less, Equal, Greater}
use Rattle.tf_history.specs.Grouping.{has_key, all_keys}
use Rattle.tf_model.specs.Keys.{is_among}
use Rattle.tf_model.specs.Changed.{is_after}
use Rattle.tf_history.proofs.Lists.{or_swap, or_twice, or_group, or_false, any-append, filter_after}
use Rattle.tf_history.specs.Meaning.{Meaning}
use Rattle.tf_model.specs.declared.doc.Doc.{Doc}
use Rattle.tf_model.specs.declared.value.Key.{Key}
use Rattle.std.specs.Ordering.{match_ordering}
use Rattle.std.specs.BTreeSet.{insert_key}

-- a key that is below each of these
abbrev pub IsBelowAll : Key → List Key → Type 0
IsBelowAll k keys = AllByRecursion (λ j. key_cmp k j ≡ Less) keys

-- keys that ascend, each once, in a form that computes
abbrev pub IsAscending : List Key → Type 0
IsAscending [] = ⊤
IsAscending (k ∷ keys) = IsBelowAll k keys × IsAscending keys

pub sorted : (keys : List Key) → IsAscending keys → IsStrictlySortedBy key_cmp keys
unfolding IsStrictlySortedBy
sorted [] h = tt
sorted (k ∷ keys) h = (h.0, sorted keys h.1)

-- all that is used of the order
pub keys_total : IsTotalOrder key_cmp
keys_total = key_cmp_total

pub keys_exact : IsAntisymmetric key_cmp
keys_exact = key_cmp_exact

pub cmp_itself : (k : Key) → key_cmp k k ≡ Equal
cmp_itself k = tied_itself keys_total k

pub cmp_back : (j k : Key) (o : Ordering) → key_cmp j k ≡ o → key_cmp k j ≡ ordering_reverse o
cmp_back j k o e = keys_total.antisymm k j ∙ ap ordering_reverse e

pub below_trans : (i j : Key) (keys : List Key) → key_cmp i j ≡ Less → IsBelowAll j keys → IsBelowAll i keys
below_trans i j [] l h = tt
below_trans i j (k ∷ keys) l h = (keys_total.trans i j k l h.0, below_trans i j keys l h.1)

below_add : (i k : Key) (keys : List Key) → key_cmp i k ≡ Less → IsBelowAll i keys → IsBelowAll i (insert_key key_cmp keys k)
below_add i k [] l h = (l, tt)
below_add i k (j ∷ keys) l h =
    elim (key_cmp k j) as (λ r. IsBelowAll i (match_ordering r (k ∷ j ∷ keys) (j ∷ keys) (j ∷ insert_key key_cmp keys k))) [
      | Less ↦ (l, h)
      | Equal ↦ h
      | Greater ↦ (h.0, below_add i k keys l h.1)
    ]

pub ascending_add : (k : Key) (keys : List Key) → IsAscending keys → IsAscending (insert_key key_cmp keys k)
ascending_add k [] h = (tt, tt)
ascending_add k (j ∷ keys) h =
    elim (key_cmp k j) as (λ r. key_cmp k j ≡ r → IsAscending (match_ordering r (k ∷ j ∷ keys) (j ∷ keys) (j ∷ insert_key key_cmp keys k))) [
      | Less ↦ λ e. ((e, below_trans k j keys e h.0), h)
      | Equal ↦ λ e. h
      | Greater ↦ λ e. (below_add j k keys (cmp_back k j Greater e) h.0, ascending_add k keys h.1)
    ] refl

pub among_add : (i k : Key) (keys : List Key) → is_among (insert_key key_cmp keys k) i ≡ (is_eq (key_cmp i k) || is_among keys i)
among_add i k [] = refl
among_add i k (j ∷ keys) =
    elim (key_cmp k j) as (λ r. key_cmp k j ≡ r → is_among (match_ordering r (k ∷ j ∷ keys) (j ∷ keys) (j ∷ insert_key key_cmp keys k)) i ≡ (is_eq (key_cmp i k) || (is_eq (key_cmp i j) || is_among keys i))) [
      | Less ↦ λ e. refl
      | Equal ↦ λ e. sym (ap (λ x. is_eq (key_cmp i x) || (is_eq (key_cmp i j) || is_among keys i)) (keys_exact k j e) ∙ or_twice (is_eq (key_cmp i j)) (is_among keys i))
      | Greater ↦ λ e. ap (λ b. is_eq (key_cmp i j) || b) (among_add i k keys) ∙ or_swap (is_eq (key_cmp i j)) (is_eq (key_cmp i k)) (is_among keys i)
    ] refl

ascending_fold : (ks keys : List Key) → IsAscending keys → IsAscending (fold (insert_key key_cmp) keys ks)
ascending_fold [] keys h = h
ascending_fold (k ∷ ks) keys h = ascending_fold ks (insert_key key_cmp keys k) (ascending_add k keys h)

among_fold : (i : Key) (ks keys : List Key) → is_among (fold (insert_key key_cmp) keys ks) i ≡ (is_among ks i || is_among keys i)
among_fold i [] keys = refl
among_fold i (k ∷ ks) keys =
    among_fold i ks (insert_key key_cmp keys k)
    ∙ (ap (λ b. is_among ks i || b) (among_add i k keys)
    ∙ (or_swap (is_among ks i) (is_eq (key_cmp i k)) (is_among keys i) ∙ sym (or_group (is_eq (key_cmp i k)) (is_among ks i) (is_among keys i))))

pub ascending-all_keys : (c : Meaning) (docs : List Doc) → IsAscending (all_keys c docs)
ascending-all_keys c docs = ascending_fold (flat_map c.keys docs) [] tt

among_flat : (c : Meaning) (k : Key) (docs : List Doc) → is_among (flat_map c.keys docs) k ≡ list_any (has_key c k) docs
among_flat c k [] = refl
among_flat c k (d ∷ docs) = any-append (λ j. is_eq (key_cmp k j)) (c.keys d) (flat_map c.keys docs) ∙ ap (λ b. has_key c k d || b) (among_flat c k docs)

pub is_among-all_keys : (c : Meaning) (k : Key) (docs : List Doc) → is_among (all_keys c docs) k ≡ list_any (has_key c k) docs
is_among-all_keys c k docs = among_fold k (flat_map c.keys docs) [] ∙ (or_false (is_among (flat_map c.keys docs) k) ∙ among_flat c k docs)

below_filter : (p : Key → Bool) (k : Key) (keys : List Key) → IsBelowAll k keys → IsBelowAll k (filter p keys)
below_filter p k [] h = tt
below_filter p k (j ∷ keys) h =
    elim (p j) as (λ b. IsBelowAll k (cond b (j ∷ filter p keys) (filter p keys))) [
      | true ↦ (h.0, below_filter p k keys h.1)
      | false ↦ below_filter p k keys h.1
    ]

pub ascending_filter : (p : Key → Bool) (keys : List Key) → IsAscending keys → IsAscending (filter p keys)
ascending_filter p [] h = tt
ascending_filter p (j ∷ keys) h =
    elim (p j) as (λ b. IsAscending (cond b (j ∷ filter p keys) (filter p keys))) [
      | true ↦ (below_filter p j keys h.0, ascending_filter p keys h.1)
      | false ↦ ascending_filter p keys h.1
    ]

abbrev pub last_of : List Key → Option Key
last_of [] = None
last_of (k ∷ []) = Some k
last_of (k ∷ j ∷ keys) = last_of (j ∷ keys)

-- all are above one that is below all
above_all : (k : Key) (keys : List Key) → IsBelowAll k keys → filter (is_after (Some k)) keys ≡ keys
above_all k [] h = refl
above_all k (j ∷ keys) h = ap (λ o. cond (is_lt o) (j ∷ filter (is_after (Some k)) keys) (filter (is_after (Some k)) keys)) h.0 ∙ ap (λ ks. j ∷ ks) (above_all k keys h.1)

-- the last of a front is one of them
below_last : (i : Key) (keys : List Key) (n : ℕ) (last : Key) → IsBelowAll i keys → last_of (take n keys) ≡ Some last → key_cmp i last ≡ Less
below_last i keys zero last h e = absurd (let f : ◌≡◌ {A = Option Key} None (Some last) = e in cc)
below_last i [] (suc n) last h e = absurd (let f : ◌≡◌ {A = Option Key} None (Some last) = e in cc)
below_last i (j ∷ keys) (suc n) last h e =
    elim (take n keys) as (λ ks. take n keys ≡ ks → last_of (j ∷ ks) ≡ Some last → key_cmp i last ≡ Less) [
      | [] ↦ λ t f. let same : j ≡ last = cc in subst (λ x. key_cmp i x ≡ Less) same h.0
      | k ∷ ks ↦ λ t f. below_last i keys n last h.1 (ap last_of t ∙ f)
    ] refl e

drop_none : (n : ℕ) (keys : List Key) → take n keys ≡ [] → drop n keys ≡ keys
drop_none zero keys e = refl
drop_none (suc n) [] e = refl
drop_none (suc n) (k ∷ keys) e = absurd (let f : ◌≡◌ {A = List Key} (k ∷ take n keys) [] = e in cc)

-- what is above the last of a front is the rest
pub above_front : (keys : List Key) (n : ℕ) (last : Key) → IsAscending keys → last_of (take n keys) ≡ Some last
    → filter (is_after (Some last)) keys ≡ drop n keys
above_front keys zero last h e = absurd (let f : ◌≡◌ {A = Option Key} None (Some last) = e in cc)
above_front [] (suc n) last h e = refl
above_front (j ∷ keys) (suc n) last h e =
    elim (take n keys) as (λ ks. take n keys ≡ ks → last_of (j ∷ ks) ≡ Some last → filter (is_after (Some last)) (j ∷ keys) ≡ drop n keys) [
      | [] ↦ λ t f. let same : j ≡ last = cc in
          subst (λ x. filter (is_after (Some x)) (j ∷ keys) ≡ drop n keys) same
          (ap (λ o. cond (is_lt o) (j ∷ filter (is_after (Some j)) keys) (filter (is_after (Some j)) keys)) (cmp_itself j) ∙ (above_all j keys h.0 ∙ sym (drop_none n keys t)))
      | k ∷ ks ↦ λ t f.
          let g : last_of (take n keys) ≡ Some last = ap last_of t ∙ f in
          let back : key_cmp last j ≡ Greater = cmp_back j last Less (below_last j keys n last h.0 g) in
          ap (λ o. cond (is_lt o) (j ∷ filter (is_after (Some last)) keys) (filter (is_after (Some last)) keys)) back ∙ above_front keys n last h.1 g
    ] refl e

-- what is above a key that is above p is above p
pub above_stronger : (p : Option Key) (last : Key) → is_after p last ≡ true → (k : Key) → is_after (Some last) k ≡ true → is_after p k ≡ true
above_stronger None last h k e = refl
above_stronger (Some p) last h k e = ap is_lt (keys_total.trans p last k (less (key_cmp p last) h) (less (key_cmp last k) e))
  where
    less : (o : Ordering) → is_lt o ≡ true → o ≡ Less
    less Less f = refl
    less Equal f = absurd (let g : false ≡ true = f in cc)
    less Greater f = absurd (let g : false ≡ true = f in cc)

-- each of a filter's front passes
last_passes : (p : Key → Bool) (keys : List Key) (n : ℕ) (last : Key) → last_of (take n (filter p keys)) ≡ Some last → p last ≡ true
last_passes p [] zero last e = absurd (let f : ◌≡◌ {A = Option Key} None (Some last) = e in cc)
last_passes p [] (suc n) last e = absurd (let f : ◌≡◌ {A = Option Key} None (Some last) = e in cc)
last_passes p (k ∷ keys) n last e =
    elim (p k) as (λ b. p k ≡ b → last_of (take n (cond b (k ∷ filter p keys) (filter p keys))) ≡ Some last → p last ≡ true) [
      | true ↦ λ t f. front (λ m g. last_passes p keys m last g) n t f
      | false ↦ λ t f. last_passes p keys n last f
    ] refl e
  where
    front : ((m : ℕ) → last_of (take m (filter p keys)) ≡ Some last → p last ≡ true) → (m : ℕ) → p k ≡ true
        → last_of (take m (k ∷ filter p keys)) ≡ Some last → p last ≡ true
    front rest zero t f = absurd (let g : ◌≡◌ {A = Option Key} None (Some last) = f in cc)
    front rest (suc m) t f =
        elim (take m (filter p keys)) as (λ ks. take m (filter p keys) ≡ ks → last_of (k ∷ ks) ≡ Some last → p last ≡ true) [
          | [] ↦ λ u g. let same : k ≡ last = cc in subst (λ x. p x ≡ true) same t
          | j ∷ ks ↦ λ u g. rest m (ap last_of u ∙ g)
        ] refl f

-- after a page of the keys above p, what is above its last key is what was left
pub above_page : (keys : List Key) (p : Option Key) (n : ℕ) (last : Key) → IsAscending keys → last_of (take n (filter (is_after p) keys)) ≡ Some last
    → filter (is_after (Some last)) keys ≡ drop n (filter (is_after p) keys)
above_page keys p n last h e =
    sym (filter_after (is_after p) (is_after (Some last)) (above_stronger p last (last_passes (is_after p) keys n last e)) keys)
    ∙ above_front (filter (is_after p) keys) n last (ascending_filter (is_after p) keys h) e

pub equal_from : (o : Ordering) → is_eq o ≡ true → o ≡ Equal
equal_from Less e = absurd (let f : false ≡ true = e in cc)
equal_from Equal e = refl
equal_from Greater e = absurd (let f : false ≡ true = e in cc)

-- a key is among those that pass where it is among them and passes
pub is_among-filter : (p : Key → Bool) (k : Key) (keys : List Key) → is_among (filter p keys) k ≡ (is_among keys k && p k)
is_among-filter p k [] = refl
is_among-filter p k (j ∷ keys) =
    elim (is_eq (key_cmp k j)) as (λ b. is_eq (key_cmp k j) ≡ b → is_among (cond (p j) (j ∷ filter p keys) (filter p keys)) k ≡ ((b || is_among keys k) && p k)) [
      | true ↦ λ e. subst (λ x. is_among (cond (p x) (j ∷ filter p keys) (filter p keys)) k ≡ p k) (keys_exact k j (equal_from _ e)) (here e (p k) refl (is_among-filter p k keys))
      | false ↦ λ e. there e (p j) (is_among-filter p k keys)
    ] refl
  where
    here : is_eq (key_cmp k j) ≡ true → (b : Bool) → p k ≡ b → is_among (filter p keys) k ≡ (is_among keys k && p k)
        → is_among (cond b (j ∷ filter p keys) (filter p keys)) k ≡ b
    here e true t rest = ap (λ c. c || is_among (filter p keys) k) e
    here e false t rest = rest ∙ (ap (λ c. is_among keys k && c) t ∙ and_no (is_among keys k))
      where
        and_no : (c : Bool) → (c && false) ≡ false
        and_no true = refl
        and_no false = refl

    there : is_eq (key_cmp k j) ≡ false → (b : Bool) → is_among (filter p keys) k ≡ (is_among keys k && p k)
        → is_among (cond b (j ∷ filter p keys) (filter p keys)) k ≡ (is_among keys k && p k)
    there e true rest = ap (λ c. c || is_among (filter p keys) k) e ∙ rest
    there e false rest = rest

pub among_below_all : (k : Key) (keys : List Key) → IsBelowAll k keys → is_among keys k ≡ false
among_below_all k [] h = refl
among_below_all k (i ∷ keys) h = ap (λ o. is_eq o || is_among keys k) h.0 ∙ among_below_all k keys h.1

below_drop : (n : ℕ) (k : Key) (keys : List Key) → IsBelowAll k keys → IsBelowAll k (drop n keys)
below_drop zero k keys h = h
below_drop (suc n) k [] h = h
below_drop (suc n) k (j ∷ keys) h = below_drop n k keys h.1

-- a key of the front is not in the rest
pub front_apart : (n : ℕ) (k : Key) (keys : List Key) → IsAscending keys → is_among (take n keys) k ≡ true → is_among (drop n keys) k ≡ false
front_apart zero k keys h e = absurd (let f : false ≡ true = e in cc)
front_apart (suc n) k [] h e = refl
front_apart (suc n) k (j ∷ keys) h e =
    elim (is_eq (key_cmp k j)) as (λ b. is_eq (key_cmp k j) ≡ b → (b || is_among (take n keys) k) ≡ true → is_among (drop n keys) k ≡ false) [
      | true ↦ λ t f. among_below_all k (drop n keys) (subst (λ x. IsBelowAll x (drop n keys)) (sym (keys_exact k j (equal_from _ t))) (below_drop n j keys h.0))
      | false ↦ λ t f. front_apart n k keys h.1 f
    ] refl e

is_among-append : (k : Key) (xs ys : List Key) → is_among (xs ++ ys) k ≡ (is_among xs k || is_among ys k)
is_among-append k xs ys = any-append (λ j. is_eq (key_cmp k j)) xs ys

front_and_rest : (n : ℕ) (keys : List Key) → take n keys ++ drop n keys ≡ keys
front_and_rest zero keys = refl
front_and_rest (suc n) [] = refl
front_and_rest (suc n) (j ∷ keys) = ap (λ ks. j ∷ ks) (front_and_rest n keys)

pub among_split : (n : ℕ) (k : Key) (keys : List Key) → is_among keys k ≡ (is_among (take n keys) k || is_among (drop n keys) k)
among_split n k keys = ap (λ ks. is_among ks k) (sym (front_and_rest n keys)) ∙ is_among-append k (take n keys) (drop n keys)
