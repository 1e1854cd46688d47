-- The least of the keys with one key more that is not put among them.
use Rattle.std.proofs.Common.{◌≡◌, ℕ, suc, ◌-◌, ◌<◌, ◌≤◌, Bool, true, false, not, ◌&&◌, All, List, [], ◌∷◌, ◌++◌, length, take, refl, sym, ap, subst, ◌∙◌, arith, append-nil, length-append, IsTrue, ◌↔◌}
use Rattle.std.proofs.lemmas.List.{take_all, take_at}
use Rattle.std.proofs.lemmas.List.Elements.{All-head, All-push, All-tail, All-weaker}
use Rattle.std.proofs.lemmas.Map.Views.{All-before_last}
use Rattle.std.specs.Prelude.{Option, Some, None, if◌then◌else◌, nat_eq, slice_get}
use Rattle.std.specs.declared.cmp.Ordering.{Ordering}
use Rattle.std.specs.declared.cmp.Ordering.TheVariants.{Less, Equal, Greater}
use Rattle.std.specs.BTreeSet.{insert_key}
use Rattle.std.specs.Cmp.{IsTotalOrder}
use Rattle.std.specs.List.Sorted.{IsStrictlySortedBy}
use Rattle.std.specs.Ordering.{is_gt, is_lt, match_ordering, ordering_reverse}
use Rattle.tf_model.specs.declared.value.Key.{Key}
use Rattle.tf_model.specs.Order.{key_cmp, key_cmp_total}
use Rattle.tf_model.specs.Keys.{listed}
use Rattle.tf_model.specs.Changed.{is_after}
use Rattle.tf_page.specs.declared.fates.Fate.TheVariants.{Passed, LeftOut, Wanted}
use Rattle.tf_page.specs.Fates.{is_passed, fate_below, fate_of}
use Rattle.tf_page.specs.Least.{Kept, IsLeastOf, above, greatest_of, left_out}
use Rattle.tf_page.proofs.LeastLaws.{put_more, above_more, above_same}

ends_more : {K : Type 0} (x : K) (ks : List K) (g : K) → (t : List K) × (ks ≡ t ++ g ∷ []) → (t : List K) × (x ∷ ks ≡ t ++ g ∷ [])
ends_more x ks g rest = (x ∷ rest.0, ap (λ ks. x ∷ ks) rest.1)

-- a list with a last one ends with it
ends_with : {K : Type 0} (ks : List K) (g : K) → slice_get ks (length ks - 1) ≡ Some g → (t : List K) × (ks ≡ t ++ g ∷ [])
ends_with [] g e = absurd (cc)
ends_with (x ∷ []) g e = let same : x ≡ g = cc in ([], ap (λ k. k ∷ []) same)
ends_with (x ∷ y ∷ ys) g e =
    let next : length (x ∷ y ∷ ys) - 1 ≡ suc (length (y ∷ ys) - 1) = omega arith in
    ends_more x (y ∷ ys) g (ends_with (y ∷ ys) g (subst (λ n. slice_get (x ∷ y ∷ ys) n ≡ Some g) next e))

module _ {K : Type 0} (cmp : K → K → Ordering) (o : IsTotalOrder cmp) where
  above_less : (q g k : K) → cmp q g ≡ Less → cmp k g ≡ Greater → cmp k q ≡ Greater
  above_less q g k less greater =
      o.antisymm k q ∙ ap ordering_reverse (o.trans q g k less (o.antisymm g k ∙ ap ordering_reverse greater))

  same_less : (q g k : K) → cmp q g ≡ Less → cmp k g ≡ Equal → cmp k q ≡ Greater
  same_less q g k less equal = o.congr k g q equal ∙ o.antisymm g q ∙ ap ordering_reverse less

  -- a key above some that stand first goes behind them
  insert_past : (t rest : List K) (k : K) → All (λ q. cmp k q ≡ Greater) t → insert_key cmp (t ++ rest) k ≡ t ++ insert_key cmp rest k
  insert_past [] rest k all = refl
  insert_past (x ∷ t) rest k all =
      ap (λ r. match_ordering r (k ∷ x ∷ (t ++ rest)) (x ∷ (t ++ rest)) (x ∷ insert_key cmp (t ++ rest) k)) (All-head (λ q. cmp k q ≡ Greater) x t all)
      ∙ ap (λ r. x ∷ r) (insert_past t rest k (All-tail (λ q. cmp k q ≡ Greater) x t all))

  -- a key that is the last one stands there already
  last_again : (t : List K) (g k : K) → IsStrictlySortedBy cmp (t ++ g ∷ []) → cmp k g ≡ Equal → insert_key cmp (t ++ g ∷ []) k ≡ t ++ g ∷ []
  last_again t g k sorted equal =
      insert_past t (g ∷ []) k (All-weaker (λ q. cmp q g ≡ Less) (λ q. cmp k q ≡ Greater) (λ q less. same_less q g k less equal) t (All-before_last cmp t g sorted))
      ∙ ap (λ r. t ++ match_ordering r (k ∷ g ∷ []) (g ∷ []) (g ∷ k ∷ [])) equal

  -- a key above the last one goes behind it
  behind_last : (t : List K) (g k : K) → IsStrictlySortedBy cmp (t ++ g ∷ []) → cmp k g ≡ Greater → insert_key cmp (t ++ g ∷ []) k ≡ (t ++ g ∷ []) ++ k ∷ []
  behind_last t g k sorted greater =
      ap (λ ks. insert_key cmp ks k) (sym (append-nil (t ++ g ∷ [])))
      ∙ insert_past (t ++ g ∷ []) [] k
      (All-push (λ q. cmp k q ≡ Greater) t g
      (All-weaker (λ q. cmp q g ≡ Less) (λ q. cmp k q ≡ Greater) (λ q less. above_less q g k less greater) t (All-before_last cmp t g sorted)) greater)

  again_at : (old t : List K) (g k : K) → old ≡ t ++ g ∷ [] → IsStrictlySortedBy cmp old → cmp k g ≡ Equal → insert_key cmp old k ≡ old
  again_at old t g k ends sorted equal = ap (λ ks. insert_key cmp ks k) ends ∙ last_again t g k (subst (IsStrictlySortedBy cmp) ends sorted) equal ∙ sym ends

  behind_at : (old t : List K) (g k : K) → old ≡ t ++ g ∷ [] → IsStrictlySortedBy cmp old → cmp k g ≡ Greater → insert_key cmp old k ≡ old ++ k ∷ []
  behind_at old t g k ends sorted greater =
      ap (λ ks. insert_key cmp ks k) ends ∙ behind_last t g k (subst (IsStrictlySortedBy cmp) ends sorted) greater ∙ ap (λ ks. ks ++ k ∷ []) (sym ends)

  again : (old : List K) (g k : K) → slice_get old (length old - 1) ≡ Some g → IsStrictlySortedBy cmp old → cmp k g ≡ Equal → insert_key cmp old k ≡ old
  again old g k last sorted equal =
      let ends = ends_with old g last in
      again_at old ends.0 g k ends.1 sorted equal

  behind : (old : List K) (g k : K) → slice_get old (length old - 1) ≡ Some g → IsStrictlySortedBy cmp old → cmp k g ≡ Greater → insert_key cmp old k ≡ old ++ k ∷ []
  behind old g k last sorted greater =
      let ends = ends_with old g last in
      behind_at old ends.0 g k ends.1 sorted greater

  not_over : (old : List K) (size : ℕ) → length old ≡ size → IsTrue false ↔ (size < length old)
  not_over old size full = (λ t. absurd (cc), λ lt. absurd (omega (arith, full, lt)))

  and_true : (b : Bool) → (b && true) ≡ b
  and_true true = refl
  and_true false = refl

  and_false : (b : Bool) → (b && false) ≡ false
  and_false true = refl
  and_false false = refl

  module _ (size : ℕ) (ks old : List K) (g k : K) (was : Bool) (is : old ≡ take size ks) (whole : IsTrue was ↔ (length ks ≤ size))
      (full : length old ≡ size) (last : slice_get old (length old - 1) ≡ Some g) (sorted : IsStrictlySortedBy cmp old) where
    -- the greatest key once more changes nothing
    pub greatest_again : cmp k g ≡ Equal → (old ≡ take size (insert_key cmp ks k)) × (IsTrue was ↔ (length (insert_key cmp ks k) ≤ size))
    greatest_again equal =
        let same = again old g k last sorted equal in
        let more = put_more cmp size ks old old k was false is whole
        (sym (ap (take size) same ∙ take_all size old (omega (arith, full))))
        (subst (λ xs. IsTrue false ↔ (size < length xs)) (sym same) (not_over old size full)) in
        (more.0, subst (λ b. IsTrue b ↔ (length (insert_key cmp ks k) ≤ size)) (and_true was) more.1)

    -- a key above the greatest is left out
    pub greater_out : cmp k g ≡ Greater → (old ≡ take size (insert_key cmp ks k)) × (IsTrue false ↔ (length (insert_key cmp ks k) ≤ size))
    greater_out greater =
        let longer = behind old g k last sorted greater in
        let count = length-append old (k ∷ []) in
        let more = put_more cmp size ks old old k was true is whole
        (sym (ap (take size) longer ∙ take_at old (k ∷ []) size full))
        (subst (λ xs. IsTrue true ↔ (size < length xs)) (sym longer) ((λ t. omega (arith, full, count)), (λ lt. refl))) in
        (more.0, subst (λ b. IsTrue b ↔ (length (insert_key cmp ks k) ≤ size)) (and_false was) more.1)

gt_lt : (r s : Ordering) → s ≡ ordering_reverse r → not (is_gt r) ≡ not (is_lt s)
gt_lt Less s e = ap (λ r. not (is_lt r)) (sym e)
gt_lt Equal s e = ap (λ r. not (is_lt r)) (sym e)
gt_lt Greater s e = ap (λ r. not (is_lt r)) (sym e)

-- a key is passed where it is not above the position
passed_is : (after : Option Key) (k : Key) → is_passed after (Some k) ≡ not (is_after after k)
passed_is None k = refl
passed_is (Some position) k = gt_lt (key_cmp k position) (key_cmp position k) (key_cmp_total.antisymm position k)

-- what it says where there is a greatest key
full_at : (kept : Kept) (g : Key) (b : Bool) → nat_eq (length kept.keys) kept.size ≡ b → (if b then slice_get kept.keys (length kept.keys - 1) else None) ≡ Some g
    → (length kept.keys ≡ kept.size) × (slice_get kept.keys (length kept.keys - 1) ≡ Some g)
full_at kept g true e is = (grind (arith, e), is)
full_at kept g false e is = absurd (cc)

full : (kept : Kept) (g : Key) → greatest_of kept ≡ Some g → (length kept.keys ≡ kept.size) × (slice_get kept.keys (length kept.keys - 1) ≡ Some g)
full kept g is = full_at kept g (nat_eq (length kept.keys) kept.size) refl is

module _ (after : Option Key) (ks : List Key) (kept : Kept) (sorted : IsStrictlySortedBy key_cmp kept.keys) (least : IsLeastOf (above after ks) kept) where
  nothing_below : (k : Key) (greatest : Option Key) → greatest_of kept ≡ greatest → is_after after k ≡ true → fate_below greatest (Some k) ≡ Passed
      → IsLeastOf (above after (ks ++ k ∷ [])) kept
  nothing_below k None is holds e = absurd (cc)
  nothing_below k (Some g) is holds e = by (key_cmp k g) refl e where
    by : (r : Ordering) → key_cmp k g ≡ r → match_ordering r Wanted Passed LeftOut ≡ Passed → IsLeastOf (above after (ks ++ k ∷ [])) kept
    by Less is_r e = absurd (cc)
    by Equal is_r e =
        let f = full kept g is in
        let more = greatest_again key_cmp key_cmp_total kept.size (above after ks) kept.keys g k kept.is_whole least.keys least.whole f.0 f.1 sorted is_r in
        subst (λ xs. IsLeastOf xs kept) (sym (above_more after ks k holds)) (record { keys = more.0; whole = more.1 })
    by Greater is_r e = absurd (cc)

  out_below : (k : Key) (greatest : Option Key) → greatest_of kept ≡ greatest → is_after after k ≡ true → fate_below greatest (Some k) ≡ LeftOut
      → IsLeastOf (above after (ks ++ k ∷ [])) (left_out kept)
  out_below k None is holds e = absurd (cc)
  out_below k (Some g) is holds e = by (key_cmp k g) refl e where
    by : (r : Ordering) → key_cmp k g ≡ r → match_ordering r Wanted Passed LeftOut ≡ LeftOut → IsLeastOf (above after (ks ++ k ∷ [])) (left_out kept)
    by Less is_r e = absurd (cc)
    by Equal is_r e = absurd (cc)
    by Greater is_r e =
        let f = full kept g is in
        let more = greater_out key_cmp key_cmp_total kept.size (above after ks) kept.keys g k kept.is_whole least.keys least.whole f.0 f.1 sorted is_r in
        subst (λ xs. IsLeastOf xs (left_out kept)) (sym (above_more after ks k holds)) (record { keys = more.0; whole = more.1 })

  passed_one : (k : Key) (b : Bool) → is_after after k ≡ b → (if not b then Passed else fate_below (greatest_of kept) (Some k)) ≡ Passed → IsLeastOf (above after (ks ++ k ∷ [])) kept
  passed_one k false is e = subst (λ xs. IsLeastOf xs kept) (sym (above_same after ks k is)) least
  passed_one k true is e = nothing_below k (greatest_of kept) refl is e

  out_one : (k : Key) (b : Bool) → is_after after k ≡ b → (if not b then Passed else fate_below (greatest_of kept) (Some k)) ≡ LeftOut → IsLeastOf (above after (ks ++ k ∷ [])) (left_out kept)
  out_one k false is e = absurd (cc)
  out_one k true is e = out_below k (greatest_of kept) refl is e

  no_key_out : (b : Bool) (greatest : Option Key) → (if b then Passed else fate_below greatest None) ≡ LeftOut → ⊥
  no_key_out true greatest e = absurd (cc)
  no_key_out false None e = absurd (cc)
  no_key_out false (Some g) e = absurd (cc)

  -- a key that is passed changes nothing
  pub passed_more : (found : Option Key) → fate_of after (greatest_of kept) found ≡ Passed → IsLeastOf (above after (ks ++ listed found)) kept
  passed_more None e = subst (λ xs. IsLeastOf (above after xs) kept) (sym (append-nil ks)) least
  passed_more (Some k) e = passed_one k (is_after after k) refl (ap (λ b. if b then Passed else fate_below (greatest_of kept) (Some k)) (sym (passed_is after k)) ∙ e)

  -- a key that is left out is remembered
  pub out_more : (found : Option Key) → fate_of after (greatest_of kept) found ≡ LeftOut → IsLeastOf (above after (ks ++ listed found)) (left_out kept)
  out_more None e = absurd (no_key_out (is_passed after None) (greatest_of kept) e)
  out_more (Some k) e = out_one k (is_after after k) refl (ap (λ b. if b then Passed else fate_below (greatest_of kept) (Some k)) (sym (passed_is after k)) ∙ e)
