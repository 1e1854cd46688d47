-- Keys put in in any order.
use Rattle.std.proofs.Common.{◌≡◌, List, [], ◌∷◌, IsPermutation, refl, sym, ap, ◌∙◌, fold}
use Rattle.std.proofs.lemmas.Map.Lookups.{CmpEqualImpliesEq}
use Rattle.std.specs.BTreeSet.{insert_key}
use Rattle.std.specs.Cmp.{IsTotalOrder}
use Rattle.std.specs.Ordering.{match_ordering, ordering_reverse}
use Rattle.std.specs.declared.cmp.Ordering.{Ordering}
use Rattle.std.specs.declared.cmp.Ordering.TheVariants.{Less, Equal, Greater}
use Rattle.tf_model.specs.declared.value.Key.{Key}
use Rattle.tf_model.specs.Order.{key_cmp, key_cmp_total}
use Rattle.tf_model.specs.Keys.{sorted_keys}
use Rattle.tf_model.proofs.OrderLaws.{key_cmp_exact}
use Rattle.tf_order.proofs.Flips.{by_flips}

module _ {K : Type 0} (cmp : K → K → Ordering) (order : IsTotalOrder cmp) (exact : CmpEqualImpliesEq cmp) where
  put : List K → K → List K
  put = insert_key cmp

  -- what is put in, by where it stands to the first
  put_is : (x : K) (xs : List K) (k : K) (o : Ordering) → cmp k x ≡ o → insert_key cmp (x ∷ xs) k ≡ match_ordering o (k ∷ x ∷ xs) (x ∷ xs) (x ∷ insert_key cmp xs k)
  put_is x xs k o e = ap (λ r. match_ordering r (k ∷ x ∷ xs) (x ∷ xs) (x ∷ insert_key cmp xs k)) e

  turned : (a b : K) (o : Ordering) → cmp a b ≡ o → cmp b a ≡ ordering_reverse o
  turned a b o e = order.antisymm b a ∙ ap ordering_reverse e

  -- both before all others
  both_first_at : (a b : K) (xs : List K) (o : Ordering) → cmp a b ≡ o → match_ordering (ordering_reverse o) (b ∷ a ∷ xs) (a ∷ xs) (a ∷ b ∷ xs) ≡ match_ordering o (a ∷ b ∷ xs) (b ∷ xs) (b ∷ a ∷ xs)
  both_first_at a b xs Less e = refl
  both_first_at a b xs Equal e = ap (λ k. k ∷ xs) (exact a b e)
  both_first_at a b xs Greater e = refl

  both_first : (a b : K) (xs : List K) → match_ordering (cmp b a) (b ∷ a ∷ xs) (a ∷ xs) (a ∷ b ∷ xs) ≡ match_ordering (cmp a b) (a ∷ b ∷ xs) (b ∷ xs) (b ∷ a ∷ xs)
  both_first a b xs = ap (λ o. match_ordering o (b ∷ a ∷ xs) (a ∷ xs) (a ∷ b ∷ xs)) (turned a b (cmp a b) refl) ∙ both_first_at a b xs (cmp a b) refl

  -- one before the first, the other not: they stand in this order whichever comes first
  module _ (x : K) (xs : List K) (a b : K) (before : cmp a x ≡ Less) where
    a_then : (o : Ordering) → cmp b a ≡ Greater → cmp b x ≡ o → insert_key cmp (insert_key cmp (x ∷ xs) a) b ≡ a ∷ match_ordering o (b ∷ x ∷ xs) (x ∷ xs) (x ∷ insert_key cmp xs b)
    a_then o above e =
        ap (λ l. insert_key cmp l b) (put_is x xs a Less before) ∙ put_is a (x ∷ xs) b Greater above ∙ ap (λ l. a ∷ l) (put_is x xs b o e)

    with_equal : cmp b x ≡ Equal → insert_key cmp (insert_key cmp (x ∷ xs) a) b ≡ insert_key cmp (insert_key cmp (x ∷ xs) b) a
    with_equal e =
        a_then Equal (order.congr b x a e ∙ turned a x Less before) e
        ∙ sym (ap (λ l. insert_key cmp l a) (put_is x xs b Equal e) ∙ put_is x xs a Less before)

    with_greater : cmp b x ≡ Greater → insert_key cmp (insert_key cmp (x ∷ xs) a) b ≡ insert_key cmp (insert_key cmp (x ∷ xs) b) a
    with_greater e =
        a_then Greater (turned a b Less (order.trans a x b before (turned b x Greater e))) e
        ∙ sym (ap (λ l. insert_key cmp l a) (put_is x xs b Greater e) ∙ put_is x (insert_key cmp xs b) a Less before)

  put_both_at : (x : K) (xs : List K) (a b : K) (o p : Ordering) → cmp a x ≡ o → cmp b x ≡ p → insert_key cmp (insert_key cmp xs a) b ≡ insert_key cmp (insert_key cmp xs b) a
      → insert_key cmp (insert_key cmp (x ∷ xs) a) b ≡ insert_key cmp (insert_key cmp (x ∷ xs) b) a
  put_both_at x xs a b Less Less e f more =
      ap (λ l. insert_key cmp l b) (put_is x xs a Less e) ∙ put_is a (x ∷ xs) b (cmp b a) refl
      ∙ ap (λ l. match_ordering (cmp b a) (b ∷ a ∷ x ∷ xs) (a ∷ x ∷ xs) (a ∷ l)) (put_is x xs b Less f)
      ∙ both_first a b (x ∷ xs)
      ∙ sym (ap (λ l. insert_key cmp l a) (put_is x xs b Less f) ∙ put_is b (x ∷ xs) a (cmp a b) refl
      ∙ ap (λ l. match_ordering (cmp a b) (a ∷ b ∷ x ∷ xs) (b ∷ x ∷ xs) (b ∷ l)) (put_is x xs a Less e))
  put_both_at x xs a b Less Equal e f more = with_equal x xs a b e f
  put_both_at x xs a b Less Greater e f more = with_greater x xs a b e f
  put_both_at x xs a b Equal Less e f more = sym (with_equal x xs b a f e)
  put_both_at x xs a b Equal Equal e f more =
      ap (λ l. insert_key cmp l b) (put_is x xs a Equal e) ∙ put_is x xs b Equal f
      ∙ sym (ap (λ l. insert_key cmp l a) (put_is x xs b Equal f) ∙ put_is x xs a Equal e)
  put_both_at x xs a b Equal Greater e f more =
      ap (λ l. insert_key cmp l b) (put_is x xs a Equal e) ∙ put_is x xs b Greater f
      ∙ sym (ap (λ l. insert_key cmp l a) (put_is x xs b Greater f) ∙ put_is x (insert_key cmp xs b) a Equal e)
  put_both_at x xs a b Greater Less e f more = sym (with_greater x xs b a f e)
  put_both_at x xs a b Greater Equal e f more =
      ap (λ l. insert_key cmp l b) (put_is x xs a Greater e) ∙ put_is x (insert_key cmp xs a) b Equal f
      ∙ sym (ap (λ l. insert_key cmp l a) (put_is x xs b Equal f) ∙ put_is x xs a Greater e)
  put_both_at x xs a b Greater Greater e f more =
      ap (λ l. insert_key cmp l b) (put_is x xs a Greater e) ∙ put_is x (insert_key cmp xs a) b Greater f
      ∙ ap (λ l. x ∷ l) more
      ∙ sym (ap (λ l. insert_key cmp l a) (put_is x xs b Greater f) ∙ put_is x (insert_key cmp xs b) a Greater e)

  put_both : (xs : List K) (a b : K) → insert_key cmp (insert_key cmp xs a) b ≡ insert_key cmp (insert_key cmp xs b) a
  put_both [] a b = both_first a b []
  put_both (x ∷ xs) a b = put_both_at x xs a b (cmp a x) (cmp b x) refl refl (put_both xs a b)

  pub put_all : (ks js : List K) → IsPermutation ks js → (xs : List K) → fold (insert_key cmp) xs ks ≡ fold (insert_key cmp) xs js
  put_all =
      by_flips (λ ks js. (xs : List K) → fold (insert_key cmp) xs ks ≡ fold (insert_key cmp) xs js) (λ ks xs. refl)
      (λ ks js is first second xs. first xs ∙ second xs)
      (λ k ks js rest xs. rest (insert_key cmp xs k))
      (λ a b ks xs. ap (λ l. fold (insert_key cmp) l ks) (put_both xs a b))

pub sorted_alike : (ks js : List Key) → IsPermutation ks js → sorted_keys ks ≡ sorted_keys js
sorted_alike ks js moved = put_all key_cmp key_cmp_total key_cmp_exact ks js moved []
