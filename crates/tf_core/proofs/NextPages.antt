-- What is made of the keys of a page is what the checkpoint gets next.
use Rattle.std.proofs.Common.{◌≡◌, ℕ, zero, suc, ◌<◌, true, false, List, [], ◌∷◌, length, take, Option, Some, None, refl, sym, ap, subst, ◌∙◌, arith}
use Rattle.std.specs.Prelude.{IsSome}
use Rattle.std.specs.List.{AllByRecursion, slice_index_or}
use Rattle.std.specs.Ordering.{is_gt}
use Rattle.std.specs.declared.cmp.Ordering.TheVariants.{Less}
use Rattle.std.proofs.lemmas.List.Elements.{recursion_from_All}
use Rattle.tf_model.specs.declared.config.Config.{Config}
use Rattle.tf_model.specs.declared.doc.Doc.{Doc}
use Rattle.tf_model.specs.declared.entry.SumRange.{SumRange}
use Rattle.tf_model.specs.declared.value.Key.{Key}
use Rattle.tf_model.specs.Changed.{changed, changed_above, is_after}
use Rattle.tf_model.specs.Counted.{counted, window}
use Rattle.tf_model.specs.Keys.{all_keys}
use Rattle.tf_model.specs.Order.{key_cmp}
use Rattle.tf_model.specs.Rows.{or_else}
use Rattle.tf_history.specs.Configured.{meaning}
use Rattle.tf_history.proofs.Keys.{IsAscending, IsBelowAll, ascending-all_keys, ascending_filter, cmp_back}
use Rattle.tf_history.proofs.MeaningLaw.{meanings_agree}
use Rattle.tf_core.specs.declared.paging.NextPage.{NextPage}
use Rattle.tf_core.specs.declared.paging.NextPage.TheVariants as page
use Rattle.tf_core.specs.declared.transform.Transform.{Transform}
use Rattle.tf_core.specs.Allowing.{first_wide, keys_next, read_by, wide_sum_at}
use Rattle.tf_core.specs.Moves.{IsAnswerFor, IsNextPage}

-- ---- the keys of a page ascend
ascending_keys : (c : Config) (docs : List Doc) → IsAscending (all_keys c docs)
ascending_keys c docs = subst IsAscending ((meanings_agree [] c).all_keys_is docs) (ascending-all_keys (meaning [] c) docs)

pub ascending_take : (n : ℕ) (keys : List Key) → IsAscending keys → IsAscending (take n keys)
ascending_take zero keys h = tt
ascending_take (suc n) [] h = tt
ascending_take (suc n) (k ∷ keys) h = (below n keys h.0, ascending_take n keys h.1)
  where
    below : (n : ℕ) (keys : List Key) → IsBelowAll k keys → IsBelowAll k (take n keys)
    below zero keys h = tt
    below (suc n) [] h = tt
    below (suc n) (j ∷ keys) h = (h.0, below n keys h.1)

next_ascend : (t : Transform) (docs : List Doc) → IsAscending (keys_next t docs)
unfolding changed_above changed
next_ascend t docs =
    ascending_take t.config.page_size (changed_above t.config t.low t.bound t.position (read_by t docs))
    (ascending_filter (is_after t.position) (changed t.config t.low t.bound (read_by t docs)) (ascending_keys t.config (window t.config t.low t.bound (read_by t docs))))

-- a key that is below all of these is above none that is among them
pub not_below : (k : Key) (keys : List Key) (n : ℕ) (found : Key) → IsBelowAll k keys → n < length keys → slice_index_or keys n found ≡ found → is_gt (key_cmp found k) ≡ true
not_below k [] n found below low at = absurd (omega (arith, low))
not_below k (j ∷ keys) zero found below low at = ap is_gt (cmp_back k found Less (subst (λ x. key_cmp k x ≡ Less) at below.0))
not_below k (j ∷ keys) (suc n) found below low at = not_below k keys n found below.1 (omega (arith, low)) at

module _ (t : Transform) (docs : List Doc) where
  none_wide : (keys : List Key) → AllByRecursion (λ k. wide_sum_at t docs k ≡ None) keys → first_wide t docs keys ≡ None
  none_wide [] all = refl
  none_wide (k ∷ keys) all = ap (λ o. or_else o (first_wide t docs keys)) all.0 ∙ none_wide keys all.1

  -- no key is above the least one that has a sum
  abbrev IsLeast : Key → Key → Type 0
  IsLeast found k = IsSome (wide_sum_at t docs k) → is_gt (key_cmp found k) ≡ false

  first_found : (keys : List Key) (n : ℕ) (found : SumRange) → IsAscending keys → n < length keys → slice_index_or keys n found.key ≡ found.key → wide_sum_at t docs found.key ≡ Some found
      → AllByRecursion (IsLeast found.key) keys → first_wide t docs keys ≡ Some found
  first_found [] n found ascend low at sum least = absurd (omega (arith, low))
  first_found (k ∷ keys) zero found ascend low at sum least = ap (λ o. or_else o (first_wide t docs keys)) (ap (wide_sum_at t docs) at ∙ sum)
  first_found (k ∷ keys) (suc n) found ascend low at sum least =
      by (wide_sum_at t docs k) least.0 (first_found keys n found ascend.1 (omega (arith, low)) at sum least.1)
    where
      by : (o : Option SumRange) → (IsSome o → is_gt (key_cmp found.key k) ≡ false) → first_wide t docs keys ≡ Some found → or_else o (first_wide t docs keys) ≡ Some found
      by None above rest = rest
      by (Some other) above rest =
          let here : is_gt (key_cmp found.key k) ≡ true = not_below k keys n found.key ascend.0 (omega (arith, low)) at in
          absurd (let z : false ≡ true = sym (above refl) ∙ here in cc)

  pub answer_is : (p : NextPage) → IsAnswerFor t.config (counted t.config t.bound (read_by t docs)) (keys_next t docs) p → IsNextPage t docs p
  answer_is (page.Rows rows) h = (h.made, none_wide (keys_next t docs) (recursion_from_All (λ k. wide_sum_at t docs k ≡ None) (keys_next t docs) h.no_range))
  answer_is (page.Fails found) h =
      first_found (keys_next t docs) h.key.0 found (next_ascend t docs) h.key.1 h.key.2 h.range (recursion_from_All (IsLeast found.key) (keys_next t docs) h.least)
