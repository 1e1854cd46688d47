-- The newest document of each of the keys above a position, with one document more.
use Rattle.std.proofs.Common.{◌≡◌, ℕ, Bool, true, false, ◌&&◌, ◌||◌, List, [], ◌∷◌, ◌++◌, refl, sym, ap, subst, ◌∙◌}
use Rattle.std.proofs.lemmas.List.Folds.{list_any-append}
use Rattle.std.specs.Prelude.{Option, Some, None, if◌then◌else◌}
use Rattle.std.specs.List.{list_any}
use Rattle.std.specs.Ordering.{eq_by_cmp}
use Rattle.tf_model.specs.declared.value.Key.{Key}
use Rattle.tf_model.specs.declared.doc.Doc.{Doc}
use Rattle.tf_model.specs.declared.config.Config.{Config}
use Rattle.tf_model.specs.Order.{key_cmp}
use Rattle.tf_model.specs.Changed.{is_after}
use Rattle.tf_model.specs.Keys.{key_of, has_key}
use Rattle.tf_model.specs.Latest.{age_cmp, newer, newest}
use Rattle.tf_model.specs.Rows.{of_both, with_key}
use Rattle.tf_model.proofs.OrderLaws.{key_ties}
use Rattle.tf_latest.specs.Newest.{newest_of}
use Rattle.tf_latest.proofs.NewestLaws.{newest_grown, newest_same}
use Rattle.tf_plan.specs.Folds.{key_above}
use Rattle.tf_plan.specs.Newest.{AreNewest, Changes, added, grown, opened}
use Rattle.tf_plan.proofs.FoldsLaws.{above_is, above_none, and_false, has_one, no_key, not_above, or_false, with_none}

-- what a document changes: the keys above the position that it has
pub changed_at : (c : Config) (after : Option Key) (d : Doc) (change : Option (Option Doc) → Option (Option Doc)) (old new : Key → Option (Option Doc)) → Changes change (key_above after (key_of c d)) old new
    → (q : Key) → new q ≡ (if is_after after q && has_key c q d then change (old q) else old q)
changed_at c after d change old new changes q = with (key_of c d) refl changes
  where
    same : (is_after after q && has_key c q d) ≡ false → new q ≡ old q → new q ≡ (if is_after after q && has_key c q d then change (old q) else old q)
    same none is = is ∙ sym (ap (λ b. if b then change (old q) else old q) none)

    at : (k : Key) (b : Bool) → key_of c d ≡ Some k → is_after after k ≡ true → eq_by_cmp key_cmp k q ≡ b → Changes change (Some k) old new → new q ≡ (if is_after after q && has_key c q d then change (old q) else old q)
    at k true is above tied step =
        let one : k ≡ q = (key_ties k q).0 tied in
        let both : (is_after after q && has_key c q d) ≡ true =
        ap (λ b. b && has_key c q d) (subst (λ x. is_after after x ≡ true) one above) ∙ has_one c q k d is ∙ tied in
        subst (λ x. new x ≡ change (old x)) one step.1 ∙ sym (ap (λ b. if b then change (old q) else old q) both)
    at k false is above apart step = same (ap (λ b. is_after after q && b) (has_one c q k d is ∙ apart) ∙ and_false (is_after after q)) (step.0 q apart)

    by : (k : Key) (b : Bool) → key_of c d ≡ Some k → is_after after k ≡ b → Changes change (if b then Some k else None) old new → new q ≡ (if is_after after q && has_key c q d then change (old q) else old q)
    by k true is above step = at k (eq_by_cmp key_cmp k q) is above refl step
    by k false is below step = same (not_above c after d k is below q) (step q)

    with : (found : Option Key) → key_of c d ≡ found → Changes change (key_above after found) old new → new q ≡ (if is_after after q && has_key c q d then change (old q) else old q)
    with None is step = same (no_key c after d is q) (subst (λ found. Changes change found old new) (above_none after) step q)
    with (Some k) is step = by k (is_after after k) is refl (subst (λ found. Changes change found old new) (above_is after k (is_after after k) refl) step)

module _ (sources sort : List ℕ) (c : Config) (after : Option Key) (d : Doc) (old new : Key → Option (Option Doc)) where
  entry : List Doc → List Doc → Key → Option (Option Doc)
  entry seen docs q = if is_after after q && list_any (has_key c q) seen then Some (newest_of sources sort c docs q) else None

  seen_more : (q : Key) (seen : List Doc) → list_any (has_key c q) (seen ++ d ∷ []) ≡ (list_any (has_key c q) seen || has_key c q d)
  seen_more q seen = list_any-append (has_key c q) seen (d ∷ []) ∙ ap (λ b. list_any (has_key c q) seen || b) (or_false (has_key c q d))

  -- a document of the window more
  pub opens_more : (seen : List Doc) → Changes opened (key_above after (key_of c d)) old new → AreNewest sources sort c after seen [] old → AreNewest sources sort c after (seen ++ d ∷ []) [] new
  unfolding with_key
  opens_more seen step are q =
      changed_at c after d opened old new step q ∙ ap (λ x. if is_after after q && has_key c q d then opened x else x) (are q)
      ∙ by (is_after after q) (list_any (has_key c q) seen) (has_key c q d)
      ∙ sym (ap (λ s. if is_after after q && s then Some None else None) (seen_more q seen))
    where
      by : (a s h : Bool) → (if a && h then opened (if a && s then Some None else None) else (if a && s then Some None else None)) ≡ (if a && (s || h) then Some None else None)
      by true true true = refl
      by true true false = refl
      by true false true = refl
      by true false false = refl
      by false s h = refl

  -- a document that counts more
  pub adds_more : (seen docs : List Doc) → Changes (added (age_cmp sources sort) d) (key_above after (key_of c d)) old new → AreNewest sources sort c after seen docs old → AreNewest sources sort c after seen (docs ++ d ∷ []) new
  adds_more seen docs step are q =
      changed_at c after d (added (age_cmp sources sort) d) old new step q
      ∙ ap (λ x. if is_after after q && has_key c q d then added (age_cmp sources sort) d x else x) (are q)
      ∙ by (is_after after q) (list_any (has_key c q) seen) (has_key c q d) refl
    where
      by : (a s h : Bool) → has_key c q d ≡ h
          → (if a && h then added (age_cmp sources sort) d (if a && s then Some (newest_of sources sort c docs q) else None) else (if a && s then Some (newest_of sources sort c docs q) else None))
          ≡ (if a && s then Some (newest_of sources sort c (docs ++ d ∷ []) q) else None)
      by true true true has = ap Some (sym (newest_grown sources sort c docs d q has))
      by true true false has = ap Some (sym (newest_same sources sort c docs d q has))
      by true false true has = refl
      by true false false has = refl
      by false s h has = refl

  -- a document more, of the window and counted
  pub grows_more : (docs : List Doc) → Changes (grown (age_cmp sources sort) d) (key_above after (key_of c d)) old new → AreNewest sources sort c after docs docs old
      → AreNewest sources sort c after (docs ++ d ∷ []) (docs ++ d ∷ []) new
  grows_more docs step are q =
      changed_at c after d (grown (age_cmp sources sort) d) old new step q
      ∙ ap (λ x. if is_after after q && has_key c q d then grown (age_cmp sources sort) d x else x) (are q)
      ∙ by (is_after after q) (list_any (has_key c q) docs) (has_key c q d) refl refl
      ∙ sym (ap (λ s. if is_after after q && s then Some (newest_of sources sort c (docs ++ d ∷ []) q) else None) (seen_more q docs))
    where
      by : (a s h : Bool) → list_any (has_key c q) docs ≡ s → has_key c q d ≡ h
          → (if a && h then grown (age_cmp sources sort) d (if a && s then Some (newest_of sources sort c docs q) else None) else (if a && s then Some (newest_of sources sort c docs q) else None))
          ≡ (if a && (s || h) then Some (newest_of sources sort c (docs ++ d ∷ []) q) else None)
      by true true true any has = ap Some (sym (newest_grown sources sort c docs d q has))
      by true true false any has = ap Some (sym (newest_same sources sort c docs d q has))
      by true false true any has =
          ap Some (sym (newest_grown sources sort c docs d q has ∙ ap (λ ds. of_both (newer (age_cmp sources sort)) (newest (age_cmp sources sort) ds) (Some d)) (with_none c q docs any)))
      by true false false any has = refl
      by false s h any has = refl

pub none_yet : (sources sort : List ℕ) (c : Config) (after : Option Key) (found : Key → Option (Option Doc)) → ((q : Key) → found q ≡ None) → AreNewest sources sort c after [] [] found
none_yet sources sort c after found none q = none q ∙ by (is_after after q)
  where
    by : (a : Bool) → None ≡ (if a && false then Some (newest_of sources sort c [] q) else None)
    by true = refl
    by false = refl
