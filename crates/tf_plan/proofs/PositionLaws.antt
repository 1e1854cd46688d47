-- The position behind a page.
use Rattle.std.proofs.Common.{◌≡◌, ℕ, zero, suc, List, [], ◌∷◌, map, take, drop, refl, sym, ap, subst}
use Rattle.std.specs.Prelude.{ℤ, Option, Some, None, unwrap_or, filter}
use Rattle.std.specs.Option.{option_map, option_or}
use Rattle.std.specs.Prelude.{IfOk}
use Rattle.std.specs.declared.result.Result.{Result}
use Rattle.std.specs.declared.result.Result.TheVariants.{Ok, Err}
use Rattle.tf_model.specs.declared.value.Key.{Key}
use Rattle.tf_model.specs.declared.value.Value.{Value}
use Rattle.tf_model.specs.declared.doc.Doc.{Doc}
use Rattle.tf_model.specs.declared.config.Config.{Config}
use Rattle.tf_model.specs.declared.entry.Row.{Row}
use Rattle.tf_model.specs.declared.entry.Row.TheVariants as row
use Rattle.tf_model.specs.declared.entry.SumRange.{SumRange}
use Rattle.tf_model.specs.Changed.{changed, changed_above, is_after}
use Rattle.tf_model.specs.Counted.{counted, window}
use Rattle.tf_model.specs.Keys.{all_keys}
use Rattle.tf_model.specs.Rows.{aggs_of, all_aggregated, pivot_row, with_key}
use Rattle.tf_history.specs.Configured.{meaning}
use Rattle.tf_history.specs.Lives.{last_key}
use Rattle.tf_history.specs.Meaning.{row_key}
use Rattle.tf_history.proofs.Keys.{IsAscending, above_page, ascending-all_keys, last_of}
use Rattle.tf_history.proofs.MeaningLaw.{meanings_agree}
use Rattle.tf_plan.specs.Left.{IsLeftOf, IsPlan, Left, left_after, left_by, next_page, page_by, position_after, wide_within}
use Rattle.tf_plan.proofs.LeftLaws.{behind_is, next_rows}

pub ascending_keys : (c : Config) (docs : List Doc) → IsAscending (all_keys c docs)
ascending_keys c docs = subst IsAscending ((meanings_agree [] c).all_keys_is docs) (ascending-all_keys (meaning [] c) docs)

-- a row has its key
keyed : (k : Key) (values : Option (List Value)) (r : Row) → option_map (row.Pivot k) values ≡ Some r → row_key r ≡ k
keyed k None r e = absurd (cc)
keyed k (Some values) r e = ap (λ o. row_key (unwrap_or o r)) (sym e)

row_is_keyed : (c : Config) (k : Key) (docs : List Doc) (r : Row) → pivot_row c k docs ≡ Some r → row_key r ≡ k
unfolding pivot_row
row_is_keyed c k docs r e = keyed k (all_aggregated (aggs_of c.shape) (with_key c k docs)) r e

-- the last of some rows has the last of their keys
last_is : (c : Config) (docs : List Doc) (ks : List Key) (rows : List Row) → map Some rows ≡ map (λ k. pivot_row c k docs) ks → last_key rows ≡ last_of ks
last_is c docs [] [] e = refl
last_is c docs [] (r ∷ rows) e = absurd (cc)
last_is c docs (k ∷ ks) [] e = absurd (cc)
last_is c docs (k ∷ []) (r ∷ []) e = let first : pivot_row c k docs ≡ Some r = cc in ap Some (row_is_keyed c k docs r first)
last_is c docs (k ∷ []) (r ∷ s ∷ rows) e = absurd (cc)
last_is c docs (k ∷ j ∷ ks) (r ∷ []) e = absurd (cc)
last_is c docs (k ∷ j ∷ ks) (r ∷ s ∷ rows) e = last_is c docs (j ∷ ks) (s ∷ rows) (cc)

no_last : (ks : List Key) → last_of ks ≡ None → ks ≡ []
no_last [] e = refl
no_last (k ∷ []) e = absurd (cc)
no_last (k ∷ j ∷ ks) e = absurd (let z : j ∷ ks ≡ [] = no_last (j ∷ ks) e in cc)

drop_none : (n : ℕ) (ks : List Key) → take n ks ≡ [] → drop n ks ≡ ks
drop_none zero ks e = refl
drop_none (suc n) [] e = refl
drop_none (suc n) (k ∷ ks) e = absurd (cc)

-- above the last key of a page are the keys behind it
pub above_last : (c : Config) (low high : Option ℤ) (after : Option Key) (docs : List Doc) (size : ℕ) (last : Option Key) → last_of (take size (changed_above c low high after docs)) ≡ last
    → changed_above c low high (option_or last after) docs ≡ drop size (changed_above c low high after docs)
unfolding changed_above changed
above_last c low high after docs size None e = sym (drop_none size (filter (is_after after) (all_keys c (window c low high docs))) (no_last (take size (filter (is_after after) (all_keys c (window c low high docs)))) e))
above_last c low high after docs size (Some last) e = above_page (all_keys c (window c low high docs)) after size last (ascending_keys c (window c low high docs)) e

-- what is left behind the next page is the plan above its position
pub plan_moves : (c : Config) (low high : Option ℤ) (after : Option Key) (docs : List Doc) (size : ℕ) (left : Left) → IsPlan c low high after docs left
    → IsPlan c low high (position_after after (next_page size left)) docs (left_after size left)
plan_moves c low high after docs size left is = by (wide_within size left) refl
  where
    by : (wide : Option SumRange) → wide_within size left ≡ wide → IsPlan c low high (position_after after (page_by size left wide)) docs (left_by size left wide)
    by (Some found) e = is
    by None e =
        let ks = changed_above c low high after docs in
        let rows = next_rows c (counted c high docs) ks left is size e in
        let last = last_is c (counted c high docs) (take size ks) (take size left.rows) rows.made in
        subst (λ qs. IsLeftOf c (counted c high docs) qs (left_by size left None)) (sym (above_last c low high after docs size (last_key (take size left.rows)) (sym last)))
        (behind_is c (counted c high docs) ks left is size e)

-- what holds of a value, and besides
pub both : {X Y : Type 0} (r : Result X Y) (P : X → Type 0) (Q : Type 0) → IfOk r P → IfOk r (λ _. Q) → IfOk r (λ x. P x × Q)
both (Ok x) P Q p q = (p, q)
both (Err e) P Q p q = p
