-- Documents that are numbered shard by shard.
use Rattle.std.proofs.Common.{◌≡◌, ℕ, ◌+◌, ◌<◌, Bool, true, false, cond, ◌&&◌, List, [], ◌∷◌, ◌++◌, length, get_or, take, count_by, refl, sym, ap, subst, ◌∙◌, arith, ⊎_elim}
use Rattle.std.proofs.lemmas.Bool.{cases_lt}
use Rattle.std.proofs.lemmas.List.{length_push, get_or_append_left, get_or_push, take-append-le, take-take, take_at}
use Rattle.std.proofs.lemmas.List.Sums.{count_by_more_yes, sum_by-take-le}
use Rattle.std.proofs.lemmas.Map.Keys.{IsDistinct-from_apart}
use Rattle.tf_model.specs.declared.doc.Doc.{Doc}
use Rattle.tf_order.specs.Laws.{NumberedAreNamedOnce, OneMoreIsNumbered}
use Rattle.tf_order.specs.Names.{AreNumbered, IsNumberedAfter, has_name_of}
use Rattle.tf_history.specs.LegalEntries.{is_in_shard}
use Rattle.tf_order.proofs.Names.{and_both, itself}
use Rattle.tf_order.proofs.Shards.{same_number}

in_its_shard : (d : Doc) → is_in_shard d.index d.shard d ≡ true
in_its_shard d = λ i. itself d.index i && itself d.shard i

-- a later document of a shard has a greater number
module _ (docs : List Doc) (i j : ℕ) (e : Doc) (numbered : AreNumbered docs) (before : i < j) (within : j < length docs) where
  greater : (get_or docs i e).index ≡ (get_or docs j e).index → (get_or docs i e).shard ≡ (get_or docs j e).shard → (get_or docs i e).seq < (get_or docs j e).seq
  greater by_index by_shard =
      let p = is_in_shard (get_or docs i e).index (get_or docs i e).shard in
      let here : (get_or docs i e).seq ≡ count_by p (take i docs) = numbered i e (omega (arith, before, within)) in
      let there : (get_or docs j e).seq ≡ count_by p (take j docs) = numbered j e within ∙ (λ k. count_by (is_in_shard (sym by_index k) (sym by_shard k)) (take j docs)) in
      let one = count_by_more_yes p docs i e (omega (arith, before, within)) (in_its_shard (get_or docs i e)) in
      let more = sum_by-take-le (λ d. cond (p d) 1 0) (take j docs) (i + 1) in
      let front = ap (count_by p) (take-take (i + 1) j docs (omega (arith, before))) in
      omega (arith, here, there, one, more, front)

  apart : has_name_of (get_or docs i e) (get_or docs j e) ≡ false
  apart = by (has_name_of (get_or docs i e) (get_or docs j e)) refl
    where
      by : (b : Bool) → has_name_of (get_or docs i e) (get_or docs j e) ≡ b → b ≡ false
      by false is = refl
      by true is =
          let parts = and_both _ _ is in
          let rest = and_both _ _ parts.1 in
          let lt = greater (same_number _ _ parts.0) (same_number _ _ rest.0) in
          let same = same_number _ _ rest.1 in
          absurd (omega (arith, lt, same))

pub numbered_are_named_once : NumberedAreNamedOnce
numbered_are_named_once docs numbered = IsDistinct-from_apart has_name_of docs (λ i j e before within. apart docs i j e numbered before within)

pub one_more_is_numbered : OneMoreIsNumbered
one_more_is_numbered docs d numbered last place e lt =
    ⊎_elim
    (λ inside. subst (λ l. IsNumberedAfter l (get_or (docs ++ d ∷ []) place e)) (sym (take-append-le place docs (d ∷ []) (omega arith)))
    (subst (IsNumberedAfter (take place docs)) (sym (get_or_append_left docs (d ∷ []) e place inside)) (numbered place e inside)))
    (λ outside.
    let at : length docs ≡ place = omega (arith, outside, lt, length_push docs d) in
    subst (λ l. IsNumberedAfter l (get_or (docs ++ d ∷ []) place e)) (sym (take_at docs (d ∷ []) place at))
    (subst (IsNumberedAfter docs) (sym (get_or_push docs d e place at)) last))
    (cases_lt place (length docs))
