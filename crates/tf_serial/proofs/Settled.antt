-- What a settling leaves, and that it follows its rule.
use Rattle.std.proofs.Common.{◌≡◌, ℕ, ◌<◌, ◌≤◌, ℤ, Bool, true, false, List, [], ◌∷◌, ◌++◌, Option, Some, None, inl, inr, refl, sym, ap, subst, ◌∙◌, arith, length-append}
use Rattle.std.specs.BTreeSet.{insert_key}
use Rattle.std.specs.Cmp.Lexicographic.{slice_cmp}
use Rattle.std.specs.FinMap.{nat_cmp-IsAntisymmetric, slice_cmp-IsAntisymmetric}
use Rattle.std.specs.List.{AllByRecursion, list_all}
use Rattle.std.specs.Ordering.{match_ordering, nat_cmp}
use Rattle.std.specs.Prelude.{◌≢◌, ◌&&◌, cond, fold, is_none, length, map, reverse}
use Rattle.std.specs.declared.cmp.Ordering.TheVariants.{Less, Equal, Greater}
use Rattle.std.proofs.lemmas.Bool.{cases_lt}
use Rattle.std.proofs.lemmas.List.{append-nil, length-reverse, reverse-reverse}
use mathlib.Core.List.{IsPrefix}
use Rattle.tf_model.specs.declared.entry.Entry.{Entry}
use Rattle.tf_history.specs.Lives.{Life, life}
use Rattle.tf_history.specs.Transforms.{PutTransform, transforms}
use Rattle.tf_core.specs.Legal.{read}
use Rattle.tf_core.specs.Listing.{ascending, ids_after}
use Rattle.tf_core.proofs.Truths.{both, none_of}
use Rattle.tf_serial.specs.Moves.{IsSettled, left_in, moved_out, next_move, pass, settled}
use Rattle.tf_serial.specs.Settling.{ArePaced, IsPass, Settles, SettlingsFollowTheRule, again, still}
use Rattle.tf_serial.proofs.MoveByMove.{settling_keeps}
use Rattle.tf_serial.proofs.NextMoves.{found_has, put_of_life}
use Rattle.tf_serial.proofs.OneMove.{no_life, same_transforms, taken_is_paced}
use Rattle.tf_serial.proofs.Passes.{AreIdle, idle_pass, moved_out_idle, moves_paced, pass_paced, pass_idle, pass_twice, settled_is}
use Rattle.tf_serial.proofs.Prefixes.{pass_begins}

-- ---- all transforms
-- what holds of texts in order holds of each of them
insert_back : (P : List ℕ → Type 0) (texts : List (List ℕ)) (text : List ℕ) → AllByRecursion P (insert_key (slice_cmp nat_cmp) texts text) → P text × AllByRecursion P texts
insert_back P [] text all = (all.0, tt)
insert_back P (other ∷ texts) text all =
    elim (slice_cmp nat_cmp text other) as (λ o. slice_cmp nat_cmp text other ≡ o → AllByRecursion P (match_ordering o (text ∷ other ∷ texts) (other ∷ texts) (other ∷ insert_key (slice_cmp nat_cmp) texts text)) → P text × AllByRecursion P (other ∷ texts)) [
      | Less ↦ λ e all. (all.0, all.1)
      | Equal ↦ λ e all. (subst P (sym (slice_cmp-IsAntisymmetric nat_cmp-IsAntisymmetric text other e)) all.0, all)
      | Greater ↦ λ e all. let rest = insert_back P texts text all.1 in (rest.0, (all.0, rest.1))
    ] refl all

ordered_back : (P : List ℕ → Type 0) (texts before : List (List ℕ)) → AllByRecursion P (fold (insert_key (slice_cmp nat_cmp)) before texts) → AllByRecursion P before × AllByRecursion P texts
ordered_back P [] before all = (all, tt)
ordered_back P (text ∷ texts) before all =
    let rest = ordered_back P texts (insert_key (slice_cmp nat_cmp) before text) all in
    let own = insert_back P before text rest.0 in
    (own.1, (own.0, rest.1))

ids_back : (P : List ℕ → Type 0) (puts : List PutTransform) → AllByRecursion P (map (λ (p : PutTransform). p.id) puts) → AllByRecursion (λ (p : PutTransform). P p.id) puts
ids_back P [] all = tt
ids_back P (p ∷ puts) all = (all.0, ids_back P puts all.1)

-- what holds of the ids of a past holds of each transform that has a life
listed_has : (P : List ℕ → Type 0) (past : List Entry) (id : List ℕ) (l : Life) → AllByRecursion P (ids_after past) → life id (read past) ≡ Some l → P id
listed_has P past id l all there =
    let put = put_of_life past id l there in
    let each = ids_back P (transforms past) (ordered_back P (map (λ (p : PutTransform). p.id) (transforms past)) [] all).1 in
    let own = found_has (λ (p : PutTransform). P p.id) id (transforms past) put.put each put.there in
    subst P (sym own.1) own.0

-- where the transforms of a past are idle there is no next move
idle_settled : (given : ℤ) (past : List Entry) → AreIdle given (ids_after past) past → IsSettled given past
idle_settled given past idle id = by (life id (read past)) refl
  where
    by : (o : Option Life) → life id (read past) ≡ o → next_move given id past ≡ None
    by None there = no_life given id past there
    by (Some l) there = listed_has (λ t. next_move given t past ≡ None) past id l idle there

-- a settling leaves the transforms
same_ids : (given : ℤ) (past : List Entry) → ids_after (settled given past) ≡ ids_after past
same_ids given past =
    ap (λ ts. ascending (map (λ (p : PutTransform). p.id) ts)) (settling_keeps given (λ now. transforms now ≡ transforms past) (λ id now e is same. same_transforms given id now e is ∙ same) past refl)

-- and no move of theirs
pub settled_ends : (given : ℤ) (past : List Entry) → ArePaced past → IsSettled given (settled given past)
settled_ends given past paced =
    let idle = subst (AreIdle given (ids_after past)) (sym (settled_is given past paced)) (pass_idle given (ids_after past) past paced) in
    idle_settled given (settled given past) (subst (λ ids. AreIdle given ids (settled given past)) (sym (same_ids given past)) idle)

-- ---- passes
prefix_whole : {A : Type 0} (xs ys : List A) → IsPrefix xs ys → length ys ≤ length xs → ys ≡ xs
prefix_whole xs ys p short = by p.0 p.1
  where
    by : (zs : List _) → xs ++ zs ≡ ys → ys ≡ xs
    by [] e = sym e ∙ append-nil xs
    by (z ∷ zs) e = absurd (omega (arith, ap length e, length-append xs (z ∷ zs)))

-- a pass that makes no entry moves nothing
pub pass_still : (given : ℤ) (ids : List (List ℕ)) (past : List Entry) → length (pass given ids past) ≤ length past → pass given ids past ≡ past
pass_still given ids past short =
    let now = pass given ids past in
    sym (reverse-reverse now) ∙ (ap reverse (prefix_whole (reverse past) (reverse now) (pass_begins given past ids) (omega (arith, length-reverse past, length-reverse now))) ∙ reverse-reverse past)

-- how many passes move something yet
abbrev pub to_pass : ℤ → List (List ℕ) → List Entry → ℕ
to_pass given ids past = cond (list_all (λ id. is_none (next_move given id past)) ids) 0 1

all_idle : (given : ℤ) (ids : List (List ℕ)) (past : List Entry) → list_all (λ id. is_none (next_move given id past)) ids ≡ true → AreIdle given ids past
all_idle given [] past e = tt
all_idle given (id ∷ ids) past e = let parts = both _ _ e in (none_of (next_move given id past) parts.0, all_idle given ids past parts.1)

idle_all : (given : ℤ) (ids : List (List ℕ)) (past : List Entry) → AreIdle given ids past → list_all (λ id. is_none (next_move given id past)) ids ≡ true
idle_all given [] past idle = refl
idle_all given (id ∷ ids) past idle = ap (λ o. is_none o && list_all (λ id. is_none (next_move given id past)) ids) idle.0 ∙ idle_all given ids past idle.1

-- one that moves something is the last that does
fewer : (given : ℤ) (ids : List (List ℕ)) (past : List Entry) → ArePaced past → length (pass given ids past) ≢ length past → to_pass given ids (pass given ids past) < to_pass given ids past
fewer given ids past paced moved = by (list_all (λ id. is_none (next_move given id past)) ids) refl
  where
    none : to_pass given ids (pass given ids past) ≡ 0
    none = ap (λ b. cond b 0 1) (idle_all given ids (pass given ids past) (pass_idle given ids past paced))

    by : (b : Bool) → list_all (λ id. is_none (next_move given id past)) ids ≡ b → to_pass given ids (pass given ids past) < cond b 0 1
    by true e = absurd (moved (ap length (idle_pass given ids past (all_idle given ids past e))))
    by false e = omega (arith, none)

pub fewer_to_pass : (given : ℤ) (ids : List (List ℕ)) (past now : List Entry) → ArePaced past → now ≡ pass given ids past → length now ≢ length past → to_pass given ids now < to_pass given ids past
fewer_to_pass given ids past now paced made moved = subst (λ p. to_pass given ids p < to_pass given ids past) (sym made) (fewer given ids past paced (λ same. moved (ap length made ∙ same)))

-- ---- the rule
is_pass : (given : ℤ) (ids : List (List ℕ)) (past : List Entry) → ArePaced past → IsPass given ids past (pass given ids past)
is_pass given [] past paced = refl
is_pass given (id ∷ ids) past paced =
    let mid = moved_out given id past in
    (mid, record { made = left_in given id past; moved = refl; idle = moved_out_idle given id past paced }, is_pass given ids mid (moves_paced given (left_in given id past) id past paced))

pass_settles : (given : ℤ) (ids : List (List ℕ)) (past : List Entry) → ArePaced past → Settles given ids past (pass given ids past)
pass_settles given ids past paced =
    let now = pass given ids past in
    elim (cases_lt (length past) (length now)) [
      | inl more ↦
          again past now now (is_pass given ids past paced) (λ same. omega (arith, more, ap length same))
          (still now (subst (IsPass given ids now) (pass_twice given ids past paced) (is_pass given ids now (pass_paced given ids past paced))))
      | inr none ↦
          let same : now ≡ past = pass_still given ids past none in
          subst (Settles given ids past) (sym same) (still past (subst (IsPass given ids past) same (is_pass given ids past paced)))
    ]

pub settlings_follow_the_rule : SettlingsFollowTheRule
settlings_follow_the_rule given past taken =
    let paced = taken_is_paced past taken in
    (subst (Settles given (ids_after past) past) (sym (settled_is given past paced)) (pass_settles given (ids_after past) past paced), settled_ends given past paced)
