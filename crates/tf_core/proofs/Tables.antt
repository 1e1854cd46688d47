-- Transforms found by their ids.
use Rattle.std.proofs.Common.{◌≡◌, ℕ, zero, suc, ◌+◌, ◌<◌, Bool, true, false, cond, not, List, [], ◌∷◌, length, map, get_or, Option, Some, None, arith, refl, sym, ap, ◌∙◌, subst, add-one}
use Rattle.std.specs.Prelude.{slice_set, option_map}
use Rattle.std.specs.List.{AllByRecursion, filter}
use Rattle.tf_history.specs.Lives.{is_same}
use Rattle.std.proofs.lemmas.Slice.Eq.{bytes_eq-Decides}
use Rattle.tf_history.proofs.Ids.{same_id}
use Rattle.tf_core.specs.declared.transform.Transform.{Transform}
use Rattle.tf_core.specs.Table.{place_in, transform_at, is_other}

pub same_itself : (id : List ℕ) → is_same id id ≡ true
same_itself id = (bytes_eq-Decides id id).1 refl

pub at_map : (f : Transform → Transform) → ((t : Transform) → (f t).id ≡ t.id) → (id : List ℕ) (ts : List Transform) → transform_at id (map f ts) ≡ option_map f (transform_at id ts)
at_map f same id [] = refl
at_map f same id (t ∷ ts) =
    ap (λ other. cond (is_same id other) (Some (f t)) (transform_at id (map f ts))) (same t)
    ∙ elim (is_same id t.id) as (λ b. cond b (Some (f t)) (transform_at id (map f ts)) ≡ option_map f (cond b (Some t) (transform_at id ts))) [ true ↦ refl | false ↦ at_map f same id ts ]

-- the one at the place of an id
pub at_place : (id : List ℕ) (ts : List Transform) (x : Transform) → place_in id ts < length ts → (transform_at id ts ≡ Some (get_or ts (place_in id ts) x)) × ((get_or ts (place_in id ts) x).id ≡ id)
at_place id [] x low = absurd (omega arith)
at_place id (t ∷ ts) x low =
    elim (is_same id t.id) as (λ b. is_same id t.id ≡ b → cond b 0 (place_in id ts + 1) < length (t ∷ ts) → (cond b (Some t) (transform_at id ts) ≡ Some (get_or (t ∷ ts) (cond b 0 (place_in id ts + 1)) x)) × ((get_or (t ∷ ts) (cond b 0 (place_in id ts + 1)) x).id ≡ id)) [
      | true ↦ λ e h. (refl, sym (same_id id t.id e))
      | false ↦ λ e h. let rest = at_place id ts x (omega arith) in
          subst (λ n. (transform_at id ts ≡ Some (get_or (t ∷ ts) n x)) × ((get_or (t ∷ ts) n x).id ≡ id)) (sym (add-one (place_in id ts))) rest
    ] refl low

cond_twice : {A : Type 0} (b : Bool) (x y z : A) → cond b x z ≡ cond b x (cond b y z)
cond_twice true x y z = refl
cond_twice false x y z = refl

cond_apart : {A : Type 0} (a b : Bool) (x y z : A) → (a ≡ true → b ≡ true → ⊥) → cond a x (cond b y z) ≡ cond b y (cond a x z)
cond_apart true true x y z h = absurd (h refl refl)
cond_apart true false x y z h = refl
cond_apart false b x y z h = refl

-- another one at the place of an id
pub at_set : (other id : List ℕ) (ts : List Transform) (x : Transform) → x.id ≡ id → place_in id ts < length ts → transform_at other (slice_set ts (place_in id ts) x) ≡ cond (is_same other id) (Some x) (transform_at other ts)
at_set other id [] x same low = absurd (omega arith)
at_set other id (t ∷ ts) x same low =
    elim (is_same id t.id) as (λ b. is_same id t.id ≡ b → cond b 0 (place_in id ts + 1) < length (t ∷ ts) → transform_at other (slice_set (t ∷ ts) (cond b 0 (place_in id ts + 1)) x) ≡ cond (is_same other id) (Some x) (cond (is_same other t.id) (Some t) (transform_at other ts))) [
      | true ↦ λ e h. here e
      | false ↦ λ e h. there e (at_set other id ts x same (omega arith))
    ] refl low
  where
    here : is_same id t.id ≡ true → cond (is_same other x.id) (Some x) (transform_at other ts) ≡ cond (is_same other id) (Some x) (cond (is_same other t.id) (Some t) (transform_at other ts))
    here e = ap (λ y. cond (is_same other y) (Some x) (transform_at other ts)) same
        ∙ subst (λ y. cond (is_same other id) (Some x) (transform_at other ts) ≡ cond (is_same other id) (Some x) (cond (is_same other y) (Some t) (transform_at other ts))) (same_id id t.id e) (cond_twice (is_same other id) (Some x) (Some t) (transform_at other ts))

    never : is_same id t.id ≡ false → is_same other t.id ≡ true → is_same other id ≡ true → ⊥
    never e p q =
        let z : is_same id t.id ≡ true = subst (λ y. is_same y t.id ≡ true) (same_id other id q) p in
        let w : false ≡ true = sym e ∙ z in
        cc

    there : is_same id t.id ≡ false → transform_at other (slice_set ts (place_in id ts) x) ≡ cond (is_same other id) (Some x) (transform_at other ts) → transform_at other (slice_set (t ∷ ts) (place_in id ts + 1) x) ≡ cond (is_same other id) (Some x) (cond (is_same other t.id) (Some t) (transform_at other ts))
    there e rest =
        ap (λ n. transform_at other (slice_set (t ∷ ts) n x)) (add-one (place_in id ts))
        ∙ (ap (cond (is_same other t.id) (Some t)) rest
        ∙ cond_apart (is_same other t.id) (is_same other id) (Some t) (Some x) (transform_at other ts) (never e))

-- one that is found has its place
pub found_within : (id : List ℕ) (ts : List Transform) (t : Transform) → transform_at id ts ≡ Some t → place_in id ts < length ts
found_within id [] t e = absurd (let z : ◌≡◌ {A = Option Transform} None (Some t) = e in cc)
found_within id (x ∷ ts) t e =
    elim (is_same id x.id) as (λ b. cond b (Some x) (transform_at id ts) ≡ Some t → cond b 0 (place_in id ts + 1) < length (x ∷ ts)) [
      | true ↦ λ f. omega arith
      | false ↦ λ f. let h : place_in id ts < length ts = found_within id ts t f in omega arith
    ] e

-- ---- what holds of all
pub all_set : (P : Transform → Type 0) (ts : List Transform) (i : ℕ) (x : Transform) → P x → AllByRecursion P ts → AllByRecursion P (slice_set ts i x)
all_set P [] i x p h = h
all_set P (t ∷ ts) zero x p h = (p, h.1)
all_set P (t ∷ ts) (suc i) x p h = (h.0, all_set P ts i x p h.1)

pub all_map : (P Q : Transform → Type 0) (f : Transform → Transform) → ((t : Transform) → P t → Q (f t)) → (ts : List Transform) → AllByRecursion P ts → AllByRecursion Q (map f ts)
all_map P Q f g [] h = tt
all_map P Q f g (t ∷ ts) h = (g t h.0, all_map P Q f g ts h.1)

pub all_weaker : (P Q : Transform → Type 0) → ((t : Transform) → P t → Q t) → (ts : List Transform) → AllByRecursion P ts → AllByRecursion Q ts
all_weaker P Q g [] h = tt
all_weaker P Q g (t ∷ ts) h = (g t h.0, all_weaker P Q g ts h.1)

-- the one of an id taken out
pub at_remove : (other id : List ℕ) (ts : List Transform) → transform_at other (filter (is_other id) ts) ≡ cond (is_same other id) None (transform_at other ts)
at_remove other id [] = none (is_same other id)
  where
    none : (b : Bool) → ◌≡◌ {A = Option Transform} None (cond b None None)
    none true = refl
    none false = refl
at_remove other id (t ∷ ts) =
    elim (is_same id t.id) as (λ b. is_same id t.id ≡ b → transform_at other (cond (not b) (t ∷ filter (is_other id) ts) (filter (is_other id) ts)) ≡ cond (is_same other id) None (cond (is_same other t.id) (Some t) (transform_at other ts))) [
      | true ↦ λ e. at_remove other id ts ∙ gone (sym (same_id id t.id e))
      | false ↦ λ e. ap (cond (is_same other t.id) (Some t)) (at_remove other id ts) ∙ cond_apart (is_same other t.id) (is_same other id) (Some t) None (transform_at other ts) (never e)
    ] refl
  where
    gone : t.id ≡ id → cond (is_same other id) None (transform_at other ts) ≡ cond (is_same other id) None (cond (is_same other t.id) (Some t) (transform_at other ts))
    gone e = subst (λ y. cond (is_same other id) None (transform_at other ts) ≡ cond (is_same other id) None (cond (is_same other y) (Some t) (transform_at other ts))) (sym e) (cond_twice (is_same other id) None (Some t) (transform_at other ts))

    never : is_same id t.id ≡ false → is_same other t.id ≡ true → is_same other id ≡ true → ⊥
    never e p q =
        let z : is_same id t.id ≡ true = subst (λ y. is_same y t.id ≡ true) (same_id other id q) p in
        let w : false ≡ true = sym e ∙ z in
        cc

pub all_filter : {X : Type 0} (P : X → Type 0) (p : X → Bool) (xs : List X) → AllByRecursion P xs → AllByRecursion P (filter p xs)
all_filter P p [] h = tt
all_filter P p (x ∷ xs) h = elim (p x) as (λ b. AllByRecursion P (cond b (x ∷ filter p xs) (filter p xs))) [ true ↦ (h.0, all_filter P p xs h.1) | false ↦ all_filter P p xs h.1 ]
