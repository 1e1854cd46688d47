-- Places that are entered for ids.
use Rattle.std.proofs.Common.{◌≡◌, ℕ, zero, suc, ◌+◌, ◌<◌, ◌≤◌, Bool, true, false, cond, ◌&&◌, ◌||◌, List, [], ◌∷◌, ◌++◌, length, take, drop, get_or, Option, Some, None, arith, refl, sym, ap, ◌∙◌, subst, append-nil, add-one, length-append}
use Rattle.std.specs.Prelude.{nat_eq, slice_get, slice_set}
use Rattle.std.specs.Arc.{arc_value}
use Rattle.std.specs.BTreeMap.{BTreeMap, get}
use Rattle.std.specs.Cmp.Lexicographic.{slice_cmp}
use Rattle.std.specs.List.{list_any}
use Rattle.std.specs.Option.{option_and_then}
use Rattle.std.specs.Ordering.{nat_cmp}
use Rattle.std.specs.Str.{bytes_eq}
use Rattle.std.proofs.lemmas.Bool.{eq-eqb, eqb-true}
use Rattle.std.proofs.lemmas.Option.{same_Some, slice_get-get_or}
use Rattle.std.proofs.lemmas.Slice.Eq.{bytes_eq-Decides}
use Rattle.tf_model.specs.declared.doc.Doc.{Doc}
use Rattle.tf_history.specs.LegalEntries.{has_id}
use Rattle.tf_core.specs.declared.ids.Ids.{Ids}
use Rattle.tf_core.specs.declared.ready.Prepared.{Prepared}
use Rattle.tf_core.specs.declared.ready.Step.{Step}
use Rattle.tf_core.specs.declared.ready.Step.TheVariants as step
use Rattle.tf_core.specs.Ids.{AreIndexed, AreNew, Enters, IsNew, SameMaps, SamePlaces, all_docs, place_among, place_at}
use Rattle.tf_core.specs.Steps.{docs_of}

abbrev Map : Type 0
Map = BTreeMap (List ℕ) ℕ

abbrev at_name : List ℕ → Map → Option ℕ
at_name name m = get (slice_cmp nat_cmp) m name

-- ---- one map changed
get_set_same : (xs : List Map) (k : ℕ) (x : Map) → k < length xs → slice_get (slice_set xs k x) k ≡ Some x
get_set_same [] k x low = absurd (omega (arith, low))
get_set_same (y ∷ xs) zero x low = refl
get_set_same (y ∷ xs) (suc k) x low = get_set_same xs k x (omega (arith, low))

get_set_other : (xs : List Map) (k i : ℕ) (x : Map) → (k ≡ i → ⊥) → slice_get (slice_set xs k x) i ≡ slice_get xs i
get_set_other [] k i x h = refl
get_set_other (y ∷ xs) zero zero x h = absurd (h refl)
get_set_other (y ∷ xs) zero (suc i) x h = refl
get_set_other (y ∷ xs) (suc k) zero x h = refl
get_set_other (y ∷ xs) (suc k) (suc i) x h = get_set_other xs k i x (λ e. h (ap suc e))

module _ (old maps : List Map) (index : ℕ) (m x : Map) (same : SameMaps old maps) (low : index < length maps) (is : x ≡ get_or maps index x) where
  found : (name : List ℕ) → at_name name x ≡ place_among old index name
  found name = ap (at_name name) is ∙ (sym (ap (option_and_then (at_name name)) (slice_get-get_or maps index x low)) ∙ same index name)

  elsewhere : (i : ℕ) (name : List ℕ) → nat_eq index i ≡ false → place_among (slice_set maps index m) i name ≡ place_among old i name
  elsewhere i name apart =
      ap (option_and_then (at_name name)) (get_set_other maps index i m (λ e. let t : nat_eq index i ≡ true = eq-eqb index i e in let z : false ≡ true = sym apart ∙ t in cc)) ∙ same i name

  here : (name : List ℕ) → place_among (slice_set maps index m) index name ≡ at_name name m
  here name = ap (option_and_then (at_name name)) (get_set_same maps index m low)

  pub set_enters : (id : List ℕ) (place : ℕ) → ((q : List ℕ) → at_name q m ≡ cond (bytes_eq id q) (Some place) (at_name q x)) → (i : ℕ) (name : List ℕ)
      → place_among (slice_set maps index m) i name ≡ cond (nat_eq index i && bytes_eq id name) (Some place) (place_among old i name)
  set_enters id place entered i name = by_index (nat_eq index i) refl
    where
      by_index : (b : Bool) → nat_eq index i ≡ b → place_among (slice_set maps index m) i name ≡ cond (b && bytes_eq id name) (Some place) (place_among old i name)
      by_index true e =
          subst (λ j. place_among (slice_set maps index m) j name ≡ cond (bytes_eq id name) (Some place) (place_among old j name)) (eqb-true index i e)
          (here name ∙ (entered name ∙ ap (cond (bytes_eq id name) (Some place)) (found name)))
      by_index false e = elsewhere i name e

  pub set_same : ((q : List ℕ) → at_name q m ≡ at_name q x) → SameMaps old (slice_set maps index m)
  set_same entered i name = by_index (nat_eq index i) refl
    where
      by_index : (b : Bool) → nat_eq index i ≡ b → place_among (slice_set maps index m) i name ≡ place_among old i name
      by_index true e = subst (λ j. place_among (slice_set maps index m) j name ≡ place_among old j name) (eqb-true index i e) (here name ∙ (entered name ∙ found name))
      by_index false e = elsewhere i name e

-- ---- documents
all_push : (P : ℕ → Doc → Type 0) (docs : List Doc) (x : Doc) → ((p : ℕ) (d : Doc) → slice_get docs p ≡ Some d → P p d) → P (length docs) x → (p : ℕ) (d : Doc) → slice_get (docs ++ x ∷ []) p ≡ Some d → P p d
all_push P [] x h q zero d e = subst (P 0) (same_Some x d e) q
all_push P [] x h q (suc p) d e = absurd (let z : ◌≡◌ {A = Option Doc} None (Some d) = e in cc)
all_push P (y ∷ docs) x h q zero d e = h zero d e
all_push P (y ∷ docs) x h q (suc p) d e = all_push (λ n. P (suc n)) docs x (λ n c g. h (suc n) c g) q p d e

not_first : (a b : Bool) → (a || b) ≡ false → (a ≡ false) × (b ≡ false)
not_first true b e = absurd (let z : true ≡ false = e in cc)
not_first false b e = (refl, e)

not_any : (index : ℕ) (id : List ℕ) (docs : List Doc) (p : ℕ) (d : Doc) → list_any (has_id index id) docs ≡ false → slice_get docs p ≡ Some d → has_id index id d ≡ false
not_any index id [] p d none e = absurd (let z : ◌≡◌ {A = Option Doc} None (Some d) = e in cc)
not_any index id (y ∷ docs) zero d none e = ap (has_id index id) (sym (same_Some y d e)) ∙ (not_first (has_id index id y) (list_any (has_id index id) docs) none).0
not_any index id (y ∷ docs) (suc p) d none e = not_any index id docs p d (not_first (has_id index id y) (list_any (has_id index id) docs) none).1 e

pub has_itself : (d : Doc) → has_id d.index d.id d ≡ true
has_itself d = ap (λ b. b && bytes_eq d.id d.id) (eq-eqb d.index d.index refl) ∙ (bytes_eq-Decides d.id d.id).1 refl

same_indexed : (docs : List Doc) (old new : Ids) → AreIndexed old docs → SamePlaces old new → AreIndexed new docs
same_indexed docs old new h same p d e = same d.index d.id ∙ h p d e

wrote_indexed : (docs : List Doc) (x : Doc) (n : ℕ) (old new : Ids) → AreIndexed old docs → list_any (has_id x.index x.id) docs ≡ false → n ≡ length docs
    → ((i : ℕ) (name : List ℕ) → place_at new i name ≡ cond (nat_eq x.index i && bytes_eq x.id name) (Some n) (place_at old i name)) → AreIndexed new (docs ++ x ∷ [])
wrote_indexed docs x n old new h none is entered =
    all_push (λ p d. place_at new d.index d.id ≡ Some p) docs x
    (λ p d e. entered d.index d.id ∙ (ap (λ b. cond b (Some n) (place_at old d.index d.id)) (not_any x.index x.id docs p d none e) ∙ h p d e))
    (entered x.index x.id ∙ (ap (λ b. cond b (Some n) (place_at old x.index x.id)) (has_itself x) ∙ ap Some is))

pub step_indexed : (docs : List Doc) (s : Step) (n : ℕ) (old new : Ids) → AreIndexed old docs → IsNew docs s → n ≡ length docs → Enters s n old new → AreIndexed new (docs ++ docs_of s)
step_indexed docs (step.Write doc) n old new h none is entered = wrote_indexed docs (arc_value doc) n old new h none is entered
step_indexed docs (step.Index index) n old new h none is entered = subst (AreIndexed new) (sym (append-nil docs)) (same_indexed docs old new h entered)
step_indexed docs (step.Put t) n old new h none is entered = subst (AreIndexed new) (sym (append-nil docs)) (same_indexed docs old new h entered)
step_indexed docs (step.Delete id) n old new h none is entered = subst (AreIndexed new) (sym (append-nil docs)) (same_indexed docs old new h entered)
step_indexed docs (step.Change id by) n old new h none is entered = subst (AreIndexed new) (sym (append-nil docs)) (same_indexed docs old new h entered)

-- ---- steps one after the other
append_assoc : {X : Type 0} (xs ys zs : List X) → (xs ++ ys) ++ zs ≡ xs ++ (ys ++ zs)
append_assoc [] ys zs = refl
append_assoc (x ∷ xs) ys zs = ap (λ ws. x ∷ ws) (append_assoc xs ys zs)

docs_suc : (steps : List Prepared) (i : ℕ) (x : Prepared) → i < length steps → all_docs (take (suc i) steps) ≡ all_docs (take i steps) ++ docs_of (get_or steps i x).step
docs_suc [] i x low = absurd (omega (arith, low))
docs_suc (p ∷ steps) zero x low = append-nil (docs_of p.step)
docs_suc (p ∷ steps) (suc i) x low = ap (λ ds. docs_of p.step ++ ds) (docs_suc steps i x (omega (arith, low))) ∙ sym (append_assoc (docs_of p.step) (all_docs (take i steps)) (docs_of (get_or steps i x).step))

drop_suc : (steps : List Prepared) (i : ℕ) (x : Prepared) → i < length steps → drop i steps ≡ get_or steps i x ∷ drop (suc i) steps
drop_suc [] i x low = absurd (omega (arith, low))
drop_suc (p ∷ steps) zero x low = refl
drop_suc (p ∷ steps) (suc i) x low = drop_suc steps i x (omega (arith, low))

-- after i steps and the next one x
module _ (docs : List Doc) (steps : List Prepared) (i : ℕ) (x : Prepared) (low : i < length steps) (is : x ≡ get_or steps i x) where
  abbrev pub so_far : ℕ → List Doc
  so_far n = docs ++ all_docs (take n steps)

  pub so_far_more : so_far (i + 1) ≡ so_far i ++ docs_of x.step
  so_far_more =
      ap so_far (add-one i)
      ∙ (ap (λ ds. docs ++ ds) (docs_suc steps i x low ∙ ap (λ (p : Prepared). all_docs (take i steps) ++ docs_of p.step) (sym is))
      ∙ sym (append_assoc docs (all_docs (take i steps)) (docs_of x.step)))

  pub new_rest : AreNew (so_far i) (drop i steps) → IsNew (so_far i) x.step × AreNew (so_far (i + 1)) (drop (i + 1) steps)
  new_rest h =
      let split : drop i steps ≡ x ∷ drop (i + 1) steps = drop_suc steps i x low ∙ ap (λ (p : Prepared). p ∷ drop (suc i) steps) (sym is) ∙ ap (λ n. x ∷ drop n steps) (sym (add-one i)) in
      let here : AreNew (so_far i) (x ∷ drop (i + 1) steps) = subst (AreNew (so_far i)) split h in
      (here.0, subst (λ ds. AreNew ds (drop (i + 1) steps)) (sym so_far_more) here.1)

  pub place_more : (n m : ℕ) → n ≡ length (so_far i) → m ≡ length (docs_of x.step) → n + m ≡ length (so_far (i + 1))
  place_more n m place more = omega (arith, place, more, ap length so_far_more, length-append (so_far i) (docs_of x.step))

pub docs_low : (s : Step) → length (docs_of s) ≤ 1
docs_low (step.Index index) = omega arith
docs_low (step.Write doc) = omega arith
docs_low (step.Put t) = omega arith
docs_low (step.Delete id) = omega arith
docs_low (step.Change id by) = omega arith
