-- The ids of documents, and those entered behind them.
use Rattle.std.proofs.Common.{◌≡◌, ℕ, zero, suc, ◌+◌, ◌<◌, ◌≤◌, Bool, true, false, cond, not, ◌||◌, eqb, nat_lt, if◌then◌else◌, List, [], ◌∷◌, ◌++◌, length, get_or, take, drop, slice_get, position, Option, Some, None, refl, sym, ap, ◌∙◌, arith, true≢false}
use Rattle.std.proofs.lemmas.List.{length-map, length-append, length-take, take-append-drop, get_or-take, get_or_default}
use Rattle.std.proofs.lemmas.List.Folds.{prefix_len-append, list_any-append, list_any_none}
use Rattle.std.proofs.lemmas.List.Sums.{prefix_len-le-length}
use Rattle.std.proofs.lemmas.Bool.Decides.{nat_tests}
use Rattle.std.proofs.lemmas.Map.Keys.{apart_from_distinct}
use Rattle.std.specs.Cmp.Lexicographic.{bytes_decides, nat_list_eq_equiv}
use Rattle.std.specs.List.{IsDistinct, list_any, position_or_len}
use Rattle.tf_model.specs.declared.doc.Doc.{Doc}
use Rattle.tf_shard.specs.Created.{is_next}
use Rattle.tf_shard.specs.Ids.{ids_of, same_id, number_of}

-- a place among all, where the first of two parts has so many
below_at : (a n b t : ℕ) → a ≤ n → t ≡ cond (eqb a n) (n + b) a → (if nat_lt t n then Some t else None) ≡ cond (nat_lt a n) (Some a) None
below_at a n b t le is = grind (arith, nat_tests)

place_is : (t m at : ℕ) → cond (nat_lt t m) (Some t) None ≡ Some at → t ≡ at
place_is t m at e = by (nat_lt t m) e
  where
    by : (b : Bool) → cond b (Some t) None ≡ Some at → t ≡ at
    by true f = cc
    by false f = absurd (let g : ◌≡◌ {A = Option ℕ} None (Some at) = f in cc)

no_place : (t m : ℕ) → cond (nat_lt t m) (Some t) None ≡ None → m ≤ t
no_place t m e = by (nat_lt t m) refl e
  where
    by : (b : Bool) → nat_lt t m ≡ b → cond b (Some t) None ≡ None → m ≤ t
    by true is f = absurd (let g : ◌≡◌ {A = Option ℕ} (Some t) None = f in cc)
    by false is f = grind (arith, nat_tests)

none_passes_by : {X : Type 0} (p : X → Bool) (xs : List X) (b : Bool) → (length xs ≤ position_or_len p xs → list_any p xs ≡ false) → suc (length xs) ≤ cond (not b) (1 + position_or_len p xs) 0 → (b || list_any p xs) ≡ false
none_passes_by p xs true rest le = absurd (omega (arith, le))
none_passes_by p xs false rest le = rest (omega (arith, le))

none_passes : {X : Type 0} (p : X → Bool) (xs : List X) → length xs ≤ position_or_len p xs → list_any p xs ≡ false
none_passes p [] le = refl
none_passes p (x ∷ xs) le = none_passes_by p xs (p x) (none_passes p xs) le

not_found : {X : Type 0} (p : X → Bool) (xs : List X) → position p xs ≡ None → list_any p xs ≡ false
not_found p xs e = none_passes p xs (no_place (position_or_len p xs) (length xs) e)

module _ {X : Type 0} (p : X → Bool) (xs ys : List X) where
  -- the place in the front of the first that passes
  front_place : (if nat_lt (position_or_len p (xs ++ ys)) (length xs) then Some (position_or_len p (xs ++ ys)) else None) ≡ position p xs
  front_place = below_at (position_or_len p xs) (length xs) (position_or_len p ys) (position_or_len p (xs ++ ys)) (prefix_len-le-length (λ x. not (p x)) xs) (prefix_len-append (λ x. not (p x)) xs ys)

  front_found : (at : ℕ) → position p (xs ++ ys) ≡ Some at → (if nat_lt at (length xs) then Some at else None) ≡ position p xs
  front_found at e =
      let is = place_is (position_or_len p (xs ++ ys)) (length (xs ++ ys)) at e in
      ap (λ n. if nat_lt n (length xs) then Some n else None) (sym is) ∙ front_place

  past : (t n : ℕ) → n ≤ t → None ≡ (if nat_lt t n then Some t else None)
  past t n le = grind (arith, nat_tests)

  front_not_found : position p (xs ++ ys) ≡ None → None ≡ position p xs
  front_not_found e =
      let le = no_place (position_or_len p (xs ++ ys)) (length (xs ++ ys)) e in
      past (position_or_len p (xs ++ ys)) (length xs) (omega (arith, le, length-append xs ys)) ∙ front_place

module _ (docs : List Doc) (keys : List (List ℕ)) (count : ℕ) (entered : take count keys ≡ ids_of docs) (counted : count ≡ length docs) where
  split : keys ≡ ids_of docs ++ drop count keys
  split = sym (take-append-drop count keys) ∙ ap (λ ids. ids ++ drop count keys) entered

  many : length (ids_of docs) ≡ count
  many = length-map docs (λ d. d.id) ∙ sym counted

  -- the number of a document by the place of its id
  pub number_found : (id : List ℕ) (at : ℕ) → position (same_id id) keys ≡ Some at → (if nat_lt at count then Some at else None) ≡ number_of id docs
  number_found id at e =
      ap (λ n. if nat_lt at n then Some at else None) (sym many)
      ∙ front_found (same_id id) (ids_of docs) (drop count keys) at (ap (position (same_id id)) (sym split) ∙ e)

  pub number_not_found : (id : List ℕ) → position (same_id id) keys ≡ None → None ≡ number_of id docs
  number_not_found id e = front_not_found (same_id id) (ids_of docs) (drop count keys) (ap (position (same_id id)) (sym split) ∙ e)

  -- an id that no document has, and that is not entered ahead, is not there
  pub is_new : (id : List ℕ) → number_of id docs ≡ None → list_any (same_id id) (drop count keys) ≡ false → list_any (same_id id) keys ≡ false
  is_new id free new = ap (list_any (same_id id)) split ∙ list_any-append (same_id id) (ids_of docs) (drop count keys) ∙ ap (λ b. b || list_any (same_id id) (drop count keys)) (not_found (same_id id) (ids_of docs) free) ∙ new

-- whether an id stands at a place
pub next_at : (keys : List (List ℕ)) (n : ℕ) (next id : List ℕ) → slice_get keys n ≡ Some next → same_id next id ≡ is_next id (drop n keys)
next_at [] n next id e = absurd (let f : ◌≡◌ {A = Option (List ℕ)} None (Some next) = e in cc)
next_at (key ∷ keys) zero next id e = let f : key ≡ next = cc in ap (λ k. same_id k id) (sym f)
next_at (key ∷ keys) (suc n) next id e = next_at keys n next id e

-- the next id goes over to those of documents
pub next_is : (keys : List (List ℕ)) (n : ℕ) (id : List ℕ) → is_next id (drop n keys) ≡ true → (n < length keys) × (take (n + 1) keys ≡ take n keys ++ id ∷ []) × (drop (n + 1) keys ≡ drop 1 (drop n keys))
next_is [] zero id e = absurd (true≢false (sym e))
next_is [] (suc n) id e = absurd (true≢false (sym e))
next_is (key ∷ keys) zero id e = (omega arith, ap (λ k. k ∷ []) ((bytes_decides key id).0 e), refl)
next_is (key ∷ keys) (suc n) id e =
    let rest = next_is keys n id e in
    let at : suc n + 1 ≡ suc (n + 1) = omega arith in (
      omega (arith, rest.0),
      ap (λ k. take k (key ∷ keys)) at ∙ ap (λ l. key ∷ l) rest.1,
      ap (λ k. drop k (key ∷ keys)) at ∙ rest.2,
    )

-- each document has its id entered
pub count_fits : (docs : List Doc) (keys : List (List ℕ)) (count : ℕ) → take count keys ≡ ids_of docs → count ≡ length docs → count ≤ length keys
count_fits docs keys count entered counted =
    let e = ap length entered in
    omega (arith, e, length-take count keys, length-map docs (λ d. d.id), counted)

-- none of the ids before one of ids that differ is the same
pub none_before : (ids : List (List ℕ)) (i : ℕ) (d : List ℕ) → IsDistinct same_id ids → i < length ids → list_any (same_id (get_or ids i d)) (take i ids) ≡ false
none_before ids i d differ lt =
    list_any_none (same_id (get_or ids i d)) (take i ids) (λ k e lt_k.
    let below : k < i = omega (arith, lt_k, length-take i ids) in
    nat_list_eq_equiv.symm (get_or ids i d) (get_or (take i ids) k e)
    ∙ (λ j. same_id (get_or-take i ids k e below j) (get_or_default ids i d e lt j))
    ∙ apart_from_distinct same_id ids k i e differ below lt)
