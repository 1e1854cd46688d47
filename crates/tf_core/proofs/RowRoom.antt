-- Places for the rows of Pages.
use Rattle.std.proofs.Common.{◌≡◌, ℕ, zero, suc, ◌+◌, ◌<◌, ◌≤◌, List, [], ◌∷◌, ◌++◌, length, drop, get_or, add-one, arith, sym, ap, ◌∙◌, subst}
use Rattle.std.proofs.Math.Seq.{drop-cons}
use Rattle.std.specs.Prelude.{IsTrue, map}
use Rattle.std.specs.List.{AllByRecursion}
use Rattle.tf_dest.specs.Tables.{HavePlaces, KeepsPlaces, has_place}
use Rattle.tf_history.specs.Meaning.{row_key}
use Rattle.tf_model.specs.declared.entry.Entry.{Entry}
use Rattle.tf_model.specs.declared.entry.Row.{Row}
use Rattle.tf_model.specs.declared.value.Key.{Key}
use Rattle.tf_core.specs.declared.ready.Prepared.{Prepared}
use Rattle.tf_core.specs.Chain.{ArePlaced, IsPlaced, Paged, all_paged, paged}
use Rattle.tf_core.specs.Made.{page_of, pages_of}

-- ---- parts of lists
pub all_append : {X : Type 0} (P : X → Type 0) (xs ys : List X) → AllByRecursion P xs → AllByRecursion P ys → AllByRecursion P (xs ++ ys)
all_append P [] ys a b = b
all_append P (x ∷ xs) ys a b = (a.0, all_append P xs ys a.1 b)

pub all_front : {X : Type 0} (P : X → Type 0) (xs ys : List X) → AllByRecursion P (xs ++ ys) → AllByRecursion P xs
all_front P [] ys h = tt
all_front P (x ∷ xs) ys h = (h.0, all_front P xs ys h.1)

pub all_behind : {X : Type 0} (P : X → Type 0) (xs ys : List X) → AllByRecursion P (xs ++ ys) → AllByRecursion P ys
all_behind P [] ys h = h
all_behind P (x ∷ xs) ys h = all_behind P xs ys h.1

pub next_at : {X : Type 0} (xs : List X) (i : ℕ) (x : X) → i < length xs → x ≡ get_or xs i x → drop i xs ≡ x ∷ drop (i + 1) xs
next_at {X = X} xs i x low e =
    subst (λ n. drop i xs ≡ get_or xs i x ∷ drop n xs) (sym (add-one i)) (drop-cons xs i x low) ∙ ap (λ (y : X). y ∷ drop (i + 1) xs) (sym e)

-- ---- places that stay
pub keys_kept : (old new keys : List Key) → KeepsPlaces old new → HavePlaces old keys → HavePlaces new keys
keys_kept old new [] kept h = tt
keys_kept old new (k ∷ keys) kept h = (kept k h.0, keys_kept old new keys kept h.1)

pub places_kept : (id : List ℕ) (old new : List Key) (pages : List Paged) → KeepsPlaces old new → ArePlaced id old pages → ArePlaced id new pages
places_kept id old new [] kept h = tt
places_kept id old new (q ∷ pages) kept h = ((λ same. keys_kept old new q.keys kept (h.0 same)), places_kept id old new pages kept h.1)

-- ---- places that are made one after the other
module _ (id : List ℕ) where
  pub paged_on : (steps : List Prepared) (i : ℕ) (p : Prepared) (now new : List Key) → drop i steps ≡ p ∷ drop (i + 1) steps → KeepsPlaces now new → ArePlaced id new (paged p.step)
      → ((places : List Key) → KeepsPlaces now places → ArePlaced id places (all_paged (drop i steps)) → ArePlaced id places (all_paged steps))
      → (places : List Key) → KeepsPlaces new places → ArePlaced id places (all_paged (drop (i + 1) steps)) → ArePlaced id places (all_paged steps)
  paged_on steps i p now new e kept there f places more rest =
      f places (λ k h. more k (kept k h)) (subst (λ xs. ArePlaced id places (all_paged xs)) (sym e) (all_append (IsPlaced id places) (paged p.step) (all_paged (drop (i + 1) steps)) (places_kept id new places (paged p.step) more there) rest))

  pub paged_past : (places : List Key) (steps : List Prepared) (i : ℕ) → length steps ≤ i → ArePlaced id places (all_paged (drop i steps))
  paged_past places [] zero le = tt
  paged_past places [] (suc i) le = tt
  paged_past places (p ∷ steps) zero le = absurd (omega (arith, le))
  paged_past places (p ∷ steps) (suc i) le = paged_past places steps i (omega (arith, le))

  pub pages_on : (entries : List Entry) (i : ℕ) (x : Entry) (now new : List Key) → drop i entries ≡ x ∷ drop (i + 1) entries → KeepsPlaces now new → ArePlaced id new (page_of x.kind)
      → ((places : List Key) → KeepsPlaces now places → ArePlaced id places (pages_of (drop i entries)) → ArePlaced id places (pages_of entries))
      → (places : List Key) → KeepsPlaces new places → ArePlaced id places (pages_of (drop (i + 1) entries)) → ArePlaced id places (pages_of entries)
  pages_on entries i x now new e kept there f places more rest =
      f places (λ k h. more k (kept k h)) (subst (λ xs. ArePlaced id places (pages_of xs)) (sym e) (all_append (IsPlaced id places) (page_of x.kind) (pages_of (drop (i + 1) entries)) (places_kept id new places (page_of x.kind) more there) rest))

  pub pages_past : (places : List Key) (entries : List Entry) (i : ℕ) → length entries ≤ i → ArePlaced id places (pages_of (drop i entries))
  pages_past places [] zero le = tt
  pages_past places [] (suc i) le = tt
  pages_past places (x ∷ entries) zero le = absurd (omega (arith, le))
  pages_past places (x ∷ entries) (suc i) le = pages_past places entries i (omega (arith, le))

pub keys_on : (page : List Row) (i : ℕ) (r : Row) (now new : List Key) → drop i page ≡ r ∷ drop (i + 1) page → KeepsPlaces now new → IsTrue (has_place new (row_key r))
    → ((places : List Key) → KeepsPlaces now places → HavePlaces places (map row_key (drop i page)) → HavePlaces places (map row_key page))
    → (places : List Key) → KeepsPlaces new places → HavePlaces places (map row_key (drop (i + 1) page)) → HavePlaces places (map row_key page)
keys_on page i r now new e kept there f places more rest = f places (λ k h. more k (kept k h)) (subst (λ xs. HavePlaces places (map row_key xs)) (sym e) (more (row_key r) there, rest))

pub keys_past : (places : List Key) (page : List Row) (i : ℕ) → length page ≤ i → HavePlaces places (map row_key (drop i page))
keys_past places [] zero le = tt
keys_past places [] (suc i) le = tt
keys_past places (r ∷ page) zero le = absurd (omega (arith, le))
keys_past places (r ∷ page) (suc i) le = keys_past places page i (omega (arith, le))
