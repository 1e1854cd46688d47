-- A finished checkpoint has as many Pages as its changed keys fill.
use Rattle.std.proofs.Common.{◌≡◌, ℕ, ◌+◌, ◌-◌, ◌*◌, ◌/◌, ◌<◌, ◌≤◌, zero, suc, List, [], ◌∷◌, length, map, take, drop, Option, Some, None, arith, refl, sym, ap, ◌∙◌, subst, inl, inr, ◌⊎◌, length-drop}
use Rattle.std.specs.Prelude.{IfSome}
use Rattle.std.specs.List.{filter}
use Rattle.std.proofs.lemmas.List.{drop-drop}
use Rattle.std.proofs.lemmas.Nat.{div_below, le-div}
use Rattle.tf_history.specs.Grouping.{row_of}
use Rattle.tf_history.specs.Lives.{Checkpoint, Life, changed, window, from_sources, documents, counted_last, last_key}
use Rattle.tf_model.specs.Changed.{is_after}
use Rattle.tf_history.specs.Legality.{IsRight}
use Rattle.tf_history.specs.Laws.{PagesAreExact}
use Rattle.tf_history.proofs.Keys.{ascending-all_keys, above_page, last_of}
use Rattle.tf_history.proofs.Rows.{keys_in, keys_from, last_key-keys}
use Rattle.tf_history.proofs.Counting.{keyed}
use Rattle.tf_history.proofs.RowsLaw.{filled}
use Rattle.tf_history.proofs.Induction.{IsKept, holds, right_known}
use Rattle.tf_history.specs.Events.{Event}
use Rattle.tf_history.specs.Meaning.{Meaning, row_key}
use Rattle.tf_model.specs.declared.doc.Doc.{Doc}
use Rattle.tf_model.specs.declared.entry.Row.{Row}
use Rattle.tf_model.specs.declared.value.Key.{Key}

-- the newest checkpoint's keys, the Pages so far, and what is left
record Paging (keys : List Key) (size pages : ℕ) (position : Option Key) : Type 0 where
  left : filter (is_after position) keys ≡ drop (pages * size) keys
  room : pages * size < length keys + size

record Paged (keys : List Key) (size pages : ℕ) : Type 0 where
  enough : length keys ≤ pages * size
  room : pages * size < length keys + size

abbrev Phase : Meaning → List Checkpoint → ℕ → ℕ → Option Key → Type 0
Phase c [] finished pages position = finished ≡ 0
Phase c (b ∷ before) finished pages position = ((finished ≡ length (b ∷ before)) × Paged (changed c (b ∷ before)) c.page_size pages) ⊎ ((finished ≡ length before) × Paging (changed c (b ∷ before)) c.page_size pages position)

abbrev PagesHold : List Event → Life → Type 0
PagesHold past l = 0 < l.meaning.page_size → Phase l.meaning l.checkpoints l.finished l.pages l.position

all_pass : (keys : List Key) → filter (is_after None) keys ≡ keys
all_pass [] = refl
all_pass (k ∷ keys) = ap (λ ks. k ∷ ks) (all_pass keys)

begun : (c : Meaning) (b : Checkpoint) (checkpoints : List Checkpoint) (finished : ℕ) → 0 < c.page_size → finished ≡ length checkpoints
    → Phase c (b ∷ checkpoints) finished 0 None
begun c b checkpoints finished size idle = inr (idle, let none : 0 ≡ 0 * c.page_size = omega arith in record { left = all_pass (changed c (b ∷ checkpoints)) ∙ ap (λ n. drop n (changed c (b ∷ checkpoints))) none; room = omega arith })

-- something is left where a page of it has a row
left_some : (n size : ℕ) (keys : List Key) (page : List Row) → 0 < length page → keys_in page ≡ take size (drop n keys) → n < length keys
left_some n size [] page some e = absurd (none size n page some e)
  where
    empty : (m k : ℕ) → ◌≡◌ {A = List Key} (take m (drop k [])) []
    empty zero k = refl
    empty (suc m) zero = refl
    empty (suc m) (suc k) = refl

    none : (m k : ℕ) (rows : List Row) → 0 < length rows → keys_in rows ≡ take m (drop k []) → ⊥
    none m k [] h f = omega arith
    none m k (r ∷ rows) h f = let z : ◌≡◌ {A = List Key} ((row_key r) ∷ keys_in rows) [] = f ∙ empty m k in cc
left_some zero size (k ∷ keys) page some e = omega arith
left_some (suc n) size (k ∷ keys) page some e = let h : n < length keys = left_some n size keys page some e in omega arith

paging : (c : Meaning) (checkpoints : List Checkpoint) (page : List Row) (pages : ℕ) (position : Option Key) → 0 < length page
    → map Some page ≡ map (row_of c (counted_last c checkpoints)) (take c.page_size (filter (is_after position) (changed c checkpoints)))
    → Paging (changed c checkpoints) c.page_size pages position → Paging (changed c checkpoints) c.page_size (pages + 1) (last_key page)
paging c checkpoints page pages position some right p = at_last (last_key page) refl
  where
    docs : List Doc
    docs = counted_last c checkpoints

    page_keys : keys_in page ≡ take c.page_size (filter (is_after position) (changed c checkpoints))
    page_keys = keys_from (row_of c (counted_last c checkpoints)) (keyed c (counted_last c checkpoints)) page (take c.page_size (filter (is_after position) (changed c checkpoints))) right

    at_last : (o : Option Key) → last_key page ≡ o → Paging (changed c checkpoints) c.page_size (pages + 1) o
    at_last None e = absurd (filled page some e)
    at_last (Some last) e =
        let end : last_of (take c.page_size (filter (is_after position) (changed c checkpoints))) ≡ Some last = ap last_of (sym page_keys) ∙ (sym (last_key-keys page) ∙ e) in
        let more : pages * c.page_size < length (changed c checkpoints) = left_some (pages * c.page_size) c.page_size (changed c checkpoints) page some (page_keys ∙ ap (take c.page_size) p.left) in
        let next : pages * c.page_size + c.page_size ≡ (pages + 1) * c.page_size = omega arith in
        record {
          left = above_page (changed c checkpoints) position c.page_size last (ascending-all_keys c (window c checkpoints)) end
              ∙ (ap (drop c.page_size) p.left ∙ (drop-drop c.page_size (pages * c.page_size) (changed c checkpoints) ∙ ap (λ n. drop n (changed c checkpoints)) next));
          room = omega arith;
        }

paged : (c : Meaning) (checkpoints : List Checkpoint) (n finished pages : ℕ) (page : List Row) (position : Option Key) → n ≡ finished + 1
    → n ≡ length checkpoints → 0 < length page
    → map Some page ≡ map (row_of c (counted_last c checkpoints)) (take c.page_size (filter (is_after position) (changed c checkpoints)))
    → Phase c checkpoints finished pages position → Phase c checkpoints finished (pages + 1) (last_key page)
paged c [] n finished pages page position m k some right h = absurd (omega arith)
paged c (b ∷ before) n finished pages page position m k some right h =
    elim h [ inl i ↦ absurd (let z = i.0 in omega arith) | inr r ↦ inr (r.0, paging c (b ∷ before) page pages position some right r.1) ]

dropped : (n : ℕ) (keys : List Key) → drop n keys ≡ [] → length keys ≤ n
dropped n keys e = omega (arith, length-drop n keys, ap length e)

done : (c : Meaning) (checkpoints : List Checkpoint) (n finished pages : ℕ) (position : Option Key) → n ≡ finished + 1 → n ≡ length checkpoints
    → filter (is_after position) (changed c checkpoints) ≡ [] → Phase c checkpoints finished pages position → Phase c checkpoints n pages position
done c [] n finished pages position m k none h = absurd (omega arith)
done c (b ∷ before) n finished pages position m k none h =
    inl (k, elim h [ inl i ↦ absurd (let z = i.0 in omega arith) | inr r ↦ record { enough = dropped (pages * c.page_size) (changed c (b ∷ before)) (sym r.1.left ∙ none); room = r.1.room } ])

kept : IsKept IsRight PagesHold
kept = record {
  opened = λ past moment deed c size. refl;
  aside = λ past moment deed l legal none h. h;
  turned = λ past moment deed turn l legal none h. h;
  wrote = λ past moment d l legal h. h;
  begun = λ past moment id n bound l legal m h size. begun l.meaning (record { bound = bound; moment = moment; read = from_sources l.meaning (documents past); late = l.late }) l.checkpoints l.finished size m.idle;
  paged = λ past moment id n rows l legal m r h size. paged l.meaning l.checkpoints n l.finished l.pages rows l.position m.running.0 m.running.1 r.some r.same (h size);
  done = λ past moment id n l legal m h size. done l.meaning l.checkpoints n l.finished l.pages l.position m.running.0 m.running.1 m.nothing_left (h size);
}

rounded_up : (n size pages : ℕ) → 0 < size → n ≤ pages * size → pages * size < n + size → pages ≡ (n + (size - 1)) / size
rounded_up n size pages some enough room =
    let low : pages ≤ (n + (size - 1)) / size = le-div pages (n + (size - 1)) size some (omega arith) in
    let high : (n + (size - 1)) / size < pages + 1 = div_below (n + (size - 1)) size (pages + 1) some (omega arith) in
    omega arith

exact : (c : Meaning) (checkpoints : List Checkpoint) (finished pages : ℕ) (position : Option Key) → 0 < c.page_size → 0 < finished
    → finished ≡ length checkpoints → Phase c checkpoints finished pages position
    → pages ≡ (length (changed c checkpoints) + (c.page_size - 1)) / c.page_size
exact c [] finished pages position size some idle h = absurd (omega arith)
exact c (b ∷ before) finished pages position size some idle h =
    elim h [ inl i ↦ rounded_up (length (changed c (b ∷ before))) c.page_size pages size i.1.enough i.1.room | inr r ↦ absurd (let z = r.0 in omega arith) ]

pub pages_are_exact : PagesAreExact
pages_are_exact past t l sound idle some size =
    exact l.meaning l.checkpoints l.finished l.pages l.position size some idle (subst (λ o. IfSome o (PagesHold past)) sound.is (holds IsRight PagesHold kept t past sound.legal (right_known t past sound.right)) size)
