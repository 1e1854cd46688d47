-- Prepared entries that are applied one after the other.
use Rattle.std.proofs.Common.{◌≡◌, ℕ, zero, suc, ◌+◌, ◌^◌, ◌<◌, ◌≤◌, Bool, true, false, cond, List, [], ◌∷◌, ◌++◌, length, map, reverse, get_or, arith, refl, sym, ap, ◌∙◌, subst, append-nil, length-append}
use Rattle.std.specs.Prelude.{slice_set, vec_len, vec_capacity}
use Rattle.std.specs.Arc.{arc_value}
use Rattle.std.specs.Global.{Vec}
use Rattle.std.specs.List.{AllByRecursion, filter}
use Rattle.std.specs.declared.sync.Arc.{Arc}
use Rattle.std.specs.declared.alloc.Global.{Global}
use Rattle.std.proofs.lemmas.List.{reverse-append, length-reverse, map-append}
use Rattle.tf_model.specs.declared.doc.Doc.{Doc}
use Rattle.tf_model.specs.declared.entry.Entry.{Entry}
use Rattle.tf_history.specs.Catalogue.{SourceIndex}
use Rattle.tf_history.specs.Lives.{is_same}
use Rattle.tf_history.specs.Transforms.{PutTransform}
use Rattle.tf_core.specs.declared.kept.Kept.{Kept}
use Rattle.tf_core.specs.declared.ready.Change.{Change}
use Rattle.tf_core.specs.declared.ready.Change.TheVariants as change
use Rattle.tf_core.specs.declared.ready.Prepared.{Prepared}
use Rattle.tf_core.specs.declared.ready.Step.{Step}
use Rattle.tf_core.specs.declared.ready.Step.TheVariants as step
use Rattle.tf_core.specs.declared.transform.Transform.{Transform}
use Rattle.tf_core.specs.Chain.{ArePlaced, AreSteps, HasRowRoom, IsPlaced, Paged, PutHas, all_paged, entries_in, index_count, doc_count, paged, paged_by, put_count, puts}
use Rattle.tf_core.specs.Ids.{all_docs}
use Rattle.tf_core.specs.Kept.{entry_of, past_in}
use Rattle.tf_core.specs.Late.{after_write}
use Rattle.tf_core.specs.Legal.{AreTaken}
use Rattle.tf_core.specs.Rooms.{CanChange, CanStep}
use Rattle.tf_core.specs.Standing.{Applied, IsReady, Stands, shared}
use Rattle.tf_core.specs.Steps.{Changed, IsSmall, Stepped, added, docs_of}
use Rattle.tf_core.specs.Summary.{IsFew}
use Rattle.tf_core.specs.Table.{is_other, place_in}
use Rattle.tf_core.proofs.Changes.{put_stays}
use Rattle.tf_core.proofs.RowRoom.{all_behind, all_front}
use Rattle.tf_core.proofs.StandsMore.{IsThere, stands_more, step_there}
use Rattle.tf_core.proofs.Tables.{all_filter, all_map, all_set, all_weaker, at_place, same_itself}

pub past_more : (entries : List Kept) (k : Kept) → past_in (entries ++ k ∷ []) ≡ entry_of k ∷ past_in entries
past_more entries k = ap reverse (map-append entry_of entries (k ∷ [])) ∙ reverse-append (map entry_of entries) (entry_of k ∷ [])

length_map : (entries : List Kept) → length (map entry_of entries) ≡ length entries
length_map [] = refl
length_map (x ∷ entries) = ap suc (length_map entries)

pub length_past : (entries : List Kept) → length (past_in entries) ≡ length entries
length_past entries = length-reverse (map entry_of entries) ∙ length_map entries

history_push : (entries : List Kept) (k : Kept) (rest : List Entry) → map entry_of (entries ++ k ∷ []) ++ rest ≡ map entry_of entries ++ entry_of k ∷ rest
history_push [] k rest = refl
history_push (x ∷ entries) k rest = ap (λ es. entry_of x ∷ es) (history_push entries k rest)

pub history_next : (es es' : List Kept) (p : Prepared) (rest : List Prepared) → es' ≡ es ++ p.kept ∷ [] → map entry_of es' ++ entries_in rest ≡ map entry_of es ++ entries_in (p ∷ rest)
history_next es es' p rest e = ap (λ xs. map entry_of xs ++ entries_in rest) e ∙ history_push es p.kept (entries_in rest)

append_assoc : {X : Type 0} (xs ys zs : List X) → (xs ++ ys) ++ zs ≡ xs ++ (ys ++ zs)
append_assoc [] ys zs = refl
append_assoc (x ∷ xs) ys zs = ap (λ ws. x ∷ ws) (append_assoc xs ys zs)

pub docs_next : (docs docs' : List Doc) (p : Prepared) (rest : List Prepared) → docs' ≡ docs ++ docs_of p.step → docs' ++ all_docs rest ≡ docs ++ all_docs (p ∷ rest)
docs_next docs docs' p rest e = ap (λ ds. ds ++ all_docs rest) e ∙ append_assoc docs (docs_of p.step) (all_docs rest)

-- ---- counters
small_of : (n : ℕ) → n < 2 ^ 63 → (t : Transform) → IsFew n t → IsSmall t
small_of n low t h = record {
  late = omega (arith, h.late, low);
  pages = omega (arith, h.pages, low);
  processed = omega (arith, h.processed, low);
  indexed = omega (arith, h.indexed, low);
}

pub few_entries : (entries : Vec Kept) → length (past_in entries.items) < 2 ^ 63
few_entries entries = omega (arith, length_past entries.items, entries.ok.0, entries.ok.1, entries.small)

pub all_small : (entries : Vec Kept) (indices : List SourceIndex) (docs : List Doc) (ts : List Transform) → Stands (past_in entries.items) indices docs ts → AllByRecursion IsSmall ts
all_small entries indices docs ts stands =
    all_weaker (IsFew (length (past_in entries.items))) IsSmall (small_of (length (past_in entries.items)) (few_entries entries)) ts stands.few

-- ---- room for rows
fewer : (p : Prepared) (steps : List Prepared) (t : Transform) → HasRowRoom (all_paged (p ∷ steps)) t → HasRowRoom (all_paged steps) t
fewer p steps t h = all_behind (IsPlaced t.id t.rows.places) (paged p.step) (all_paged steps) h

room_at : (pages : List Paged) (ts : List Transform) (i : ℕ) (x : Transform) → i < length ts → AllByRecursion (HasRowRoom pages) ts → HasRowRoom pages (get_or ts i x)
room_at pages [] i x low h = absurd (omega (arith, low))
room_at pages (t ∷ ts) zero x low h = h.0
room_at pages (t ∷ ts) (suc i) x low h = room_at pages ts i x (omega (arith, low)) h.1

-- a change leaves the places
changed_room : (w : ℕ) (by : Change) (pages : List Paged) (old new : Transform) → Changed w by old new → HasRowRoom pages old → HasRowRoom pages new
changed_room w by pages old new c h =
    let same : new.id ≡ old.id = ap (λ (q : PutTransform). q.id) (put_stays w by old new c) in
    subst (λ id. ArePlaced id new.rows.places pages) (sym same) (subst (λ places. ArePlaced old.id places pages) (sym c.places) h)

rooms_next : (w : ℕ) (p : Prepared) (steps : List Prepared) (s : Step) (old new : List Transform) → IsThere s old → PutHas (all_paged steps) s → Stepped w s old new → AllByRecursion (HasRowRoom (all_paged (p ∷ steps))) old
    → AllByRecursion (HasRowRoom (all_paged steps)) new
rooms_next w p steps (step.Index index) old new there put h rooms = subst (AllByRecursion (HasRowRoom (all_paged steps))) (sym h) (all_weaker (HasRowRoom (all_paged (p ∷ steps))) (HasRowRoom (all_paged steps)) (fewer p steps) old rooms)
rooms_next w p steps (step.Write doc) old new there put h rooms =
    subst (AllByRecursion (HasRowRoom (all_paged steps))) (sym h) (all_map (HasRowRoom (all_paged (p ∷ steps))) (HasRowRoom (all_paged steps)) (after_write (arc_value doc)) (fewer p steps) old rooms)
rooms_next w p steps (step.Put t) old new there put h rooms = subst (AllByRecursion (HasRowRoom (all_paged steps))) (sym h) (put, all_weaker (HasRowRoom (all_paged (p ∷ steps))) (HasRowRoom (all_paged steps)) (fewer p steps) old rooms)
rooms_next w p steps (step.Delete id) old new there put h rooms =
    subst (AllByRecursion (HasRowRoom (all_paged steps))) (sym h) (all_filter (HasRowRoom (all_paged steps)) (is_other id) old (all_weaker (HasRowRoom (all_paged (p ∷ steps))) (HasRowRoom (all_paged steps)) (fewer p steps) old rooms))
rooms_next w p steps (step.Change id by) old new there put h rooms =
    let less = all_weaker (HasRowRoom (all_paged (p ∷ steps))) (HasRowRoom (all_paged steps)) (fewer p steps) old rooms in
    subst (AllByRecursion (HasRowRoom (all_paged steps))) (sym h.set)
    (all_set (HasRowRoom (all_paged steps)) old (place_in id old) h.now (changed_room w by (all_paged steps) (get_or old (place_in id old) h.now) h.now h.changed (room_at (all_paged steps) old (place_in id old) h.now there less)) less)

-- ---- the next entry
module _ (entries : Vec Kept) (indices : Vec SourceIndex) (docs : Vec (Arc Doc Global)) (ts : Vec Transform) (p : Prepared) (rest : List Prepared)
    (stands : Stands (past_in entries.items) indices.items (shared docs.items) ts.items) (ready : IsReady entries indices docs ts (p ∷ rest)) where
  there : IsThere p.step ts.items
  there = step_there (past_in entries.items) (entry_of p.kept) indices.items (shared docs.items) ts.items stands ready.taken.0 p.step ready.chain.0

  can_change : (id : List ℕ) (by : Change) (t : Transform) → t.id ≡ id → ArePlaced t.id t.rows.places (paged_by id by) → CanChange by t
  can_change id change.Start t named h = tt
  can_change id (change.AskStop wait) t named h = tt
  can_change id change.Stop t named h = tt
  can_change id change.Prompt t named h = tt
  can_change id (change.Fail reason) t named h = tt
  can_change id (change.Begin n bound at_ms) t named h = tt
  can_change id (change.Page n rows position) t named h = h.0 (ap (λ other. is_same t.id other) (sym named) ∙ same_itself t.id)
  can_change id (change.Finish n) t named h = tt
  can_change id change.Reset t named h = tt

  row_room : (id : List ℕ) (by : Change) (d : Transform) → p.step ≡ step.Change id by → place_in id ts.items < length ts.items → CanChange by (get_or ts.items (place_in id ts.items) d)
  row_room id by d is low =
      let t : Transform = get_or ts.items (place_in id ts.items) d in
      let room : HasRowRoom (all_paged (p ∷ rest)) t = room_at (all_paged (p ∷ rest)) ts.items (place_in id ts.items) d low ready.room.rows in
      let page : ArePlaced t.id t.rows.places (paged p.step) = all_front (IsPlaced t.id t.rows.places) (paged p.step) (all_paged rest) room in
      can_change id by t (at_place id ts.items d low).1 (subst (λ s. ArePlaced t.id t.rows.places (paged s)) is page)

  by_step : (s : Step) → p.step ≡ s → IsThere s ts.items → vec_len indices + (length (added s) + index_count rest) ≤ vec_capacity indices → vec_len docs + (length (docs_of s) + doc_count rest) ≤ vec_capacity docs
      → vec_len ts + (puts s + put_count rest) ≤ vec_capacity ts → CanStep s indices docs ts
  by_step (step.Index index) is low i d t = omega (arith, i)
  by_step (step.Write doc) is low i d t = omega (arith, d)
  by_step (step.Put x) is low i d t = omega (arith, t)
  by_step (step.Delete id) is low i d t = tt
  by_step (step.Change id by) is low i d t = (low, λ x. row_room id by x is low)

  pub can_step : CanStep p.step indices docs ts
  can_step = by_step p.step refl there ready.room.indices ready.room.docs ready.room.transforms

  module _ (entries' : Vec Kept) (indices' : Vec SourceIndex) (docs' : Vec (Arc Doc Global)) (ts' : Vec Transform) (h : Applied p entries entries' indices indices' docs docs' ts ts') where
    pub past_is : past_in entries'.items ≡ entry_of p.kept ∷ past_in entries.items
    past_is = ap past_in h.entries ∙ past_more entries.items p.kept

    length_shared : (ds : List (Arc Doc Global)) → length (shared ds) ≡ length ds
    length_shared [] = refl
    length_shared (d ∷ ds) = ap suc (length_shared ds)

    stepped : Stepped (length (shared docs.items)) p.step ts.items ts'.items
    stepped = subst (λ n. Stepped n p.step ts.items ts'.items) (sym (length_shared docs.items)) h.transforms

    pub next_stands : Stands (past_in entries'.items) indices'.items (shared docs'.items) ts'.items
    next_stands = subst (λ past. Stands past indices'.items (shared docs'.items) ts'.items) (sym past_is)
        (stands_more (past_in entries.items) (entry_of p.kept) indices.items (shared docs.items) ts.items stands ready.taken.0 p.step ready.chain.0 indices'.items (shared docs'.items) ts'.items h.indices h.docs stepped)

    len_entries : vec_len entries' ≡ vec_len entries + 1
    len_entries = omega (arith, entries.ok.0, entries'.ok.0, ap length h.entries, length-append entries.items (p.kept ∷ []))

    len_indices : vec_len indices' ≡ vec_len indices + length (added p.step)
    len_indices = omega (arith, indices.ok.0, indices'.ok.0, ap length h.indices, length-append indices.items (added p.step))

    len_docs : vec_len docs' ≡ vec_len docs + length (docs_of p.step)
    len_docs = omega (arith, docs.ok.0, docs'.ok.0, ap length h.docs, length-append (shared docs.items) (docs_of p.step), length_shared docs.items, length_shared docs'.items)

    length_map_late : (f : Transform → Transform) (xs : List Transform) → length (map f xs) ≡ length xs
    length_map_late f [] = refl
    length_map_late f (x ∷ xs) = ap suc (length_map_late f xs)

    length_filter : (f : Transform → Bool) (xs : List Transform) → length (filter f xs) ≤ length xs
    length_filter f [] = omega arith
    length_filter f (x ∷ xs) = elim (f x) as (λ b. length (cond b (x ∷ filter f xs) (filter f xs)) ≤ length (x ∷ xs)) [ true ↦ omega (arith, length_filter f xs) | false ↦ omega (arith, length_filter f xs) ]

    length_set : (xs : List Transform) (i : ℕ) (x : Transform) → length (slice_set xs i x) ≡ length xs
    length_set [] i x = refl
    length_set (y ∷ xs) zero x = refl
    length_set (y ∷ xs) (suc i) x = ap suc (length_set xs i x)

    long : (w : ℕ) (s : Step) (old new : List Transform) → Stepped w s old new → length new ≤ length old + puts s
    long w (step.Index index) old new e = omega (arith, ap length e)
    long w (step.Write doc) old new e = omega (arith, ap length e, length_map_late (after_write (arc_value doc)) old)
    long w (step.Put t) old new e = omega (arith, ap length e)
    long w (step.Delete id) old new e = omega (arith, ap length e, length_filter (is_other id) old)
    long w (step.Change id by) old new e = omega (arith, ap length e.set, length_set old (place_in id old) e.now)

    len_transforms : vec_len ts' ≤ vec_len ts + puts p.step
    len_transforms = omega (arith, ts.ok.0, ts'.ok.0, long (length docs.items) p.step ts.items ts'.items h.transforms)

    pub next_ready : IsReady entries' indices' docs' ts' rest
    next_ready = record {
      taken = subst (λ past. AreTaken past (entries_in rest)) (sym past_is) ready.taken.1;
      chain = subst (λ ss. AreSteps ss rest) (sym h.indices) ready.chain.1;
      room = record {
        entries = omega (arith, ready.room.entries, len_entries, h.entry_room);
        indices = omega (arith, ready.room.indices, len_indices, h.index_room);
        docs = omega (arith, ready.room.docs, len_docs, h.doc_room);
        transforms = omega (arith, ready.room.transforms, len_transforms, h.transform_room);
        rows = rooms_next (length docs.items) p rest p.step ts.items ts'.items there (subst (λ pages. PutHas pages p.step) (append-nil (all_paged rest)) ready.room.put_rows.0) h.transforms ready.room.rows;
        put_rows = ready.room.put_rows.1;
      };
    }
