-- Documents of a bulk, as they are tried one after the other.
use Rattle.std.proofs.Common.{◌≡◌, ℕ, zero, suc, ◌+◌, ◌<◌, ◌^◌, ℤ, Bool, true, false, cond, ◌&&◌, List, [], ◌∷◌, ◌++◌, drop, length, map, Option, Some, None, arith, refl, sym, ap, ◌∙◌, subst, append_assoc, append-nil}
use Rattle.std.specs.Prelude.{Result, Ok, Err, int_le, nat_eq, option_map, slice_get, slice_set, count_by}
use Rattle.std.specs.BTreeMap.{get}
use Rattle.std.specs.Cmp.Lexicographic.{slice_cmp}
use Rattle.std.specs.List.{AllByRecursion, find}
use Rattle.std.specs.Ordering.{nat_cmp}
use Rattle.std.specs.Str.{bytes_eq}
use Rattle.std.specs.Cmp.Derive.{both_true}
use Rattle.std.proofs.lemmas.Bool.{eqb-true}
use Rattle.std.proofs.lemmas.Slice.Eq.{bytes_eq-Decides}
use Rattle.std.proofs.lemmas.List.{reverse-append}
use Rattle.std.proofs.lemmas.List.Sums.{sum_by-append}
use Rattle.tf_model.specs.declared.doc.Doc.{Doc}
use Rattle.tf_model.specs.declared.entry.Entry.{Entry}
use Rattle.tf_model.specs.declared.entry.Kind.TheVariants as kind
use Rattle.tf_model.specs.declared.tree.Tree.{Tree}
use Rattle.tf_reply.specs.declared.faults.Refusal.{Refusal}
use Rattle.tf_reply.specs.declared.replies.Item.{Item}
use Rattle.tf_history.specs.Catalogue.{SourceIndex, catalogue, makes, written_doc}
use Rattle.tf_history.specs.LegalEntries.{has_id, is_in_shard}
use Rattle.tf_history.specs.Lives.{documents as written, writes}
use Rattle.tf_history.specs.Reading.{deed_of}
use Rattle.tf_mapping.specs.Documents.{reading, values_of}
use Rattle.tf_mapping.specs.Routes.{shard_of}
use Rattle.tf_core.specs.Legal.{read}
use Rattle.tf_core.specs.Moves.{clamped, last_ms_in, later, moment_after}
use Rattle.tf_decide.specs.declared.batch.Batch.{Batch}
use Rattle.tf_decide.specs.Asking.{accepted, asked_document, asked_documents, document_by, item_of, kept_tree, next_seq, place_of, placed_by, write_after}
use Rattle.tf_event.specs.Entries.{FitsEntry}
use Rattle.tf_event.specs.declared.grammar.Grammar.TheVariants.{First}
use Rattle.std.proofs.lemmas.Option.{slice_get_within}
use Rattle.tf_decide.specs.Bulk.{AreCounts, AreOf, Grows, IsAdded, IsBatch, IsPlaced, IsTried, added, count_or, next_tried, past_with, place_among, place_or}
use Rattle.tf_decide.specs.Ready.{IsReadyDocument}
use Rattle.tf_decide.proofs.AskedTaken.{passed}
use Rattle.tf_decide.specs.Documents.{document_tried}

-- ---- lists
drop_front : {X : Type 0} (xs ys : List X) → drop (length xs) (xs ++ ys) ≡ ys
drop_front [] ys = refl
drop_front (x ∷ xs) ys = drop_front xs ys

itself : (n : ℕ) → nat_eq n n ≡ true
itself n = grind arith

get_set : (xs : List ℕ) (n x : ℕ) → n < length xs → slice_get (slice_set xs n x) n ≡ Some x
get_set [] n x low = absurd (omega arith)
get_set (y ∷ xs) zero x low = refl
get_set (y ∷ xs) (suc n) x low = get_set xs n x (omega arith)

get_other : (xs : List ℕ) (n m x : ℕ) → nat_eq m n ≡ false → slice_get (slice_set xs n x) m ≡ slice_get xs m
get_other [] n m x other = refl
get_other (y ∷ xs) zero zero x other = absurd (let z : true ≡ false = other in cc)
get_other (y ∷ xs) zero (suc m) x other = refl
get_other (y ∷ xs) (suc n) zero x other = refl
get_other (y ∷ xs) (suc n) (suc m) x other = get_other xs n m x (grind arith)

second_none : (a b : Option (ℕ × ℕ)) → place_or a b ≡ None → b ≡ None
second_none None b e = e
second_none (Some place) b e = absurd (let z : ◌≡◌ {A = Option (ℕ × ℕ)} None (Some place) = sym e in cc)

-- ---- the next document
find_more : (P : Doc → Bool) (xs ys : List Doc) → option_map place_of (find P (xs ++ ys)) ≡ place_or (option_map place_of (find P xs)) (option_map place_of (find P ys))
find_more P [] ys = refl
find_more P (x ∷ xs) ys =
    elim (P x) as (λ b. option_map place_of (cond b (Some x) (find P (xs ++ ys))) ≡ place_or (option_map place_of (cond b (Some x) (find P xs))) (option_map place_of (find P ys)))
    [ true ↦ refl | false ↦ find_more P xs ys ]

module _ (past now : List Entry) (given : ℤ) (index : ℕ) (s : SourceIndex) (g : Grows past now given) where
  pub place_now : (id : List ℕ) → place_or (place_among (written (read past)) index id) (place_among (added past now) index id) ≡ option_map place_of (find (has_id index id) (written (read now)))
  place_now id = sym (find_more (has_id index id) (written (read past)) (added past now)) ∙ ap (λ docs. option_map place_of (find (has_id index id) docs)) (sym g.docs)

  pub tried_now : (actor : ℕ) (id : List ℕ) (doc : Tree) (shard : ℕ) (place : Option (ℕ × ℕ)) (seq : ℕ) → shard ≡ shard_of id s.shards
      → place ≡ option_map place_of (find (has_id index id) (written (read now))) → seq ≡ next_seq now index shard
      → document_tried past actor given index s shard place seq id doc ≡ asked_document now actor given index s id doc
  tried_now actor id doc shard place seq shard_is place_is seq_is =
      (λ i. document_tried past actor given index s shard (place_is i) (seq_is i) id doc)
      ∙ ((λ i. document_by id (reading s.mapping s.stamp doc) (option_map place_of (find (has_id index id) (written (read now)))) (next_seq now index (shard_is i))
      (write_after past actor given index s (shard_is i) (next_seq now index (shard_is i)) id doc))
      ∙ (λ i. document_by id (reading s.mapping s.stamp doc) (option_map place_of (find (has_id index id) (written (read now)))) (next_seq now index (shard_of id s.shards))
      (record {
        at_ms = sym g.moment i;
        actor = actor;
        kind = kind.Write index (shard_of id s.shards) (next_seq now index (shard_of id s.shards)) id (kept_tree s.stamp (sym g.moment i) doc);
      })))

  -- ---- it is accepted
  later_again : (last c : ℤ) → later (later last c) c ≡ later last c
  later_again last c = by_less (int_le last c) refl
    where
      same : (b : Bool) → cond b c c ≡ c
      same true = refl
      same false = refl

      by_less : (b : Bool) → int_le last c ≡ b → cond (int_le (cond b c last) c) c (cond b c last) ≡ cond b c last
      by_less true e = same (int_le c c)
      by_less false e = ap (λ b. cond b c last) e

  -- by an entry that writes a document
  module _ (e : Entry) (shard seq : ℕ) (id : List ℕ) (tree : Tree) (moment_is : e.at_ms ≡ moment_after now given) (kind_is : e.kind ≡ kind.Write index shard seq id tree) where
    abbrev wrote : Doc
    wrote = written_doc values_of (catalogue now) index shard seq id tree

    docs_now : written (read (e ∷ now)) ≡ written (read now) ++ wrote ∷ []
    docs_now = λ i. written (read now) ++ writes (deed_of values_of (catalogue now) (kind_is i))

    whole_now : written (read (e ∷ now)) ≡ written (read past) ++ (added past now ++ wrote ∷ [])
    whole_now = docs_now ∙ (ap (λ docs. docs ++ wrote ∷ []) g.docs ∙ append_assoc (written (read past)) (added past now) (wrote ∷ []))

    added_now : added past (e ∷ now) ≡ added past now ++ wrote ∷ []
    added_now = ap (drop (length (written (read past)))) whole_now ∙ drop_front (written (read past)) (added past now ++ wrote ∷ [])

    grows_now : Grows past (e ∷ now) given
    grows_now = record {
      indices = (λ i. catalogue now ++ makes (kind_is i)) ∙ (append-nil (catalogue now) ∙ g.indices);
      moment = ap (λ ms. later ms (clamped given)) moment_is ∙ (later_again (last_ms_in now) (clamped given) ∙ g.moment);
      docs = whole_now ∙ ap (λ docs. written (read past) ++ docs) (sym added_now);
    }

    place_or_none : (o : Option (ℕ × ℕ)) → place_or o None ≡ o
    place_or_none None = refl
    place_or_none (Some place) = refl

    behind : (q : List ℕ) (b : Bool) → bytes_eq id q ≡ b → place_among (added past now) index id ≡ None
        → cond b (Some (seq, shard)) (place_among (added past now) index q) ≡ place_or (place_among (added past now) index q) (place_among (wrote ∷ []) index q)
    behind q true same none =
        let name : id ≡ q = (bytes_eq-Decides id q).0 same in
        let has : has_id index q wrote ≡ true = both_true (itself index) ((bytes_eq-Decides q id).1 (sym name)) in
        sym (ap (λ o. place_or o (place_among (wrote ∷ []) index q)) (ap (place_among (added past now) index) (sym name) ∙ none)
        ∙ ap (λ b. option_map place_of (cond b (Some wrote) None)) has)
    behind q false other none =
        let has : has_id index q wrote ≡ false = ap (λ b. nat_eq index index && b) (other_way q other) ∙ and_false (nat_eq index index) in
        sym (ap (λ b. place_or (place_among (added past now) index q) (option_map place_of (cond b (Some wrote) None))) has ∙ place_or_none (place_among (added past now) index q))
      where
        and_false : (b : Bool) → (b && false) ≡ false
        and_false true = refl
        and_false false = refl

        other_way : (q : List ℕ) → bytes_eq id q ≡ false → bytes_eq q id ≡ false
        other_way q e = by (bytes_eq q id) refl
          where
            by : (b : Bool) → bytes_eq q id ≡ b → b ≡ false
            by true f = sym (sym e ∙ (bytes_eq-Decides id q).1 (sym ((bytes_eq-Decides q id).0 f)))
            by false f = refl

    placed_now : (q : List ℕ) → place_among (added past now) index id ≡ None
        → cond (bytes_eq id q) (Some (seq, shard)) (place_among (added past now) index q) ≡ place_among (added past (e ∷ now)) index q
    placed_now q none =
        behind q (bytes_eq id q) refl none
        ∙ (sym (find_more (has_id index q) (added past now) (wrote ∷ [])) ∙ ap (λ docs. place_among docs index q) (sym added_now))

    count_now : (sh : ℕ) → next_seq (e ∷ now) index sh ≡ next_seq now index sh + cond (nat_eq sh shard) 1 0
    count_now sh =
        ap (count_by (is_in_shard index sh)) docs_now
        ∙ (sum_by-append (λ d. cond (is_in_shard index sh d) 1 0) (written (read now)) (wrote ∷ [])
        ∙ ap (λ b. next_seq now index sh + (0 + cond (b && nat_eq sh shard) 1 0)) (itself index)
        ∙ (let f : (n : ℕ) → next_seq now index sh + (0 + n) ≡ next_seq now index sh + n = λ n. omega arith in f (cond (nat_eq sh shard) 1 0)))

    counted_now : (n : ℕ) (counts : List ℕ) → shard < length counts → seq ≡ next_seq now index shard → AreCounts now index n counts → AreCounts (e ∷ now) index n (slice_set counts shard (seq + 1))
    counted_now n counts within seq_is are sh low = by_same (nat_eq sh shard) refl
      where
        by_same : (b : Bool) → nat_eq sh shard ≡ b → slice_get (slice_set counts shard (seq + 1)) sh ≡ Some (next_seq (e ∷ now) index sh)
        by_same true same =
            let at : sh ≡ shard = eqb-true sh shard same in
            ap (slice_get (slice_set counts shard (seq + 1))) at
            ∙ (get_set counts shard (seq + 1) within
            ∙ ap Some (ap (λ m. m + 1) seq_is ∙ sym (ap (next_seq (e ∷ now) index) at ∙ (count_now shard ∙ ap (λ b. next_seq now index shard + cond b 1 0) (itself shard)))))
        by_same false other =
            get_other counts shard sh (seq + 1) other
            ∙ (are sh low ∙ ap Some (let none : next_seq now index sh + 0 ≡ next_seq now index sh = omega arith in sym (count_now sh ∙ (ap (λ b. next_seq now index sh + cond b 1 0) other ∙ none))))

-- a document is accepted
accepted_batch : (past : List Entry) (actor : ℕ) (given : ℤ) (index : ℕ) (s : SourceIndex) (b new : Batch) (id : List ℕ) (doc : Tree) (e : Entry) (shard seq : ℕ) → IsBatch past given index s b
    → asked_document (past_with past b.entries) actor given index s id doc ≡ Ok e → shard ≡ shard_of id s.shards → seq ≡ next_seq (past_with past b.entries) index shard → shard < length b.counts
    → new.entries ≡ b.entries ++ e ∷ [] → ((q : List ℕ) → get (slice_cmp nat_cmp) new.places q ≡ cond (bytes_eq id q) (Some (seq, shard)) (get (slice_cmp nat_cmp) b.places q))
    → new.counts ≡ slice_set b.counts shard (seq + 1) → IsBatch past given index s new
accepted_batch past actor given index s b new id doc e shard seq h is shard_is seq_is within entries places counts =
    let now = past_with past b.entries in
    let p = passed id (reading s.mapping s.stamp doc) (option_map place_of (find (has_id index id) (written (read now)))) (next_seq now index (shard_of id s.shards)) (write_after now actor given index s (shard_of id s.shards) (next_seq now index (shard_of id s.shards)) id doc) e is in
    let tree = kept_tree s.stamp (moment_after now given) doc in
    let moment_is : e.at_ms ≡ moment_after now given = ap (λ (x : Entry). x.at_ms) (sym p.is) in
    let kind_is : e.kind ≡ kind.Write index shard seq id tree =
    ap (λ (x : Entry). x.kind) (sym p.is)
    ∙ ((λ i. kind.Write index (sym shard_is i) (next_seq now index (sym shard_is i)) id tree) ∙ ap (λ n. kind.Write index shard n id tree) (sym seq_is)) in
    let next : e ∷ now ≡ past_with past new.entries = sym (ap (past_with past) entries ∙ ap (λ es. es ++ past) (reverse-append b.entries (e ∷ []))) in
    let grows = grows_now past now given index s h.grows e shard seq id tree moment_is kind_is in
    let new_id : place_among (added past now) index id ≡ None = second_none _ _ (place_now past now given index s h.grows id ∙ p.new) in
    record {
      grows = subst (λ n. Grows past n given) next grows;
      placed = λ q. places q
          ∙ (ap (λ o. cond (bytes_eq id q) (Some (seq, shard)) o) (h.placed q)
          ∙ (placed_now past now given index s h.grows e shard seq id tree moment_is kind_is q new_id ∙ ap (λ n. place_among (added past n) index q) next));
      counted = subst (AreCounts (past_with past new.entries) index s.shards) (sym counts)
          (subst (λ n. AreCounts n index s.shards (slice_set b.counts shard (seq + 1))) next
          (counted_now past now given index s h.grows e shard seq id tree moment_is kind_is s.shards b.counts within seq_is h.counted));
    }

-- one is refused
refused_batch : (past : List Entry) (given : ℤ) (index : ℕ) (s : SourceIndex) (b new : Batch) → IsBatch past given index s b → new.entries ≡ b.entries → new.places ≡ b.places → new.counts ≡ b.counts
    → IsBatch past given index s new
refused_batch past given index s b new h entries places counts =
    subst (λ es. AreOf past given index s es new.places new.counts) (sym entries)
    (subst (λ ps. AreOf past given index s b.entries ps new.counts) (sym places) (subst (λ cs. AreOf past given index s b.entries b.places cs) (sym counts) h))

-- one more is tried
pub added_batch : (past : List Entry) (actor : ℕ) (given : ℤ) (index : ℕ) (s : SourceIndex) (b new : Batch) (id : List ℕ) (doc : Tree) (r : Result Entry Refusal) (shard seq : ℕ) → IsBatch past given index s b
    → r ≡ next_tried past actor given index s b id doc → shard ≡ shard_of id s.shards → shard < s.shards → seq ≡ count_or (slice_get b.counts shard) → IsTried r b new → IsAdded r id shard seq b new
    → IsBatch past given index s new
added_batch past actor given index s b new id doc (Ok e) shard seq h is shard_is low seq_is tried kept =
    accepted_batch past actor given index s b new id doc e shard seq h (sym is) shard_is (seq_is ∙ ap count_or (h.counted shard low)) (slice_get_within b.counts shard _ (h.counted shard low))
    tried.entries kept.0 kept.1
added_batch past actor given index s b new id doc (Err refusal) shard seq h is shard_is low seq_is tried kept =
    refused_batch past given index s b new h (tried.entries ∙ append-nil b.entries) kept.0 kept.1

pub next_placed : (past : List Entry) (actor : ℕ) (given : ℤ) (index : ℕ) (s : SourceIndex) (b : Batch) (id : List ℕ) (doc : Tree) (r : Result Entry Refusal) (shard seq : ℕ) → IsBatch past given index s b
    → r ≡ next_tried past actor given index s b id doc → shard ≡ shard_of id s.shards → shard < s.shards → seq ≡ count_or (slice_get b.counts shard) → IsPlaced r shard seq b
next_placed past actor given index s b id doc (Err refusal) shard seq h is shard_is low seq_is = tt
next_placed past actor given index s b id doc (Ok e) shard seq h is shard_is low seq_is =
    let now = past_with past b.entries in
    let sh = shard_of id s.shards in
    let p = passed id (reading s.mapping s.stamp doc) (option_map place_of (find (has_id index id) (written (read now)))) (next_seq now index sh) (write_after now actor given index s sh (next_seq now index sh) id doc) e (sym is) in
    let here : seq ≡ next_seq now index sh = seq_is ∙ (ap count_or (h.counted shard low) ∙ ap (next_seq now index) shard_is) in (
      slice_get_within b.counts shard _ (h.counted shard low),
      subst (λ n. n < 2 ^ 31) (sym here) p.room,
      ap (λ (x : Entry). placed_by x.kind) (sym p.is) ∙ (λ i. (sym here i, sym shard_is i)),
    )

-- what the look-ups of a bulk say
pub next_is : (past : List Entry) (actor : ℕ) (given : ℤ) (index : ℕ) (s : SourceIndex) (b : Batch) (id : List ℕ) (doc : Tree) (shard seq : ℕ) (place : Option (ℕ × ℕ)) → IsBatch past given index s b
    → shard ≡ shard_of id s.shards → shard < s.shards → seq ≡ count_or (slice_get b.counts shard)
    → place ≡ place_or (place_among (written (read past)) index id) (get (slice_cmp nat_cmp) b.places id)
    → document_tried past actor given index s shard place seq id doc ≡ next_tried past actor given index s b id doc
next_is past actor given index s b id doc shard seq place h shard_is low seq_is place_is =
    let now = past_with past b.entries in
    tried_now past now given index s h.grows actor id doc shard place seq shard_is
    (place_is ∙ (ap (place_or (place_among (written (read past)) index id)) (h.placed id) ∙ place_now past now given index s h.grows id))
    (seq_is ∙ ap count_or (h.counted shard low))

-- ---- all of them
pub spelled_more : (past : List Entry) (entries : List Entry) (r : Result Entry Refusal) → AllByRecursion (FitsEntry First) entries → IsReadyDocument past r → AllByRecursion (FitsEntry First) (entries ++ accepted (r ∷ []))
spelled_more past [] (Ok e) h fits = (fits, tt)
spelled_more past [] (Err refusal) h fits = tt
spelled_more past (x ∷ entries) r h fits = (h.0, spelled_more past entries r h.1 fits)

-- ---- before the first one
pub start_entries : (past : List Entry) (actor : ℕ) (given : ℤ) (index : ℕ) (s : SourceIndex) (entries : List Entry) (rest docs : List (List ℕ × Tree)) → entries ≡ [] → rest ≡ docs
    → entries ++ accepted (asked_documents (past_with past entries) actor given index s rest) ≡ accepted (asked_documents past actor given index s docs)
start_entries past actor given index s entries rest docs e f = λ i. e i ++ accepted (asked_documents (past_with past (e i)) actor given index s (f i))

pub start_items : (past : List Entry) (actor : ℕ) (given : ℤ) (index : ℕ) (s : SourceIndex) (entries : List Entry) (items : List Item) (rest docs : List (List ℕ × Tree)) → entries ≡ [] → items ≡ [] → rest ≡ docs
    → items ++ map item_of (asked_documents (past_with past entries) actor given index s rest) ≡ map item_of (asked_documents past actor given index s docs)
start_items past actor given index s entries items rest docs e g f = λ i. g i ++ map item_of (asked_documents (past_with past (e i)) actor given index s (f i))
