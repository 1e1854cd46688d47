-- Counts of documents and of entries.
use Rattle.std.proofs.Common.{◌≡◌, ℕ, zero, suc, ◌+◌, ◌^◌, ◌<◌, ◌≤◌, Bool, true, false, cond, ◌&&◌, List, [], ◌∷◌, ◌++◌, length, take, get_or, Option, Some, arith, refl, ap, sym, subst, ◌∙◌, add-one}
use Rattle.std.specs.Prelude.{nat_eq, count_by, IsSome}
use Rattle.std.specs.Arc.{arc_value}
use Rattle.std.specs.BTreeMap.{BTreeMap, get}
use Rattle.std.specs.Cmp.Lexicographic.{nat_list_eq_equiv, slice_cmp}
use Rattle.std.specs.Option.{unwrap_or}
use Rattle.std.specs.Ordering.{is_eq, nat_cmp, ordering_then}
use Rattle.std.specs.declared.cmp.Ordering.{Ordering}
use Rattle.std.specs.declared.cmp.Ordering.TheVariants.{Less, Equal, Greater}
use Rattle.std.specs.declared.sync.Arc.{Arc}
use Rattle.std.specs.declared.alloc.Global.{Global}
use Rattle.std.proofs.lemmas.Bool.{eqb-true}
use Rattle.std.proofs.lemmas.List.{length-map}
use Rattle.std.proofs.lemmas.List.Sums.{count_by-le-length, sum_by-append, sum_by-cons}
use Rattle.std.proofs.lemmas.Map.Text.{is_eq-slice_cmp}
use Rattle.tf_model.specs.declared.doc.Doc.{Doc}
use Rattle.tf_model.specs.declared.entry.Entry.{Entry}
use Rattle.tf_history.specs.Catalogue.{SourceIndex, catalogue}
use Rattle.tf_history.specs.Events.{Event}
use Rattle.tf_history.specs.Legality.{names}
use Rattle.tf_history.specs.LegalEntries.{is_in_shard}
use Rattle.tf_history.specs.Lives.{is_same}
use Rattle.tf_history.specs.Reading.{event_of}
use Rattle.tf_history.proofs.Ids.{same_id}
use Rattle.tf_core.specs.declared.counts.Counts.{Counts}
use Rattle.tf_core.specs.declared.ready.Prepared.{Prepared}
use Rattle.tf_core.specs.declared.ready.Step.{Step}
use Rattle.tf_core.specs.declared.ready.Step.TheVariants as step
use Rattle.tf_core.specs.Counts.{AreCounted, AreFew, AreMentioned, HasCount, HaveCounts, IsCounted, KeepsCounts, SameCounts, count_at, mentions, shard_cmp}
use Rattle.tf_core.specs.Legal.{read}
use Rattle.tf_core.specs.Standing.{shared}
use Rattle.tf_core.specs.Steps.{IsStep, docs_of, is_about}
use Rattle.tf_core.proofs.Begun.{as_many}
use Rattle.tf_mapping.specs.Documents.{values_of}

is_eq_then : (o p : Ordering) → is_eq (ordering_then o p) ≡ (is_eq o && is_eq p)
is_eq_then Less p = refl
is_eq_then Equal p = refl
is_eq_then Greater p = refl

is_eq_cmp : (m n : ℕ) → is_eq (nat_cmp m n) ≡ nat_eq n m
is_eq_cmp m n = grind arith

at_shard : (index shard i s : ℕ) → is_eq (shard_cmp (index, shard) (i, s)) ≡ (nat_eq i index && nat_eq s shard)
at_shard index shard i s =
    is_eq_then (nat_cmp index i) (nat_cmp shard s)
    ∙ ((λ j. is_eq_cmp index i j && is_eq (nat_cmp shard s)) ∙ ap (λ b. nat_eq i index && b) (is_eq_cmp shard s))

both : (a b : Bool) → (a && b) ≡ true → (a ≡ true) × (b ≡ true)
both true true e = (refl, refl)
both true false e = absurd (let z : false ≡ true = e in cc)
both false b e = absurd (let z : false ≡ true = e in cc)

-- ---- a count was set to n
more : (b : Bool) (n d : ℕ) (o : Option ℕ) → (b ≡ true → n ≡ unwrap_or o 0 + d) → unwrap_or (cond b (Some n) o) 0 ≡ unwrap_or o 0 + cond b d 0
more true n d o is = is refl
more false n d o is = omega arith

some : (b : Bool) (n : ℕ) (o : Option ℕ) → IsSome o → IsSome (cond b (Some n) o)
some true n o h = refl
some false n o h = h

none_more : (b : Bool) (n : ℕ) → n + cond b 0 0 ≡ n
none_more true n = omega arith
none_more false n = omega arith

module _ (old new : BTreeMap (ℕ × ℕ) ℕ) (index shard n : ℕ) (set : (q : ℕ × ℕ) → get shard_cmp new q ≡ cond (is_eq (shard_cmp (index, shard) q)) (Some n) (get shard_cmp old q)) where
  set_at : (i s : ℕ) → get shard_cmp new (i, s) ≡ cond (nat_eq i index && nat_eq s shard) (Some n) (get shard_cmp old (i, s))
  set_at i s = set (i, s) ∙ ap (λ b. cond b (Some n) (get shard_cmp old (i, s))) (at_shard index shard i s)

  pub some_in : (i s : ℕ) → IsSome (get shard_cmp old (i, s)) → IsSome (get shard_cmp new (i, s))
  some_in i s h = subst IsSome (sym (set_at i s)) (some (nat_eq i index && nat_eq s shard) n (get shard_cmp old (i, s)) h)

  pub more_in : (d : ℕ) → n ≡ unwrap_or (get shard_cmp old (index, shard)) 0 + d → (i s : ℕ) → unwrap_or (get shard_cmp new (i, s)) 0 ≡ unwrap_or (get shard_cmp old (i, s)) 0 + cond (nat_eq i index && nat_eq s shard) d 0
  more_in d is i s =
      ap (λ o. unwrap_or o 0) (set_at i s)
      ∙ more (nat_eq i index && nat_eq s shard) n d (get shard_cmp old (i, s)) (λ e.
      let same = both (nat_eq i index) (nat_eq s shard) e in
      is ∙ ap (λ o. unwrap_or o 0 + d) (ap (get shard_cmp old) (λ j. (sym (eqb-true i index same.0) j, sym (eqb-true s shard same.1) j))))

  pub same_in : n ≡ unwrap_or (get shard_cmp old (index, shard)) 0 + 0 → (i s : ℕ) → unwrap_or (get shard_cmp new (i, s)) 0 ≡ unwrap_or (get shard_cmp old (i, s)) 0
  same_in is i s = more_in 0 is i s ∙ none_more (nat_eq i index && nat_eq s shard) (unwrap_or (get shard_cmp old (i, s)) 0)

-- of a transform
module _ (old new : BTreeMap (List ℕ) ℕ) (id : List ℕ) (n : ℕ) (set : (q : List ℕ) → get (slice_cmp nat_cmp) new q ≡ cond (is_eq (slice_cmp nat_cmp id q)) (Some n) (get (slice_cmp nat_cmp) old q)) where
  same_sides : (other : List ℕ) → is_eq (slice_cmp nat_cmp id other) ≡ is_same other id
  same_sides other = is_eq-slice_cmp id other ∙ nat_list_eq_equiv.symm id other

  set_for : (other : List ℕ) → get (slice_cmp nat_cmp) new other ≡ cond (is_same other id) (Some n) (get (slice_cmp nat_cmp) old other)
  set_for other = set other ∙ ap (λ b. cond b (Some n) (get (slice_cmp nat_cmp) old other)) (same_sides other)

  pub some_for : (other : List ℕ) → IsSome (get (slice_cmp nat_cmp) old other) → IsSome (get (slice_cmp nat_cmp) new other)
  some_for other h = subst IsSome (sym (set_for other)) (some (is_same other id) n (get (slice_cmp nat_cmp) old other) h)

  pub more_for : (d : ℕ) → n ≡ unwrap_or (get (slice_cmp nat_cmp) old id) 0 + d → (other : List ℕ) → unwrap_or (get (slice_cmp nat_cmp) new other) 0 ≡ unwrap_or (get (slice_cmp nat_cmp) old other) 0 + cond (is_same other id) d 0
  more_for d is other =
      ap (λ o. unwrap_or o 0) (set_for other)
      ∙ more (is_same other id) n d (get (slice_cmp nat_cmp) old other) (λ e. is ∙ ap (λ q. unwrap_or (get (slice_cmp nat_cmp) old q) 0 + d) (sym (same_id other id e)))

  pub same_for : n ≡ unwrap_or (get (slice_cmp nat_cmp) old id) 0 + 0 → (other : List ℕ) → unwrap_or (get (slice_cmp nat_cmp) new other) 0 ≡ unwrap_or (get (slice_cmp nat_cmp) old other) 0
  same_for is other = more_for 0 is other ∙ none_more (is_same other id) (unwrap_or (get (slice_cmp nat_cmp) old other) 0)

-- ---- steps
step_keeps : (old new : Counts) → KeepsCounts old new → (s : Step) → HasCount old s → HasCount new s
step_keeps old new keeps (step.Index index) h = tt
step_keeps old new keeps (step.Write doc) h = keeps.shards (arc_value doc).index (arc_value doc).shard h
step_keeps old new keeps (step.Put t) h = keeps.transforms t.id h
step_keeps old new keeps (step.Delete id) h = keeps.transforms id h
step_keeps old new keeps (step.Change id by) h = keeps.transforms id h

pub still_have : (old new : Counts) → KeepsCounts old new → (steps : List Prepared) → HaveCounts old steps → HaveCounts new steps
still_have old new keeps [] h = tt
still_have old new keeps (p ∷ steps) h = (step_keeps old new keeps p.step h.0, still_have old new keeps steps h.1)

have_suc : (counts : Counts) (steps : List Prepared) (i : ℕ) (x : Prepared) → i < length steps → x ≡ get_or steps i x → HaveCounts counts (take i steps) → HasCount counts x.step → HaveCounts counts (take (suc i) steps)
have_suc counts [] i x low is h has = absurd (omega (arith, low))
have_suc counts (p ∷ steps) zero x low is h has = (subst (λ (y : Prepared). HasCount counts y.step) is has, tt)
have_suc counts (p ∷ steps) (suc i) x low is h has = (h.0, have_suc counts steps i x (omega (arith, low)) is h.1 has)

pub have_more : (old new : Counts) (steps : List Prepared) (i : ℕ) (x : Prepared) → i < length steps → x ≡ get_or steps i x → KeepsCounts old new → HaveCounts old (take i steps) → HasCount new x.step → HaveCounts new (take (i + 1) steps)
have_more old new steps i x low is keeps h has =
    subst (λ n. HaveCounts new (take n steps)) (sym (add-one i)) (have_suc new steps i x low is (still_have old new keeps (take i steps) h) has)

pub same_more : (a b c : Counts) → SameCounts b c → SameCounts a b → SameCounts a c
same_more a b c next same = record {
  shards = λ i s. next.shards i s ∙ same.shards i s;
  transforms = λ id. next.transforms id ∙ same.transforms id;
}

-- ---- documents
pub still_counted : (old new : Counts) (docs : List Doc) → SameCounts old new → AreCounted old docs → AreCounted new docs
still_counted old new docs same are i s = same.shards i s ∙ are i s

pub next_counted : (old new : Counts) (docs docs' : List Doc) (s : Step) → docs' ≡ docs ++ docs_of s → IsCounted s old new → AreCounted old docs → AreCounted new docs'
next_counted old new docs docs' s more is are i sh =
    let P = is_in_shard i sh in
    is.adds i sh
    ∙ (ap (λ n. n + count_by P (docs_of s)) (are i sh)
    ∙ sym (ap (count_by P) more ∙ sum_by-append (λ d. cond (P d) 1 0) docs (docs_of s)))

-- ---- entries
pub still_mentioned : (old new : Counts) (past : List Entry) → SameCounts old new → AreMentioned old past → AreMentioned new past
still_mentioned old new past same are id = same.transforms id ∙ are id

swapped : (a b : ℕ) → a + b ≡ b + a
swapped a b = omega arith

pub next_mentioned : (old new : Counts) (past : List Entry) (e : Entry) (indices : List SourceIndex) (s : Step) → catalogue past ≡ indices → IsStep indices e s → IsCounted s old new → AreMentioned old past → AreMentioned new (e ∷ past)
next_mentioned old new past e indices s indices_are is counted are id =
    let here : IsStep (catalogue past) e s = subst (λ ss. IsStep ss e s) (sym indices_are) is in
    let event : Event = event_of values_of (catalogue past) e in
    counted.mentioned id
    ∙ (ap (λ n. n + cond (is_about id s) 1 0) (are id)
    ∙ (ap (λ b. mentions id past + cond b 1 0) (sym (here.names_is id))
    ∙ (swapped (mentions id past) (cond (names id event.deed) 1 0)
    ∙ sym (sum_by-cons (λ (x : Event). cond (names id x.deed) 1 0) event (read past)))))

few_mentions : (id : List ℕ) (past : List Entry) → mentions id past ≤ length past
few_mentions id past = subst (λ n. mentions id past ≤ n) (as_many past) (count_by-le-length (λ (e : Event). names id e.deed) (read past))

few_shards : (counts : Counts) (docs : List (Arc Doc Global)) → length docs < 2 ^ 63 → AreCounted counts (shared docs) → (index shard : ℕ) → count_at counts index shard < 2 ^ 63
few_shards counts docs low are i s = omega (arith, low, are i s, count_by-le-length (is_in_shard i s) (shared docs), length-map docs (λ doc. arc_value doc))

pub few_counted : (counts : Counts) (docs : List (Arc Doc Global)) (past : List Entry) → length docs < 2 ^ 63 → length past < 2 ^ 63 → AreCounted counts (shared docs) → AreMentioned counts past → AreFew counts
few_counted counts docs past few_docs few are mentioned = record {
  shards = few_shards counts docs few_docs are;
  transforms = λ id. subst (λ n. n < 2 ^ 63) (sym (mentioned id)) (below (few_mentions id past) few);
}
  where
    below : {a b c : ℕ} → a ≤ b → b < c → a < c
    below low high = omega (arith, low, high)
