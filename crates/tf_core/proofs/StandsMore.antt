-- A core goes on standing for its history, after each step.
use Rattle.std.proofs.Common.{◌≡◌, ℕ, zero, suc, ◌+◌, ◌<◌, ◌≤◌, Bool, true, false, cond, not, ◌&&◌, List, [], ◌∷◌, ◌++◌, length, map, get_or, Option, Some, None, arith, refl, sym, ap, ◌∙◌, subst, append-nil}
use Rattle.std.specs.Prelude.{⊤, option_map, option_and_then, nat_eq, slice_set, IsSome}
use Rattle.std.specs.Arc.{arc_value}
use Rattle.std.specs.List.{AllByRecursion, filter, list_any}
use Rattle.tf_model.specs.declared.doc.Doc.{Doc}
use Rattle.tf_model.specs.declared.entry.Entry.{Entry}
use Rattle.tf_model.specs.Counted.{sync_value}
use Rattle.tf_model.specs.Query.{meets}
use Rattle.tf_model.specs.Retention.{date_of}
use Rattle.tf_history.specs.Acts.{MayAct}
use Rattle.tf_history.specs.Catalogue.{SourceIndex, catalogue, makes}
use Rattle.tf_history.specs.Configured.{meaning}
use Rattle.tf_history.specs.Events.{Event}
use Rattle.tf_history.specs.Legality.{IsLegal}
use Rattle.tf_history.specs.Lives.{Life, documents, fresh, is_late, is_same, is_under, life, life_after, lived, writes}
use Rattle.tf_history.specs.Lives.Act.{Aside, Closes, Opens, Writes}
use Rattle.tf_history.specs.Meaning.{Meaning}
use Rattle.tf_history.specs.Reading.{deed_of, event_of}
use Rattle.tf_history.specs.Transforms.{PutTransform, transforms}
use Rattle.tf_history.proofs.Acts.{may_act}
use Rattle.tf_history.proofs.Ids.{same_id}
use Rattle.tf_history.proofs.LateLaw.{last_bound_decides}
use Rattle.tf_core.specs.declared.ready.Change.{Change}
use Rattle.tf_core.specs.declared.ready.Step.{Step}
use Rattle.tf_core.specs.declared.ready.Step.TheVariants as step
use Rattle.tf_core.specs.declared.transform.Transform.{Transform}
use Rattle.tf_core.specs.Late.{after_write, is_late_for}
use Rattle.tf_core.specs.Legal.{IsTaken, read}
use Rattle.tf_core.specs.Standing.{Stands}
use Rattle.tf_core.specs.Steps.{Changed, HasLife, IsStep, IsSound, IsWhole, Stepped, act_of, acts_of, added, docs_of, only, puts_after}
use Rattle.tf_core.specs.Summary.{IsFew, IsSummary, put_of}
use Rattle.tf_core.specs.Table.{Tells, is_other, place_in, transform_at}
use Rattle.tf_mapping.specs.Documents.{values_of}
use Rattle.tf_core.proofs.Changes.{change_tells, few_after, few_more, more_docs, put_stays}
use Rattle.tf_core.proofs.Tables.{all_filter, all_map, all_set, all_weaker, at_map, at_place, at_remove, at_set, found_within}
use Rattle.tf_core.proofs.Taken.{is_allowed, read_is_legal}

-- ---- a transform beside other entries
aside_tells : (docs more : List Doc) (x : Option Transform) (o : Option Life) → Tells docs x o → Tells (docs ++ more) x (life_after docs Aside o)
aside_tells docs more None None h = h
aside_tells docs more None (Some l) h = h
aside_tells docs more (Some t) None h = h
aside_tells docs more (Some t) (Some l) h = more_docs docs more t l h

-- ---- a document
late_same : (past : List Event) (id : List ℕ) (docs : List Doc) (d : Doc) (t : Transform) (l : Life) → IsLegal past → life id past ≡ Some l → IsSummary docs t l → is_late_for t d ≡ is_late l.meaning l.checkpoints d
late_same past id docs d t l legal is h =
    ap (λ o. list_any (nat_eq d.index) t.sources && (meets d t.config.query && is_under o (option_and_then date_of (sync_value t.config d)))) h.bound
    ∙ (ap (λ b. list_any (nat_eq d.index) t.sources && (meets d t.config.query && b)) (sym (last_bound_decides past id l legal is (option_and_then date_of (sync_value t.config d))))
    ∙ ap (λ (c : Meaning). is_late c l.checkpoints d) (sym h.meaning_is))

wrote : (past : List Event) (id : List ℕ) (docs : List Doc) (d : Doc) (t : Transform) (l : Life) → IsLegal past → life id past ≡ Some l → IsSummary docs t l → IsSummary (docs ++ d ∷ []) (after_write d t) (lived docs (Writes d) l)
wrote past id docs d t l legal is h =
    let more = more_docs docs (d ∷ []) t l h in
    record {
      meaning_is = h.meaning_is;
      forever = h.forever;
      state = h.state;
      waits = h.waits;
      prompted = h.prompted;
      begun = h.begun;
      low = h.low;
      bound = h.bound;
      moment = h.moment;
      within = more.within;
      read = more.read;
      marked = more.marked;
      earlier_moment = more.earlier_moment;
      earlier_within = more.earlier_within;
      earlier_read = more.earlier_read;
      finished = h.finished;
      position = h.position;
      pages = h.pages;
      late = ap (λ b. cond b (t.late + 1) t.late) (late_same past id docs d t l legal is h) ∙ ap (λ n. cond (is_late l.meaning l.checkpoints d) (n + 1) n) h.late;
      reason = h.reason;
      processed = h.processed;
      indexed = h.indexed;
      deleted = h.deleted;
      rows = h.rows;
    }

wrote_tells : (past : List Event) (id : List ℕ) (docs : List Doc) (d : Doc) (x : Option Transform) (o : Option Life) → IsLegal past → life id past ≡ o → Tells docs x o
    → Tells (docs ++ d ∷ []) (option_map (after_write d) x) (life_after docs (Writes d) o)
wrote_tells past id docs d None None legal is h = h
wrote_tells past id docs d None (Some l) legal is h = h
wrote_tells past id docs d (Some t) None legal is h = h
wrote_tells past id docs d (Some t) (Some l) legal is h = wrote past id docs d t l legal is h

-- ---- transforms as they were put
puts_wrote : (d : Doc) (ts : List Transform) → map put_of (map (after_write d) ts) ≡ map put_of ts
puts_wrote d [] = refl
puts_wrote d (t ∷ ts) = ap (λ ps. put_of t ∷ ps) (puts_wrote d ts)

puts_removed : (id : List ℕ) (ts : List Transform) → filter (λ (p : PutTransform). not (is_same id p.id)) (map put_of ts) ≡ map put_of (filter (is_other id) ts)
puts_removed id [] = refl
puts_removed id (t ∷ ts) =
    elim (is_same id t.id) as (λ b. cond (not b) (put_of t ∷ filter (λ (p : PutTransform). not (is_same id p.id)) (map put_of ts)) (filter (λ (p : PutTransform). not (is_same id p.id)) (map put_of ts))
    ≡ map put_of (cond (not b) (t ∷ filter (is_other id) ts) (filter (is_other id) ts))) [
      | true ↦ puts_removed id ts
      | false ↦ ap (λ ps. put_of t ∷ ps) (puts_removed id ts)
    ]

puts_set : (ts : List Transform) (i : ℕ) (x : Transform) → put_of x ≡ put_of (get_or ts i x) → map put_of (slice_set ts i x) ≡ map put_of ts
puts_set [] i x e = refl
puts_set (t ∷ ts) zero x e = ap (λ p. p ∷ map put_of ts) e
puts_set (t ∷ ts) (suc i) x e = ap (λ ps. put_of t ∷ ps) (puts_set ts i x e)

pub puts_stepped : (n : ℕ) (s : Step) (old new : List Transform) → Stepped n s old new → puts_after s (map put_of old) ≡ map put_of new
puts_stepped n (step.Index index) old new h = ap (map put_of) (sym h)
puts_stepped n (step.Write doc) old new h = sym (ap (map put_of) h ∙ puts_wrote (arc_value doc) old)
puts_stepped n (step.Put t) old new h = sym (ap (map put_of) h)
puts_stepped n (step.Delete id) old new h = puts_removed id old ∙ sym (ap (map put_of) h)
puts_stepped n (step.Change id by) old new h = sym (ap (map put_of) h.set ∙ puts_set old (place_in id old) h.now (put_stays n by (get_or old (place_in id old) h.now) h.now h.changed))

-- ---- counters
after_few : (d : Doc) (n : ℕ) (t : Transform) → IsFew n t → IsFew (suc n) (after_write d t)
after_few d n t h = record {
  late = by_late (is_late_for t d) t.late n h.late;
  pages = omega (arith, h.pages);
  processed = omega (arith, h.processed);
  indexed = omega (arith, h.indexed);
}
  where
    by_late : (b : Bool) (late n : ℕ) → late ≤ n → cond b (late + 1) late ≤ suc n
    by_late true late n h = omega (arith, h)
    by_late false late n h = omega (arith, h)

fresh_few : (n : ℕ) (docs : List Doc) (t : Transform) (m : Meaning) → IsSummary docs t (fresh m) → IsFew n t
fresh_few n docs t m h = record { late = omega (arith, h.late); pages = omega (arith, h.pages); processed = omega (arith, h.processed); indexed = omega (arith, h.indexed) }

few_at : (n : ℕ) (ts : List Transform) (i : ℕ) (x : Transform) → i < length ts → AllByRecursion (IsFew n) ts → IsFew n (get_or ts i x)
few_at n [] i x low h = absurd (omega (arith, low))
few_at n (t ∷ ts) zero x low h = h.0
few_at n (t ∷ ts) (suc i) x low h = few_at n ts i x (omega (arith, low)) h.1

-- the transform that a step changes is there
abbrev pub IsThere : Step → List Transform → Type 0
IsThere (step.Change id by) ts = place_in id ts < length ts
IsThere _ ts = ⊤

few_stepped : (n w : ℕ) (s : Step) (old new : List Transform) → IsThere s old → IsSound s → Stepped w s old new → AllByRecursion (IsFew n) old → AllByRecursion (IsFew (suc n)) new
few_stepped n w (step.Index index) old new there sound h few = subst (AllByRecursion (IsFew (suc n))) (sym h) (all_weaker (IsFew n) (IsFew (suc n)) (few_more n) old few)
few_stepped n w (step.Write doc) old new there sound h few = subst (AllByRecursion (IsFew (suc n))) (sym h) (all_map (IsFew n) (IsFew (suc n)) (after_write (arc_value doc)) (after_few (arc_value doc) n) old few)
few_stepped n w (step.Put t) old new there sound h few =
    subst (AllByRecursion (IsFew (suc n))) (sym h) (fresh_few (suc n) [] t (meaning t.sources t.config) sound, all_weaker (IsFew n) (IsFew (suc n)) (few_more n) old few)
few_stepped n w (step.Delete id) old new there sound h few =
    subst (AllByRecursion (IsFew (suc n))) (sym h) (all_filter (IsFew (suc n)) (is_other id) old (all_weaker (IsFew n) (IsFew (suc n)) (few_more n) old few))
few_stepped n w (step.Change id by) old new there sound h few =
    subst (AllByRecursion (IsFew (suc n))) (sym h.set)
    (all_set (IsFew (suc n)) old (place_in id old) h.now (few_after n w by (get_or old (place_in id old) h.now) h.now sound h.changed (few_at n old (place_in id old) h.now there few))
    (all_weaker (IsFew n) (IsFew (suc n)) (few_more n) old few))

-- ---- lives
-- what an entry is to a transform is allowed
abbrev pub Acted : List Event → Step → Type 0
Acted past s = (id : List ℕ) → MayAct (acts_of s id) (life id past)

module _ (past : List Event) (docs : List Doc) (ts : List Transform) (legal : IsLegal past) (lives : (id : List ℕ) → Tells docs (transform_at id ts) (life id past)) where
  -- each id's transform tells its life after the step
  abbrev Told : Step → List Transform → Type 0
  Told s new = (id : List ℕ) → Tells (docs ++ docs_of s) (transform_at id new) (life_after docs (acts_of s id) (life id past))

  told_put : (t : Transform) → IsSound (step.Put t) → Told (step.Put t) (t ∷ ts)
  told_put t sound id = by_id (is_same id t.id)
    where
      by_id : (b : Bool) → Tells (docs ++ []) (cond b (Some t) (transform_at id ts)) (life_after docs (cond b (Opens (meaning t.sources t.config)) Aside) (life id past))
      by_id true = more_docs [] (docs ++ []) t (fresh (meaning t.sources t.config)) sound
      by_id false = aside_tells docs [] (transform_at id ts) (life id past) (lives id)

  told_delete : (id : List ℕ) → Told (step.Delete id) (filter (is_other id) ts)
  told_delete id other = subst (λ x. Tells (docs ++ []) x (life_after docs (only id Closes other) (life other past))) (sym (at_remove other id ts)) (by_id (is_same other id))
    where
      by_id : (b : Bool) → Tells (docs ++ []) (cond b None (transform_at other ts)) (life_after docs (cond b Closes Aside) (life other past))
      by_id true = tt
      by_id false = aside_tells docs [] (transform_at other ts) (life other past) (lives other)

  told_change : (id : List ℕ) (by : Change) (new : Transform) → Acted past (step.Change id by) → place_in id ts < length ts → IsWhole by → Changed (length docs) by (get_or ts (place_in id ts) new) new
      → Told (step.Change id by) (slice_set ts (place_in id ts) new)
  told_change id by new acted low whole c other =
      subst (λ x. Tells (docs ++ []) x (life_after docs (only id (act_of by) other) (life other past))) (sym (at_set other id ts new (same ∙ (at_place id ts new low).1) low)) (by_id (is_same other id) refl)
    where
      old : Transform
      old = get_or ts (place_in id ts) new

      same : new.id ≡ (get_or ts (place_in id ts) new).id
      same = ap (λ (p : PutTransform). p.id) (put_stays (length docs) by old new c)

      here : is_same other id ≡ true → Tells docs (Some (get_or ts (place_in id ts) new)) (life other past)
      here s = subst (λ x. Tells docs x (life other past)) (ap (λ y. transform_at y ts) (same_id other id s) ∙ (at_place id ts new low).0) (lives other)

      may : is_same other id ≡ true → MayAct (act_of by) (life other past)
      may s = subst (λ b. MayAct (cond b (act_of by) Aside) (life other past)) s (acted other)

      by_id : (b : Bool) → is_same other id ≡ b → Tells (docs ++ []) (cond b (Some new) (transform_at other ts)) (life_after docs (cond b (act_of by) Aside) (life other past))
      by_id true s = subst (λ ds. Tells ds (Some new) (life_after docs (act_of by) (life other past))) (sym (append-nil docs)) (change_tells docs by old new (life other past) (may s) whole c (here s))
      by_id false s = aside_tells docs [] (transform_at other ts) (life other past) (lives other)

  told : (s : Step) (new : List Transform) → Acted past s → IsThere s ts → IsSound s → Stepped (length docs) s ts new → Told s new
  told (step.Index index) new acted there sound h = subst (Told (step.Index index)) (sym h) (λ id. aside_tells docs [] (transform_at id ts) (life id past) (lives id))
  told (step.Write doc) new acted there sound h = subst (Told (step.Write doc)) (sym h) (λ id.
      subst (λ x. Tells (docs ++ arc_value doc ∷ []) x (life_after docs (Writes (arc_value doc)) (life id past))) (sym (at_map (after_write (arc_value doc)) (λ t. refl) id ts))
      (wrote_tells past id docs (arc_value doc) (transform_at id ts) (life id past) legal refl (lives id)))
  told (step.Put t) new acted there sound h = subst (Told (step.Put t)) (sym h) (told_put t sound)
  told (step.Delete id) new acted there sound h = subst (Told (step.Delete id)) (sym h) (told_delete id)
  told (step.Change id by) new acted there sound h = subst (Told (step.Change id by)) (sym h.set) (told_change id by h.now acted there sound h.changed)

-- ---- one more entry
module _ (past : List Entry) (e : Entry) (indices : List SourceIndex) (docs : List Doc) (ts : List Transform) (stands : Stands past indices docs ts) (taken : IsTaken past e) (s : Step) (is : IsStep indices e s) where
  here : IsStep (catalogue past) e s
  here = subst (λ ss. IsStep ss e s) (sym stands.indices_are) is

  -- the transform that a step changes is there
  pub step_there : IsThere s ts
  step_there = by_step s (here.has_life (read past) (is_allowed past e taken))
    where
      found : (id : List ℕ) (x : Option Transform) (o : Option Life) → transform_at id ts ≡ x → IsSome o → Tells docs x o → place_in id ts < length ts
      found id None None f some h = absurd (let z : false ≡ true = some in cc)
      found id None (Some l) f some h = absurd h
      found id (Some t) o f some h = found_within id ts t f

      by_step : (s : Step) → HasLife s (read past) → IsThere s ts
      by_step (step.Index index) h = tt
      by_step (step.Write doc) h = tt
      by_step (step.Put t) h = tt
      by_step (step.Delete id) h = tt
      by_step (step.Change id by) h = found id (transform_at id ts) (life id (read past)) refl h (stands.lives id)

  acted : Acted (read past) s
  acted id = subst (λ a. MayAct a (life id (read past))) (here.acts_is id) (may_act id (event_of values_of (catalogue past) e) (read past) (is_allowed past e taken))

  pub stands_more : (indices' : List SourceIndex) (docs' : List Doc) (ts' : List Transform) → indices' ≡ indices ++ added s → docs' ≡ docs ++ docs_of s → Stepped (length docs) s ts ts' → Stands (e ∷ past) indices' docs' ts'
  stands_more indices' docs' ts' more_indices more h = record {
    taken = (stands.taken, taken);
    indices_are = ap (λ ss. ss ++ makes e.kind) stands.indices_are ∙ (ap (λ ss. indices ++ ss) is.makes_is ∙ sym more_indices);
    docs_are = ap (λ ds. ds ++ writes (deed_of values_of (catalogue past) e.kind)) stands.docs_are ∙ (ap (λ ds. docs ++ ds) here.writes_is ∙ sym more);
    transforms_are = here.puts_is (transforms past) ∙ (ap (puts_after s) stands.transforms_are ∙ puts_stepped (length docs) s ts ts' h);
    lives = λ id. subst (λ ds. Tells ds (transform_at id ts') (life id (read (e ∷ past)))) (sym more)
        (subst (λ o. Tells (docs ++ docs_of s) (transform_at id ts') o) (life_is id) (told (read past) docs ts (read_is_legal past stands.taken) stands.lives s ts' acted step_there is.sound h id));
    few = few_stepped (length past) (length docs) s ts ts' step_there is.sound h stands.few;
  }
    where
      life_is : (id : List ℕ) → life_after docs (acts_of s id) (life id (read past)) ≡ life id (read (e ∷ past))
      life_is id =
          ap (λ ds. life_after ds (acts_of s id) (life id (read past))) (sym stands.docs_are)
          ∙ ap (λ a. life_after (documents (read past)) a (life id (read past))) (sym (here.acts_is id))
