-- A core that is ready.
use Rattle.std.proofs.Common.{◌≡◌, ℕ, ◌<◌, true, false, List, [], ◌∷◌, ◌++◌, length, Option, Some, None, refl, sym, ap, subst}
use Rattle.std.specs.Prelude.{IsSomeAnd, slice_get}
use Rattle.std.specs.Arc.{arc_value}
use Rattle.std.specs.List.{list_any}
use Rattle.std.proofs.lemmas.Option.{same_Some}
use Rattle.std.specs.Global.{Vec}
use Rattle.std.specs.declared.sync.Arc.{Arc}
use Rattle.std.specs.declared.alloc.Global.{Global}
use Rattle.tf_model.specs.declared.doc.Doc.{Doc}
use Rattle.tf_model.specs.declared.entry.Entry.{Entry}
use Rattle.tf_model.specs.declared.entry.Row.{Row}
use Rattle.tf_model.specs.declared.entry.Kind.{Kind}
use Rattle.tf_model.specs.declared.entry.Kind.TheVariants as kind
use Rattle.tf_history.specs.Catalogue.{SourceIndex, catalogue, written_doc}
use Rattle.tf_history.specs.Legality.{IsAllowed, MayPage}
use Rattle.tf_history.specs.LegalEntries.{FitsKind, MayWrite, has_id}
use Rattle.tf_history.specs.Lives.{Life, documents, life, writes}
use Rattle.tf_history.specs.Reading.{deed_of}
use Rattle.tf_core.specs.declared.counts.Counts.{Counts}
use Rattle.tf_core.specs.declared.ids.Ids.{Ids}
use Rattle.tf_core.specs.declared.kept.Kept.{Kept}
use Rattle.tf_core.specs.declared.ready.Prepared.{Prepared}
use Rattle.tf_core.specs.declared.ready.Step.{Step}
use Rattle.tf_core.specs.declared.ready.Step.TheVariants as step
use Rattle.tf_core.specs.declared.transform.Transform.{Transform}
use Rattle.tf_core.specs.Chain.{AreSteps, Batch, HasRoom, entries_in}
use Rattle.tf_core.specs.Counts.{AreCounted, AreMentioned, HaveCounts, SameCounts}
use Rattle.tf_core.specs.Ids.{AreIndexed, AreNew, IsNew, all_docs}
use Rattle.tf_core.specs.Kept.{entry_of, past_in}
use Rattle.tf_core.specs.Legal.{AreTaken, IsTaken, read, reading}
use Rattle.tf_core.specs.Made.{IsFit}
use Rattle.tf_core.specs.Preparing.{AllFit, ArePrepared}
use Rattle.tf_core.specs.Rooms.{SameTables}
use Rattle.tf_core.specs.Standing.{IsCore, Stands, shared}
use Rattle.tf_core.specs.Steps.{IsStep}
use Rattle.tf_mapping.specs.Documents.{reads, values_of}
use Rattle.tf_core.proofs.CountsLaws.{still_counted, still_mentioned}
use Rattle.tf_core.proofs.SameTables.{still_stands}
use Rattle.tf_core.proofs.Taken.{is_allowed, is_forever}
use Rattle.tf_core.proofs.Written.{kept_is_read}

same_head : (x y : Doc) (xs ys : List Doc) → x ∷ xs ≡ y ∷ ys → x ≡ y
same_head x y xs ys e = same_Some x y (ap (λ ds. slice_get ds 0) e)

nothing : (d : Doc) → [] ≡ d ∷ [] → ⊥
nothing d e = let z : ◌≡◌ {A = Option Doc} None (Some d) = ap (λ ds. slice_get ds 0) e in cc

-- ---- entries that are taken are fit to be prepared
some_rows : (o : Option Life) (n : ℕ) (rows : List Row) → IsSomeAnd o (λ l. MayPage l n rows) → 0 < length rows
some_rows None n rows h = absurd h
some_rows (Some l) n rows h = h.some

fit_kind : (past : List Entry) (e : Entry) (k : Kind) → e.kind ≡ k → IsTaken past e → IsAllowed e.at_ms (deed_of values_of (catalogue past) k) (read past) → IsFit (catalogue past) k
unfolding reading
fit_kind past e (kind.Index name shards mapping stamp quick) is taken h = tt
fit_kind past e (kind.Write index shard seq id tree) is taken h = read_by (slice_get (catalogue past) index) (subst (FitsKind reading past e.at_ms) is taken.legal.fits)
  where
    read_by : (o : Option SourceIndex) → IsSomeAnd o (λ s. MayWrite reading (documents (read past)) e.at_ms s index shard seq id tree) → IsSomeAnd o (λ s. reads s.mapping None tree ≡ true)
    read_by None h = absurd h
    read_by (Some s) h = kept_is_read s.mapping s.stamp e.at_ms tree h.read
fit_kind past e (kind.Put id config) is taken h = is_forever past e id config taken is
fit_kind past e (kind.Delete id) is taken h = tt
fit_kind past e (kind.Reset id) is taken h = tt
fit_kind past e (kind.Start id) is taken h = tt
fit_kind past e (kind.StopAsked id wait) is taken h = tt
fit_kind past e (kind.Stopped id) is taken h = tt
fit_kind past e (kind.Schedule id) is taken h = tt
fit_kind past e (kind.Fail id n key name value) is taken h = tt
fit_kind past e (kind.Begin id n bound) is taken h = tt
fit_kind past e (kind.Page id n rows) is taken h = some_rows (life id (read past)) n rows h
fit_kind past e (kind.Finish id n) is taken h = tt

pub all_fit : (past entries : List Entry) → AreTaken past entries → AllFit (catalogue past) entries
all_fit past [] h = tt
all_fit past (e ∷ entries) h = (fit_kind past e e.kind refl h.0 (is_allowed past e h.0), all_fit (e ∷ past) entries h.1)

-- ---- documents that are taken have new ids
new_kind : (past : List Entry) (e : Entry) (k : Kind) (d : Doc) → FitsKind reading past e.at_ms k → writes (deed_of values_of (catalogue past) k) ≡ d ∷ [] → list_any (has_id d.index d.id) (documents (read past)) ≡ false
unfolding reading
new_kind past e (kind.Write index shard seq id tree) d h w =
    let x : Doc = written_doc values_of (catalogue past) index shard seq id tree in
    let is : x ≡ d = same_head x d [] [] w in
    subst (λ (y : Doc). list_any (has_id y.index y.id) (documents (read past)) ≡ false) is (fresh_id (slice_get (catalogue past) index) h)
  where
    fresh_id : (o : Option SourceIndex) → IsSomeAnd o (λ s. MayWrite reading (documents (read past)) e.at_ms s index shard seq id tree) → list_any (has_id index id) (documents (read past)) ≡ false
    fresh_id None h = absurd h
    fresh_id (Some s) h = h.id_new
new_kind past e (kind.Index name shards mapping stamp quick) d h w = absurd (nothing d w)
new_kind past e (kind.Put id config) d h w = absurd (nothing d w)
new_kind past e (kind.Delete id) d h w = absurd (nothing d w)
new_kind past e (kind.Reset id) d h w = absurd (nothing d w)
new_kind past e (kind.Start id) d h w = absurd (nothing d w)
new_kind past e (kind.StopAsked id wait) d h w = absurd (nothing d w)
new_kind past e (kind.Stopped id) d h w = absurd (nothing d w)
new_kind past e (kind.Schedule id) d h w = absurd (nothing d w)
new_kind past e (kind.Fail id n key name value) d h w = absurd (nothing d w)
new_kind past e (kind.Begin id n bound) d h w = absurd (nothing d w)
new_kind past e (kind.Page id n rows) d h w = absurd (nothing d w)
new_kind past e (kind.Finish id n) d h w = absurd (nothing d w)

new_step : (past : List Entry) (e : Entry) (s : Step) → IsTaken past e → IsStep (catalogue past) e s → IsNew (documents (read past)) s
new_step past e (step.Write doc) taken is = new_kind past e e.kind (arc_value doc) taken.legal.fits is.writes_is
new_step past e (step.Index index) taken is = tt
new_step past e (step.Put t) taken is = tt
new_step past e (step.Delete id) taken is = tt
new_step past e (step.Change id by) taken is = tt

all_new : (past : List Entry) (steps : List Prepared) → AreTaken past (entries_in steps) → AreSteps (catalogue past) steps → AreNew (documents (read past)) steps
all_new past [] taken chain = tt
all_new past (p ∷ steps) taken chain = (
  new_step past (entry_of p.kept) p.step taken.0 chain.0,
  subst (λ ds. AreNew (documents (read past) ++ ds) steps) chain.0.writes_is
      (all_new (entry_of p.kept ∷ past) steps taken.1 (subst (λ ss. AreSteps (catalogue past ++ ss) steps) (sym chain.0.makes_is) chain.1)),
)

pub new_ids : (past : List Entry) (indices : List SourceIndex) (docs : List Doc) (ts : List Transform) (entries : List Entry) → Stands past indices docs ts → AreTaken past entries → (steps : List Prepared) → ArePrepared indices entries steps → AreNew docs steps
new_ids past indices docs ts entries stands taken steps made =
    subst (λ ds. AreNew ds steps) stands.docs_are
    (all_new past steps (subst (AreTaken past) (sym made.same) taken) (subst (λ ss. AreSteps ss steps) (sym stands.indices_are) made.chain))

-- ---- after room was made
module _ (ids : Ids) (counts counts' : Counts) (es es' : Vec Kept) (ss ss' : Vec SourceIndex) (ds ds' : Vec (Arc Doc Global)) (ts ts' : Vec Transform)
    (same_es : es'.items ≡ es.items) (same_ss : ss'.items ≡ ss.items) (same_ds : ds'.items ≡ ds.items) (same : SameTables ts.items ts'.items)
    (stands : Stands (past_in es.items) ss.items (shared ds.items) ts.items) (indexed : AreIndexed ids (shared ds.items))
    (same_counts : SameCounts counts counts') (counted : AreCounted counts (shared ds.items)) (mentioned : AreMentioned counts (past_in es.items)) where
  stands_still : Stands (past_in es'.items) ss'.items (shared ds'.items) ts'.items
  stands_still =
      subst (λ xs. Stands (past_in xs) ss'.items (shared ds'.items) ts'.items) (sym same_es)
      (subst (λ xs. Stands (past_in es.items) xs (shared ds'.items) ts'.items) (sym same_ss)
      (subst (λ xs. Stands (past_in es.items) ss.items (shared xs) ts'.items) (sym same_ds)
      (still_stands (past_in es.items) ss.items (shared ds.items) ts.items ts'.items same stands)))

  indexed_still : AreIndexed ids (shared ds'.items)
  indexed_still = subst (λ xs. AreIndexed ids (shared xs)) (sym same_ds) indexed

  counted_still : AreCounted counts' (shared ds'.items)
  counted_still = subst (λ xs. AreCounted counts' (shared xs)) (sym same_ds) (still_counted counts counts' (shared ds.items) same_counts counted)

  mentioned_still : AreMentioned counts' (past_in es'.items)
  mentioned_still = subst (λ xs. AreMentioned counts' (past_in xs)) (sym same_es) (still_mentioned counts counts' (past_in es.items) same_counts mentioned)

  pub idle_core : IsCore ids counts' es' ss' ds' ts' None
  idle_core = record { stands = stands_still; indexed = indexed_still; counted = counted_still; mentioned = mentioned_still; prepared = tt }

  pub ready_core : (entries : List Entry) (b : Batch) → AreTaken (past_in es.items) entries → ArePrepared ss.items entries b.steps → HasRoom b.steps es' ss' ds' ts' → AreIndexed ids (shared ds.items ++ all_docs b.steps) → HaveCounts counts' b.steps
      → IsCore ids counts' es' ss' ds' ts' (Some b)
  ready_core entries b taken made room places have = record {
    stands = stands_still;
    indexed = indexed_still;
    counted = counted_still;
    mentioned = mentioned_still;
    prepared = record {
      ready = record {
        taken = subst (λ xs. AreTaken (past_in xs) (entries_in b.steps)) (sym same_es) (subst (AreTaken (past_in es.items)) (sym made.same) taken);
        chain = subst (λ xs. AreSteps xs b.steps) (sym same_ss) made.chain;
        room = room;
      };
      indexed = subst (λ xs. AreIndexed ids (shared xs ++ all_docs b.steps)) (sym same_ds) places;
      counted = have;
    };
  }
