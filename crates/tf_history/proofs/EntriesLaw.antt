-- From histories of entries to histories of events.
use Rattle.std.proofs.Common.{◌≡◌, ℕ, Bool, true, false, cond, not, List, [], ◌∷◌, ◌++◌, take, drop, reverse, Option, Some, None, refl, sym, ap, ◌∙◌, subst}
use Rattle.std.specs.Prelude.{option_map, is_some, is_none}
use Rattle.std.specs.List.{filter, find}
use Rattle.std.proofs.lemmas.Option.{same_Some}
use Rattle.tf_model.specs.declared.doc.Doc.{Doc}
use Rattle.tf_model.specs.declared.config.SyncTime.{SyncTime}
use Rattle.tf_model.specs.declared.entry.Entry.{Entry}
use Rattle.tf_model.specs.declared.entry.Kind.TheVariants as kind
use Rattle.tf_history.specs.Meaning.{Meaning}
use Rattle.tf_history.specs.Events.{Event}
use Rattle.tf_history.specs.Grouping.{scratch}
use Rattle.tf_history.specs.Lives.{Life, Act, act, life, life_after, documents, is_same, last_bound, read_last, cutoff, written}
use Rattle.tf_history.specs.Lives.Act.{Aside, Opens, Reopens, Closes, Writes, Begins, Pages, Finishes, Turns}
use Rattle.tf_history.specs.Lives.Turn.{Starts, Asks, Stops, Prompts, Fails}
use Rattle.tf_history.specs.Legality.{IsLegal}
use Rattle.tf_history.specs.Laws.{IsSteady}
use Rattle.tf_history.specs.Histories.{AllRight, IsGrouped}
use Rattle.tf_history.specs.Catalogue.{SourceIndex, ValuesOf, catalogue}
use Rattle.tf_history.specs.Transforms.{PutTransform, transforms, transforms_after, transform_of, meaning_of}
use Rattle.tf_history.specs.Reading.{event_of, events}
use Rattle.tf_history.specs.LegalEntries.{LegalEntriesAreLegal}
use Rattle.tf_history.specs.Entries.{LivesAreConfigured, LivesAreSteady, IsGroupedBy, EntriesAreGrouped}
use Rattle.tf_history.proofs.Ids.{same_id}
use Rattle.tf_history.proofs.Lists.{prefix}
use Rattle.tf_history.proofs.HistoriesLaw.{grouped_here, pages_right}
use Rattle.tf_history.proofs.SteadyLaw.{configured_is_steady}
use Rattle.tf_history.proofs.MeaningLaw.{meanings_agree}

-- ---- what an act leaves of the meaning
abbrev meant : Option Life → Option Meaning
meant o = option_map (λ (l : Life). l.meaning) o

-- the meaning after an act, where before is that before it
abbrev meant_after : Act → Option Meaning → Option Meaning
meant_after (Opens c) before = Some c
meant_after Closes before = None
meant_after _ before = before

after : (docs : List Doc) (a : Act) (o : Option Life) → meant (life_after docs a o) ≡ meant_after a (meant o)
after docs (Opens c) o = refl
after docs Closes o = refl
after docs Reopens None = refl
after docs Reopens (Some l) = refl
after docs Aside None = refl
after docs Aside (Some l) = refl
after docs (Writes d) None = refl
after docs (Writes d) (Some l) = refl
after docs (Begins n bound moment) None = refl
after docs (Begins n bound moment) (Some l) = refl
after docs (Pages n rows) None = refl
after docs (Pages n rows) (Some l) = refl
after docs (Finishes n) None = refl
after docs (Finishes n) (Some l) = refl
after docs (Turns turn) None = refl
after docs (Turns turn) (Some l) = refl

aside : (a : Act) (b : Bool) (before : Option Meaning) → meant_after a before ≡ before → meant_after (cond b a Aside) before ≡ before
aside a true before e = e
aside a false before e = refl

-- ---- the transforms with an id
abbrev is_with : List ℕ → PutTransform → Bool
is_with t p = is_same t p.id

find_gone : (id : List ℕ) (ps : List PutTransform) → find (is_with id) (filter (λ (p : PutTransform). not (is_same id p.id)) ps) ≡ None
find_gone id [] = refl
find_gone id (p ∷ ps) =
    elim (is_same id p.id) as (λ b. is_same id p.id ≡ b → find (is_with id) (cond (not b) (p ∷ filter (λ (p : PutTransform). not (is_same id p.id)) ps) (filter (λ (p : PutTransform). not (is_same id p.id)) ps)) ≡ None) [
      | true ↦ λ e. find_gone id ps
      | false ↦ λ e. ap (λ b. cond b (Some p) (find (is_with id) (filter (λ (p : PutTransform). not (is_same id p.id)) ps))) e ∙ find_gone id ps
    ] refl

other : (t id : List ℕ) (p : PutTransform) → is_same t id ≡ false → is_same id p.id ≡ true → is_same t p.id ≡ false
other t id p e f = subst (λ x. is_same t x ≡ false) (same_id id p.id f) e

find_others : (t id : List ℕ) (ps : List PutTransform) → is_same t id ≡ false
    → find (is_with t) (filter (λ (p : PutTransform). not (is_same id p.id)) ps) ≡ find (is_with t) ps
find_others t id [] e = refl
find_others t id (p ∷ ps) e =
    elim (is_same id p.id) as (λ b. is_same id p.id ≡ b → find (is_with t) (cond (not b) (p ∷ filter (λ (p : PutTransform). not (is_same id p.id)) ps) (filter (λ (p : PutTransform). not (is_same id p.id)) ps))
    ≡ cond (is_same t p.id) (Some p) (find (is_with t) ps)) [
      | true ↦ λ f. find_others t id ps e ∙ sym (ap (λ b. cond b (Some p) (find (is_with t) ps)) (other t id p e f))
      | false ↦ λ f. ap (cond (is_same t p.id) (Some p)) (find_others t id ps e)
    ] refl

-- ---- lives and transforms
abbrev found : List ℕ → List PutTransform → Option Meaning
found t ps = option_map meaning_of (find (is_with t) ps)

put_one : (t id : List ℕ) (p : PutTransform) (ps : List PutTransform) (b : Bool)
    → meant_after (cond b (Opens (meaning_of p)) Aside) (found t ps) ≡ option_map meaning_of (cond b (Some p) (find (is_with t) ps))
put_one t id p ps true = refl
put_one t id p ps false = refl

deleted : (t id : List ℕ) (ps : List PutTransform) (b : Bool) → is_same t id ≡ b
    → meant_after (cond b Closes Aside) (found t ps) ≡ found t (filter (λ (p : PutTransform). not (is_same id p.id)) ps)
deleted t id ps true e =
    ap (option_map meaning_of) (sym (subst (λ x. find (is_with x) (filter (λ (p : PutTransform). not (is_same id p.id)) ps) ≡ None) (sym (same_id t id e)) (find_gone id ps)))
deleted t id ps false e = ap (option_map meaning_of) (sym (find_others t id ps e))

entered : (values_of : ValuesOf) (t : List ℕ) (indices : List SourceIndex) (e : Entry) (ps : List PutTransform)
    → meant_after (act t (event_of values_of indices e)) (found t ps) ≡ found t (transforms_after indices e.kind ps)
entered values_of t indices e ps = elim e.kind as (λ k. meant_after (act t (event_of values_of indices (record e { kind = k }))) (found t ps) ≡ found t (transforms_after indices k ps)) [
  | kind.Index name shards mapping stamp quick ↦ refl
  | kind.Write index shard seq id tree ↦ refl
  | kind.Put id config ↦ put_one t id _ ps (is_same t id)
  | kind.Delete id ↦ deleted t id ps (is_same t id) refl
  | kind.Reset id ↦ aside Reopens (is_same t id) (found t ps) refl
  | kind.Start id ↦ aside (Turns Starts) (is_same t id) (found t ps) refl
  | kind.StopAsked id wait ↦ aside (Turns (Asks wait)) (is_same t id) (found t ps) refl
  | kind.Stopped id ↦ aside (Turns Stops) (is_same t id) (found t ps) refl
  | kind.Schedule id ↦ aside (Turns Prompts) (is_same t id) (found t ps) refl
  | kind.Fail id n key name value ↦ aside (Turns (Fails key name value)) (is_same t id) (found t ps) refl
  | kind.Begin id n bound ↦ aside (Begins n bound e.at_ms) (is_same t id) (found t ps) refl
  | kind.Page id n rows ↦ aside (Pages n rows) (is_same t id) (found t ps) refl
  | kind.Finish id n ↦ aside (Finishes n) (is_same t id) (found t ps) refl
]

pub lives_are_configured : LivesAreConfigured
lives_are_configured values_of [] t = refl
lives_are_configured values_of (e ∷ past) t =
    after (documents (events values_of past)) (act t (event_of values_of (catalogue past) e)) (life t (events values_of past))
    ∙ (ap (meant_after (act t (event_of values_of (catalogue past) e))) (lives_are_configured values_of past t)
    ∙ entered values_of t (catalogue past) e (transforms past))

-- the meaning of a life is that of the transform
pub same_meaning : (values_of : ValuesOf) (past : List Entry) (t : List ℕ) (p : PutTransform) (l : Life) → transform_of t past ≡ Some p
    → life t (events values_of past) ≡ Some l → meaning_of p ≡ l.meaning
same_meaning values_of past t p l put is =
    same_Some (meaning_of p) l.meaning (ap (option_map meaning_of) (sym put) ∙ (sym (lives_are_configured values_of past t) ∙ ap meant is))

steady_from : (o : Option PutTransform) (c : Meaning) → option_map meaning_of o ≡ Some c → IsSteady c
steady_from None c e = absurd (let z : ◌≡◌ {A = Option Meaning} None (Some c) = e in cc)
steady_from (Some p) c e = subst IsSteady (same_Some (meaning_of p) c e) (configured_is_steady p.sources p.config)

pub lives_are_steady : LivesAreSteady
lives_are_steady values_of past t l is = steady_from (transform_of t past) l.meaning (sym (lives_are_configured values_of past t) ∙ ap meant is)

-- ---- legality
pub legal_entries_are_legal : LegalEntriesAreLegal
legal_entries_are_legal reading [] h = tt
legal_entries_are_legal reading (e ∷ past) h = (legal_entries_are_legal reading past h.0, h.1.allowed, h.1.later)

-- ---- prefixes
legal_before : (values_of : ValuesOf) (later past : List Entry) → IsLegal (events values_of (later ++ past)) → IsLegal (events values_of past)
legal_before values_of [] past h = h
legal_before values_of (e ∷ later) past h = legal_before values_of later past h.0

right_before : (values_of : ValuesOf) (m : ℕ) (later past : List Entry) → AllRight m (events values_of (later ++ past)) → AllRight m (events values_of past)
right_before values_of m [] past h = h
right_before values_of m (e ∷ later) past h = right_before values_of m later past h.0

-- ---- the grouping
some_is : (o : Option SyncTime) → is_some o ≡ true → is_none o ≡ false
some_is None e = absurd (let z : false ≡ true = e in cc)
some_is (Some sync) e = refl

in_words : (p : PutTransform) (l : Life) (past : List Event) → meaning_of p ≡ l.meaning → IsGrouped l past → IsGroupedBy p l past
in_words p l past same grouped = record {
  continuous = λ some none.
      grouped.0 (ap (λ (m : Meaning). m.is_batch) (sym same) ∙ some_is p.config.sync some) (ap (λ (m : Meaning). m.includes_late) (sym same)) none
      ∙ (ap (λ m. scratch m (last_bound l.checkpoints) (cutoff l.meaning l.checkpoints) (written l.meaning past)) (sym same)
      ∙ (meanings_agree p.sources p.config).scratch_is (last_bound l.checkpoints) (cutoff l.meaning l.checkpoints) (written l.meaning past));
  batch = λ none.
      grouped.1 (ap (λ (m : Meaning). m.is_batch) (sym same) ∙ ap is_none none)
      ∙ (ap (λ m. scratch m None (cutoff l.meaning l.checkpoints) (read_last l.checkpoints)) (sym same)
      ∙ (meanings_agree p.sources p.config).scratch_is None (cutoff l.meaning l.checkpoints) (read_last l.checkpoints));
}

pub entries_are_grouped : EntriesAreGrouped
entries_are_grouped values_of history legal right k t p l put is idle some =
    let before : List Entry = reverse (take k history) in
    let later : List Entry = reverse (drop k history) in
    let whole : reverse history ≡ later ++ before = prefix k history in
    let here = legal_before values_of later before (subst (λ p. IsLegal (events values_of p)) whole legal) in
    let pages = right_before values_of 0 later before (subst (λ p. AllRight 0 (events values_of p)) whole right) in
    let steady = lives_are_steady values_of before t l is in
    in_words p l (events values_of before) (same_meaning values_of before t p l put is)
    (grouped_here (events values_of before) t l (record { legal = here; right = pages_right t (events values_of before) pages; is = is; steady = steady }) idle some)
