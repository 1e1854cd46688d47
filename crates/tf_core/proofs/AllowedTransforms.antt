-- What may be done to a transform.
use Rattle.std.proofs.Common.{◌≡◌, ℕ, ◌+◌, ◌<◌, Bool, true, false, ◌&&◌, not, List, [], ◌∷◌, length, map, Option, Some, None, refl, sym, ap, subst, ◌∙◌, ltb-true, lt-ltb}
use Rattle.std.specs.Prelude.{ℤ, ◌||◌, nat_lt, IsSomeAnd, is_none, if◌then◌else◌, option_map}
use Rattle.std.specs.List.{AllByRecursion, find}
use Rattle.std.specs.Cmp.Derive.{both_true}
use Rattle.std.proofs.lemmas.List.{length-map}
use Rattle.std.proofs.lemmas.Option.{same_Some}
use Rattle.tf_model.specs.declared.config.Config.{Config}
use Rattle.tf_model.specs.declared.doc.Doc.{Doc}
use Rattle.tf_model.specs.declared.entry.Entry.{Entry}
use Rattle.tf_model.specs.declared.task.State.{State}
use Rattle.tf_model.specs.declared.task.State.TheVariants as state
use Rattle.tf_model.specs.Scratch.{is_pivot}
use Rattle.tf_history.specs.Catalogue.{SourceIndex, catalogue}
use Rattle.tf_history.specs.Legality as legality
use Rattle.tf_history.specs.Legality.{MayBegin, is_started, is_stopped}
use Rattle.tf_history.specs.LegalEntries.{MayPut}
use Rattle.tf_history.specs.Lives.{Life, life, is_same}
use Rattle.tf_history.specs.Transforms.{PutTransform, transforms, transform_of}
use Rattle.tf_core.specs.declared.transform.Transform.{Transform}
use Rattle.tf_config.specs.Refusals.{passes}
use Rattle.tf_core.specs.Allowing.{bound_at, has_names, is_same_bound, takes_transform, is_over, may_start, may_stop, may_stop_in, may_begin, test_at}
use Rattle.tf_core.specs.Built.{is_built_config}
use Rattle.tf_core.specs.BuiltPast.{IsBuiltPut}
use Rattle.tf_core.specs.Legal.{reading, read}
use Rattle.tf_core.specs.Standing.{Stands}
use Rattle.tf_core.specs.Sources.{catalogued}
use Rattle.tf_core.specs.Summary.{IsSummary, put_of}
use Rattle.tf_core.specs.Table.{Tells, transform_at}
use Rattle.tf_core.proofs.Allowed.{built, free_is}
use Rattle.tf_core.proofs.Due.{bound_at_is, due_is}
use Rattle.tf_core.proofs.Fitting.{form_of}
use Rattle.tf_core.proofs.Truths.{both, int_same, none_of, nat_same, same_int, same_nat}

-- ---- lives and transforms
pub no_life : (docs : List Doc) (l : Option Life) → Tells docs None l → l ≡ None
no_life docs None h = refl
no_life docs (Some l) h = absurd h

-- what a test says of a transform that is there it says of its life
pub life_passes : (docs : List Doc) (o : Option Transform) (m : Option Life) (test : Transform → Bool) (P : Life → Type 0) → Tells docs o m
    → ((t : Transform) (l : Life) → o ≡ Some t → m ≡ Some l → IsSummary docs t l → test t ≡ true → P l) → test_at test o ≡ true → IsSomeAnd m P
life_passes docs None m test P tells f e = absurd (let z : false ≡ true = e in cc)
life_passes docs (Some t) None test P tells f e = absurd tells
life_passes docs (Some t) (Some l) test P tells f e = f t l refl refl tells e

pub passes_life : (docs : List Doc) (o : Option Transform) (m : Option Life) (test : Transform → Bool) (P : Life → Type 0) → Tells docs o m
    → ((t : Transform) (l : Life) → o ≡ Some t → m ≡ Some l → IsSummary docs t l → P l → test t ≡ true) → IsSomeAnd m P → test_at test o ≡ true
passes_life docs None None test P tells f p = absurd p
passes_life docs None (Some l) test P tells f p = absurd tells
passes_life docs (Some t) None test P tells f p = absurd p
passes_life docs (Some t) (Some l) test P tells f p = f t l refl refl tells p

-- ---- starting and stopping
module _ (docs : List Doc) (t : Transform) (l : Life) (s : IsSummary docs t l) where
  pub batch_is : l.meaning.is_batch ≡ is_none t.config.sync
  batch_is = ap (λ m. m.is_batch) s.meaning_is

  over_is : is_over t ≡ legality.is_over l
  over_is = λ i. sym batch_is i && nat_lt 0 (s.finished i)

  pub start_is : may_start t ≡ legality.may_start l
  start_is = λ i. is_stopped (s.state i) && not (over_is i)

  stop_by : (st : State) → may_stop_in st t ≡ legality.may_stop st l
  stop_by state.Stopping = λ i. not (s.waits i) || not (nat_lt (s.finished i) (s.begun i))
  stop_by state.Started = over_is
  stop_by state.Stopped = refl
  stop_by state.Indexing = refl
  stop_by state.Failed = refl

  pub stop_is : may_stop t ≡ legality.may_stop l.state l
  stop_is = ap (λ st. may_stop_in st t) s.state ∙ stop_by l.state

  -- ---- beginning
  started_is : (st : State) → is_started st ≡ true → st ≡ state.Started
  started_is state.Started e = refl
  started_is state.Stopped e = absurd (let z : false ≡ true = e in cc)
  started_is state.Indexing e = absurd (let z : false ≡ true = e in cc)
  started_is state.Stopping e = absurd (let z : false ≡ true = e in cc)
  started_is state.Failed e = absurd (let z : false ≡ true = e in cc)

  same_bound : (a b : Option ℤ) → is_same_bound a b ≡ true → a ≡ b
  same_bound None None e = refl
  same_bound None (Some y) e = absurd (let z : false ≡ true = e in cc)
  same_bound (Some x) None e = absurd (let z : false ≡ true = e in cc)
  same_bound (Some x) (Some y) e = ap Some (same_int x y e)

  bound_same : (a b : Option ℤ) → a ≡ b → is_same_bound a b ≡ true
  bound_same a b e = subst (λ o. is_same_bound a o ≡ true) e (itself a)
    where
      itself : (o : Option ℤ) → is_same_bound o o ≡ true
      itself None = refl
      itself (Some x) = int_same x x refl

  module _ (n : ℕ) (bound : Option ℤ) (moment : ℤ) where
    pub begin_may : may_begin t docs n bound moment ≡ true → MayBegin l docs n bound moment
    begin_may e =
        let a = both _ _ e in
        let b = both _ _ a.1 in
        let c = both _ _ b.1 in
        let d = both _ _ c.1 in
        record {
          started = sym s.state ∙ started_is t.state a.0;
          idle = sym s.finished ∙ (sym (same_nat _ _ b.0) ∙ s.begun);
          due = sym (due_is docs t l s moment) ∙ d.1;
          number = same_nat _ _ c.0 ∙ ap (λ m. m + 1) s.finished;
          bound_is = same_bound bound (bound_at t moment) d.0 ∙ bound_at_is docs t l s moment;
        }

    pub may_begin_now : MayBegin l docs n bound moment → may_begin t docs n bound moment ≡ true
    may_begin_now m =
        both_true (ap is_started (s.state ∙ m.started)) (both_true (nat_same _ _ (s.begun ∙ (sym m.idle ∙ sym s.finished))) (both_true (nat_same _ _ (m.number ∙ ap (λ k. k + 1) (sym s.finished)))
        (both_true (bound_same bound (bound_at t moment) (m.bound_is ∙ sym (bound_at_is docs t l s moment))) (due_is docs t l s moment ∙ m.due))))

-- ---- putting
module _ (past : List Entry) (indices : List SourceIndex) (docs : List Doc) (ts : List Transform) (s : Stands past indices docs ts) where
  count_is : length (transforms past) ≡ length ts
  count_is = ap length s.transforms_are ∙ length-map ts put_of

  checks_are : (config : Config) → passes (catalogued (catalogue past)) config ≡ passes (catalogued indices) config
  checks_are config = ap (λ is. passes (catalogued is) config) s.indices_are

  pub transform_may : (id : List ℕ) (config : Config) → takes_transform indices ts id config ≡ true → MayPut reading past id config × (life id (read past) ≡ None) × (is_built_config config ≡ true)
  unfolding reading
  transform_may id config e =
      let parts = both (has_names indices ts id config.dest) (is_built_config config && passes (catalogued indices) config) e in
      let checks = both (is_built_config config) (passes (catalogued indices) config) parts.1 in
      let a = both _ _ parts.0 in
      let b = both _ _ a.1 in
      let c = both _ _ b.1 in
      let below : length ts < 64 = ltb-true _ _ c.0 in (
        record {
          well_formed = a.0;
          few = subst (λ n. n < 64) (sym count_is) below;
          checked = checks_are config ∙ checks.1;
          dest_free = free_is past indices docs ts s config.dest ∙ c.1;
        },
        no_life docs (life id (read past)) (subst (λ o. Tells docs o (life id (read past))) (none_of (transform_at id ts) b.0) (s.lives id)),
        checks.0,
      )

  not_there : (id : List ℕ) → life id (read past) ≡ None → is_none (transform_at id ts) ≡ true
  not_there id none = by (transform_at id ts) (subst (Tells docs (transform_at id ts)) none (s.lives id))
    where
      by : (o : Option Transform) → Tells docs o None → is_none o ≡ true
      by None h = refl
      by (Some t) h = absurd h

  pub may_transform : (id : List ℕ) (config : Config) → MayPut reading past id config → life id (read past) ≡ None → is_built_config config ≡ true → takes_transform indices ts id config ≡ true
  unfolding reading
  may_transform id config m none form =
      both_true
      (both_true m.well_formed (both_true (not_there id none) (both_true (lt-ltb _ _ (subst (λ n. n < 64) count_is m.few)) (sym (free_is past indices docs ts s config.dest) ∙ m.dest_free))))
      (both_true form (sym (checks_are config) ∙ m.checked))

  -- ---- the transform that is there
  found_put : (id : List ℕ) (ts : List Transform) → find (λ (p : PutTransform). is_same id p.id) (map put_of ts) ≡ option_map put_of (transform_at id ts)
  found_put id [] = refl
  found_put id (t ∷ ts) = by (is_same id t.id) (found_put id ts)
    where
      by : (b : Bool) → find (λ (p : PutTransform). is_same id p.id) (map put_of ts) ≡ option_map put_of (transform_at id ts)
          → (if b then Some (put_of t) else find (λ (p : PutTransform). is_same id p.id) (map put_of ts)) ≡ option_map put_of (if b then Some t else transform_at id ts)
      by true e = refl
      by false e = e

  pub put_is : (id : List ℕ) → transform_of id past ≡ option_map put_of (transform_at id ts)
  put_is id = ap (find (λ (p : PutTransform). is_same id p.id)) s.transforms_are ∙ found_put id ts

  all_found : (P : PutTransform → Type 0) (id : List ℕ) (t : Transform) (ts : List Transform) → AllByRecursion P (map put_of ts) → transform_at id ts ≡ Some t → P (put_of t)
  all_found P id t [] all e = absurd (let z : ◌≡◌ {A = Option Transform} None (Some t) = e in cc)
  all_found P id t (u ∷ ts) all e = by (is_same id u.id) refl e (λ f. all_found P id t ts all.1 f)
    where
      by : (b : Bool) → is_same id u.id ≡ b → (if b then Some u else transform_at id ts) ≡ Some t → (transform_at id ts ≡ Some t → P (put_of t)) → P (put_of t)
      by true same f rest = subst (λ v. P (put_of v)) (same_Some u t f) all.0
      by false same f rest = rest f

  -- a transform that is there is a pivot over indices that are there
  pub form_is : (id : List ℕ) (t : Transform) → transform_at id ts ≡ Some t → IsBuiltPut indices (put_of t)
  form_is id t e = all_found (IsBuiltPut indices) id t ts (built past indices docs ts s).each_put e

  pub is_pivot_there : (id : List ℕ) (t : Transform) → transform_at id ts ≡ Some t → is_pivot t.config.shape ≡ true
  is_pivot_there id t e = (form_of t.config (form_is id t e).form).pivot

  -- what is known of each transform as it was put
  pub known_of : (P : PutTransform → Type 0) (id : List ℕ) (t : Transform) → transform_at id ts ≡ Some t → AllByRecursion P (transforms past) → P (put_of t)
  known_of P id t e all = all_found P id t ts (subst (AllByRecursion P) s.transforms_are all) e
