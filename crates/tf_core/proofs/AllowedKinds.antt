-- The tests together say which entries are taken.
use Rattle.std.proofs.Common.{◌≡◌, ℕ, ◌<◌, Bool, true, false, ◌&&◌, List, length, map, Option, Some, None, refl, sym, ap, subst, ◌∙◌, arith}
use Rattle.std.specs.Prelude.{ℤ, ◌↔◌, slice_get, IsSomeAnd, reverse, option_map}
use Rattle.std.specs.List.{AllByRecursion, list_all}
use Rattle.std.specs.Ordering.{eq_by_cmp, int_eq}
use Rattle.std.specs.Str.{bytes_eq}
use Rattle.std.proofs.lemmas.Slice.Eq.{bytes_eq-Decides}
use Rattle.std.specs.Cmp.Derive.{both_true}
use Rattle.std.proofs.lemmas.Option.{same_Some}
use Rattle.tf_model.specs.declared.doc.Doc.{Doc}
use Rattle.tf_model.specs.declared.entry.Entry.{Entry}
use Rattle.tf_model.specs.declared.entry.Kind.{Kind}
use Rattle.tf_model.specs.declared.entry.Kind.TheVariants as kind
use Rattle.tf_model.specs.declared.entry.Row.{Row}
use Rattle.tf_model.specs.declared.entry.SumRange.{SumRange}
use Rattle.tf_model.specs.declared.value.Key.{Key}
use Rattle.tf_model.specs.Conditions.{AllFit, IsInRange}
use Rattle.tf_model.specs.Order.{key_cmp}
use Rattle.tf_model.specs.Scratch.{is_pivot}
use Rattle.tf_model.proofs.OrderLaws.{key_ties}
use Rattle.tf_history.specs.Catalogue.{SourceIndex, catalogue}
use Rattle.tf_history.specs.Legality.{IsAllowed, IsRunning, MayBegin, MayFail, MayFinish, MayPage, is_active, sum_now, told}
use Rattle.tf_history.specs.Legality as legality
use Rattle.tf_history.specs.LegalEntries.{FitsKind, IsRowOf, MayWrite}
use Rattle.tf_history.specs.Lives.{Life, life, documents, read_last}
use Rattle.tf_history.specs.Reading.{deed_of}
use Rattle.tf_history.specs.Transforms.{PutTransform, transform_of}
use Rattle.tf_core.specs.declared.transform.Transform.{Transform}
use Rattle.tf_core.specs.Allowing.{failure, has_none_left, is_empty, is_row_of, is_timely, is_told, keys_left, may_begin, may_do, may_finish, may_page, may_start, may_stop, read_by, test_at}
use Rattle.tf_core.specs.Built.{is_built}
use Rattle.tf_core.specs.BuiltPast.{HasShard, IsBuiltIndex, IsBuiltPut}
use Rattle.tf_core.specs.Legal.{reading, read, IsTaken}
use Rattle.tf_core.specs.Sources.{AreNamedOnce}
use Rattle.tf_core.specs.Standing.{Stands}
use Rattle.tf_core.specs.Summary.{IsSummary, put_of}
use Rattle.tf_core.specs.Table.{transform_at}
use Rattle.tf_core.specs.Texts.{HasTexts, HasValues}
use Rattle.tf_mapping.specs.Documents.{values_of}
use Rattle.tf_core.proofs.Allowed.{built, timely, is_timely_for, index_may, may_index}
use Rattle.tf_core.proofs.AllowedDocs.{document_may, may_document}
use Rattle.tf_core.proofs.AllowedRows.{page_may, may_page_now, finish_may, running_may, rows_are, are_rows, running_of}
use Rattle.tf_core.proofs.AllowedTransforms.{life_passes, passes_life, start_is, stop_is, begin_may, may_begin_now, transform_may, may_transform, put_is, form_is, is_pivot_there}
use Rattle.tf_core.proofs.BuiltPast.{all_weaken}
use Rattle.tf_core.proofs.NewestCheckpoint.{failing_is, failure_is, key_of, left_is}
use Rattle.tf_core.proofs.Fitting.{put_in_range, reads_fit, reads_have}
use Rattle.tf_core.proofs.LastMoment.{last_is_newest}
use Rattle.tf_core.proofs.Truths.{both, int_same, no_items, same_int}
use Rattle.tf_core.specs.Held.{last_ms_of}
use Rattle.tf_core.specs.Moves.{last_ms_in}

-- ---- a finish and a fail of the newest checkpoint
module _ (docs : List Doc) (t : Transform) (l : Life) (sum : IsSummary docs t l) (pivot : is_pivot t.config.shape ≡ true) where
  begun_some : (n : ℕ) → may_finish t n ≡ true → 0 < length l.checkpoints
  begun_some n e = let r = running_of docs t l sum n e in omega (arith, r.0, r.1)

  running_some : (n : ℕ) → IsRunning l n → 0 < length l.checkpoints
  running_some n r = omega (arith, r.0, r.1)

  pub finish_ok : (n : ℕ) → (may_finish t n && has_none_left t docs) ≡ true → MayFinish l n
  finish_ok n e =
      let parts = both (may_finish t n) (has_none_left t docs) e in
      finish_may docs t l sum n parts.0 (left_is docs t l sum pivot (begun_some n parts.0) ∙ no_items (keys_left t docs) parts.1)

  pub ok_finish : (n : ℕ) → MayFinish l n → (may_finish t n && has_none_left t docs) ≡ true
  ok_finish n m = both_true (running_may docs t l sum n m.running m.active) (ap is_empty (sym (left_is docs t l sum pivot (running_some n m.running)) ∙ m.nothing_left))

  -- a sum that is told
  told_is : (k : Key) (name : List ℕ) (value : ℤ) (o : Option SumRange) → is_told k name value o ≡ true → (found : SumRange) × (o ≡ Some found) × (found.key ≡ k) × (told found ≡ (name, value))
  told_is k name value None e = absurd (let z : false ≡ true = e in cc)
  told_is k name value (Some found) e =
      let a = both (eq_by_cmp key_cmp k found.key) (bytes_eq name found.name && int_eq value found.value) e in
      let b = both (bytes_eq name found.name) (int_eq value found.value) a.1 in
      (found, refl, sym ((key_ties k found.key).0 a.0), (λ i. (sym ((bytes_eq-Decides name found.name).0 b.0) i, sym (same_int value found.value b.1) i)))

  is_told_so : (k : Key) (name : List ℕ) (value : ℤ) (found : SumRange) → found.key ≡ k → told found ≡ (name, value) → is_told k name value (Some found) ≡ true
  is_told_so k name value found key tells =
      both_true ((key_ties k found.key).1 (sym key)) (both_true ((bytes_eq-Decides name found.name).1 (sym (ap (λ p. p.0) tells))) (int_same value found.value (sym (ap (λ p. p.1) tells))))

  pub fail_ok : (n : ℕ) (k : Key) (name : List ℕ) (value : ℤ) → (may_finish t n && is_told k name value (failure t docs)) ≡ true → MayFail l n k name value
  fail_ok n k name value e =
      let parts = both (may_finish t n) (is_told k name value (failure t docs)) e in
      let some = begun_some n parts.0 in
      let found = told_is k name value (failure t docs) parts.1 in
      let active = both _ _ parts.0 in
      record {
        running = running_of docs t l sum n parts.0;
        active = ap is_active (sym sum.state) ∙ active.1;
        first = failing_is docs t l sum pivot some ∙ (ap (option_map key_of) found.1 ∙ ap Some found.2);
        tells = ap (λ key. option_map told (sum_now l key)) (sym found.2)
            ∙ (ap (option_map told) (failure_is docs t l sum pivot some found.0 found.1) ∙ ap Some found.3);
      }

  pub ok_fail : (n : ℕ) (k : Key) (name : List ℕ) (value : ℤ) → MayFail l n k name value → (may_finish t n && is_told k name value (failure t docs)) ≡ true
  ok_fail n k name value m =
      let some = running_some n m.running in
      both_true (running_may docs t l sum n m.running m.active)
      (by (failure t docs) refl (sym (failing_is docs t l sum pivot some) ∙ m.first) m.tells)
    where
      by : (o : Option SumRange) → failure t docs ≡ o → option_map key_of o ≡ Some k → option_map told (sum_now l k) ≡ Some (name, value) → is_told k name value o ≡ true
      by None fails first tells = absurd (let z : ◌≡◌ {A = Option Key} None (Some k) = first in cc)
      by (Some found) fails first tells =
          let key : found.key ≡ k = same_Some found.key k first in
          let now : sum_now l k ≡ Some found = ap (sum_now l) (sym key) ∙ failure_is docs t l sum pivot (running_some n m.running) found fails in
          is_told_so k name value found key (same_Some (told found) (name, value) (sym (ap (option_map told) now) ∙ tells))

-- ---- each kind
module _ (past : List Entry) (indices : List SourceIndex) (docs : List Doc) (ts : List Transform) (s : Stands past indices docs ts) (moment : ℤ) where
  -- what is asked of an entry beside its moment and its actor
  pub record Passes (k : Kind) : Type 0 where
    pub fits : FitsKind reading past moment k
    pub allowed : IsAllowed moment (deed_of values_of (catalogue past) k) (read past)
    pub built_form : is_built k ≡ true

  from_test : (id : List ℕ) (test : Transform → Bool) (P : Life → Type 0) → ((t : Transform) (l : Life) → transform_at id ts ≡ Some t → life id (read past) ≡ Some l → IsSummary docs t l → test t ≡ true → P l)
      → test_at test (transform_at id ts) ≡ true → IsSomeAnd (life id (read past)) P
  from_test id test P f e = life_passes docs (transform_at id ts) (life id (read past)) test P (s.lives id) f e

  to_test : (id : List ℕ) (test : Transform → Bool) (P : Life → Type 0) → ((t : Transform) (l : Life) → transform_at id ts ≡ Some t → life id (read past) ≡ Some l → IsSummary docs t l → P l → test t ≡ true)
      → IsSomeAnd (life id (read past)) P → test_at test (transform_at id ts) ≡ true
  to_test id test P f p = passes_life docs (transform_at id ts) (life id (read past)) test P (s.lives id) f p

  -- what is said of all documents written is said of those that are kept
  at_docs : (P : List Doc → Type 0) → P docs → P (documents (read past))
  at_docs P known = subst P (sym s.docs_are) known

  of_docs : (P : List Doc → Type 0) → P (documents (read past)) → P docs
  of_docs P known = subst P s.docs_are known

  -- the rows of a page, by the transform that was put
  abbrev RowsFit : List ℕ → List Row → Type 0
  RowsFit id rows = IsSomeAnd (transform_of id past) (λ p. IsSomeAnd (life id (read past)) (λ l. AllByRecursion (IsRowOf p.config.shape (read_last l.checkpoints)) rows))

  page_from : (id : List ℕ) (n : ℕ) (rows : List Row) → test_at (λ t. may_page t n rows) (transform_at id ts) ≡ true → RowsFit id rows × IsSomeAnd (life id (read past)) (λ l. MayPage l n rows)
  page_from id n rows e = (
    subst (λ o. IsSomeAnd o (λ (p : PutTransform). IsSomeAnd (life id (read past)) (λ l. AllByRecursion (IsRowOf p.config.shape (read_last l.checkpoints)) rows))) (sym (put_is past indices docs ts s id)) (rows_fit (transform_at id ts) refl e),
    from_test id (λ t. may_page t n rows) (λ l. MayPage l n rows) (λ t l there is sum pass. (page_may docs t l sum n rows pass).0) e,
  )
    where
      rows_fit : (o : Option Transform) → transform_at id ts ≡ o → test_at (λ t. may_page t n rows) o ≡ true
          → IsSomeAnd (option_map put_of o) (λ (p : PutTransform). IsSomeAnd (life id (read past)) (λ l. AllByRecursion (IsRowOf p.config.shape (read_last l.checkpoints)) rows))
      rows_fit None there e = absurd (let z : false ≡ true = e in cc)
      rows_fit (Some t) there e =
          from_test id (λ u. may_page u n rows) (λ l. AllByRecursion (IsRowOf t.config.shape (read_last l.checkpoints)) rows)
          (λ u l here is sum pass. rows_are t.config.shape (read_last l.checkpoints) rows (subst (λ (v : Transform). list_all (is_row_of v.config.shape) rows ≡ true) (same_Some u t (sym here ∙ there)) (page_may docs u l sum n rows pass).1))
          (ap (test_at (λ u. may_page u n rows)) there ∙ e)

  page_to : (id : List ℕ) (n : ℕ) (rows : List Row) → RowsFit id rows → IsSomeAnd (life id (read past)) (λ l. MayPage l n rows) → test_at (λ t. may_page t n rows) (transform_at id ts) ≡ true
  page_to id n rows fit may =
      to_test id (λ t. may_page t n rows) (λ l. MayPage l n rows)
      (λ t l there is sum m.
      let here : IsSomeAnd (option_map put_of (Some t)) (λ (p : PutTransform). IsSomeAnd (Some l) (λ l. AllByRecursion (IsRowOf p.config.shape (read_last l.checkpoints)) rows))
      = subst (λ o. IsSomeAnd (option_map put_of (Some t)) (λ (p : PutTransform). IsSomeAnd o (λ l. AllByRecursion (IsRowOf p.config.shape (read_last l.checkpoints)) rows))) is
      (subst (λ o. IsSomeAnd o (λ (p : PutTransform). IsSomeAnd (life id (read past)) (λ l. AllByRecursion (IsRowOf p.config.shape (read_last l.checkpoints)) rows))) (put_is past indices docs ts s id ∙ ap (option_map put_of) there) fit) in
      may_page_now docs t l sum n rows m (are_rows t.config.shape (read_last l.checkpoints) rows (is_pivot_there past indices docs ts s id t there) here))
      may

  pub passes : (k : Kind) → may_do indices docs ts moment k ≡ true → Passes k
  unfolding reading
  passes (kind.Index name shards mapping stamp quick) e =
      record { fits = index_may past indices docs ts s (record { name = name; shards = shards; mapping = mapping; stamp = stamp; quick = quick }) e; allowed = tt; built_form = refl }
  passes (kind.Write index shard seq id tree) e = record {
    fits = subst (λ (p : List SourceIndex × List Doc). IsSomeAnd (slice_get p.0 index) (λ i. MayWrite reading p.1 moment i index shard seq id tree)) (λ i. (sym s.indices_are i, sym s.docs_are i))
        (document_may docs moment index shard seq id tree (slice_get indices index) e);
    allowed = tt;
    built_form = refl;
  }
  passes (kind.Put id config) e = let m = transform_may past indices docs ts s id config e in record { fits = m.0; allowed = m.1; built_form = m.2 }
  passes (kind.Start id) e = record { fits = tt; allowed = from_test id may_start (λ l. legality.may_start l ≡ true) (λ t l there is sum pass. sym (start_is docs t l sum) ∙ pass) e; built_form = refl }
  passes (kind.Stopped id) e = record { fits = tt; allowed = from_test id may_stop (λ l. legality.may_stop l.state l ≡ true) (λ t l there is sum pass. sym (stop_is docs t l sum) ∙ pass) e; built_form = refl }
  passes (kind.Begin id n bound) e = record {
    fits = tt;
    allowed = from_test id (λ t. may_begin t docs n bound moment) (λ l. MayBegin l (documents (read past)) n bound moment)
        (λ t l there is sum pass. at_docs (λ ds. MayBegin l ds n bound moment) (begin_may docs t l sum n bound moment pass)) e;
    built_form = refl;
  }
  passes (kind.Page id n rows) e = let p = page_from id n rows e in record { fits = p.0; allowed = p.1; built_form = refl }
  passes (kind.Finish id n) e = record {
    fits = tt;
    allowed = from_test id (λ t. may_finish t n && has_none_left t docs) (λ l. MayFinish l n) (λ t l there is sum pass. finish_ok docs t l sum (is_pivot_there past indices docs ts s id t there) n pass) e;
    built_form = refl;
  }
  passes (kind.Delete id) e = absurd (let z : false ≡ true = e in cc)
  passes (kind.Reset id) e = absurd (let z : false ≡ true = e in cc)
  passes (kind.StopAsked id wait) e = absurd (let z : false ≡ true = e in cc)
  passes (kind.Schedule id) e = absurd (let z : false ≡ true = e in cc)
  passes (kind.Fail id n key name value) e = record {
    fits = tt;
    allowed = from_test id (λ t. may_finish t n && is_told key name value (failure t docs)) (λ l. MayFail l n key name value)
        (λ t l there is sum pass. fail_ok docs t l sum (is_pivot_there past indices docs ts s id t there) n key name value pass) e;
    built_form = refl;
  }

  pub does : (k : Kind) → Passes k → may_do indices docs ts moment k ≡ true
  unfolding reading
  does (kind.Index name shards mapping stamp quick) p = may_index past indices docs ts s (record { name = name; shards = shards; mapping = mapping; stamp = stamp; quick = quick }) p.fits
  does (kind.Write index shard seq id tree) p =
      may_document docs moment index shard seq id tree (slice_get indices index)
      (subst (λ (q : List SourceIndex × List Doc). IsSomeAnd (slice_get q.0 index) (λ i. MayWrite reading q.1 moment i index shard seq id tree)) (λ i. (s.indices_are i, s.docs_are i)) p.fits)
  does (kind.Put id config) p = may_transform past indices docs ts s id config p.fits p.allowed p.built_form
  does (kind.Start id) p = to_test id may_start (λ l. legality.may_start l ≡ true) (λ t l there is sum m. start_is docs t l sum ∙ m) p.allowed
  does (kind.Stopped id) p = to_test id may_stop (λ l. legality.may_stop l.state l ≡ true) (λ t l there is sum m. stop_is docs t l sum ∙ m) p.allowed
  does (kind.Begin id n bound) p =
      to_test id (λ t. may_begin t docs n bound moment) (λ l. MayBegin l (documents (read past)) n bound moment)
      (λ t l there is sum m. may_begin_now docs t l sum n bound moment (of_docs (λ ds. MayBegin l ds n bound moment) m)) p.allowed
  does (kind.Page id n rows) p = page_to id n rows p.fits p.allowed
  does (kind.Finish id n) p = to_test id (λ t. may_finish t n && has_none_left t docs) (λ l. MayFinish l n) (λ t l there is sum m. ok_finish docs t l sum (is_pivot_there past indices docs ts s id t there) n m) p.allowed
  does (kind.Delete id) p = absurd (let z : false ≡ true = p.built_form in cc)
  does (kind.Reset id) p = absurd (let z : false ≡ true = p.built_form in cc)
  does (kind.StopAsked id wait) p = absurd (let z : false ≡ true = p.built_form in cc)
  does (kind.Schedule id) p = absurd (let z : false ≡ true = p.built_form in cc)
  does (kind.Fail id n key name value) p =
      to_test id (λ t. may_finish t n && is_told key name value (failure t docs)) (λ l. MayFail l n key name value) (λ t l there is sum m. ok_fail docs t l sum (is_pivot_there past indices docs ts s id t there) n key name value m) p.allowed

  pub taken_is : (e : Entry) → e.at_ms ≡ moment → (is_timely (last_ms_in past) e.at_ms e.actor && may_do indices docs ts e.at_ms e.kind) ≡ true → IsTaken past e
  unfolding reading
  taken_is e at test =
      let parts = both (is_timely (last_ms_in past) e.at_ms e.actor) (may_do indices docs ts e.at_ms e.kind) test in
      let time = timely past e.at_ms e.actor parts.0 in
      let p = passes e.kind (subst (λ m. may_do indices docs ts m e.kind ≡ true) at parts.1) in
      record {
        legal = record {
          moment = time.0;
          later = time.1;
          actor = time.2;
          fits = subst (λ m. FitsKind reading past m e.kind) (sym at) p.fits;
          allowed = subst (λ m. IsAllowed m (deed_of values_of (catalogue past) e.kind) (read past)) (sym at) p.allowed;
        };
        built = p.built_form;
      }

  pub is_taken_by : (e : Entry) → e.at_ms ≡ moment → IsTaken past e → (is_timely (last_ms_in past) e.at_ms e.actor && may_do indices docs ts e.at_ms e.kind) ≡ true
  unfolding reading
  is_taken_by e at t =
      both_true (is_timely_for past e.at_ms e.actor t.legal.moment t.legal.later t.legal.actor)
      (subst (λ m. may_do indices docs ts m e.kind ≡ true) (sym at)
      (does e.kind (record {
        fits = subst (λ m. FitsKind reading past m e.kind) at t.legal.fits;
        allowed = subst (λ m. IsAllowed m (deed_of values_of (catalogue past) e.kind) (read past)) at t.legal.allowed;
        built_form = t.built;
      })))

-- an entry is taken exactly where the tests pass
pub taken_exactly : (past : List Entry) (indices : List SourceIndex) (docs : List Doc) (ts : List Transform) (e : Entry) → Stands past indices docs ts
    → ((is_timely (last_ms_in past) e.at_ms e.actor && may_do indices docs ts e.at_ms e.kind) ≡ true) ↔ IsTaken past e
taken_exactly past indices docs ts e s = (taken_is past indices docs ts s e.at_ms e refl, is_taken_by past indices docs ts s e.at_ms e refl)

-- the configuration and the documents of a transform that is there are in range
module _ (past : List Entry) (indices : List SourceIndex) (docs : List Doc) (ts : List Transform) (s : Stands past indices docs ts) where
  pub have_shards : AllByRecursion HasShard indices
  have_shards = all_weaken IsBuiltIndex HasShard (λ i is. is.some_shard) indices (built past indices docs ts s).each_index

  pub named_once : AreNamedOnce indices
  named_once = (built past indices docs ts s).named_once

  module _ (id : List ℕ) (t : Transform) (there : transform_at id ts ≡ Some t) where
    there_is : IsBuiltPut indices (put_of t)
    there_is = form_is past indices docs ts s id t there

    pub config_in_range : IsInRange t.config
    config_in_range = put_in_range indices (put_of t) there_is

    pub docs_fit : AllFit t.config (read_by t docs)
    docs_fit = reads_fit indices docs (map put_of ts) (built past indices docs ts s) (put_of t) there_is t.read

    -- what is known of the texts of documents is known of the values that the transform reads
    pub docs_have : (P : List ℕ → Type 0) → AllByRecursion (HasTexts P) docs → AllByRecursion (HasValues P) (read_by t docs)
    docs_have P known = reads_have indices docs (map put_of ts) (built past indices docs ts s) (put_of t) there_is P t.read known

-- the same by the answers of the tests
pub taken_by : (history : List Entry) (indices : List SourceIndex) (docs : List Doc) (ts : List Transform) (e : Entry) (is_time may : Bool) → Stands (reverse history) indices docs ts
    → is_time ≡ is_timely (last_ms_of history) e.at_ms e.actor → may ≡ may_do indices docs ts e.at_ms e.kind → ((is_time && may) ≡ true) ↔ IsTaken (reverse history) e
taken_by history indices docs ts e is_time may s time does =
    subst (λ b. (b ≡ true) ↔ IsTaken (reverse history) e) ((λ i. is_timely (last_is_newest history i) e.at_ms e.actor && may_do indices docs ts e.at_ms e.kind) ∙ (λ i. sym time i && sym does i))
    (taken_exactly (reverse history) indices docs ts e s)
