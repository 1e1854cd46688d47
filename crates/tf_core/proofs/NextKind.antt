-- What the next move does, as an entry's kind, and that its entry is taken.
use Rattle.std.proofs.Common.{◌≡◌, ℕ, zero, suc, ◌+◌, ◌<◌, ◌≤◌, ◌^◌, Bool, true, false, ◌&&◌, not, List, [], ◌∷◌, length, length-take, map, take, Option, Some, None, refl, sym, ap, subst, ◌∙◌, arith, ltb-true}
use Rattle.std.specs.Prelude.{ℤ, pos, ◌≤ℤ◌, int_le, nat_lt, IsSomeAnd, IfSome, if◌then◌else◌, option_map, option_and_then}
use Rattle.std.specs.List.{AllByRecursion}
use Rattle.std.proofs.lemmas.Int.{ints}
use Rattle.std.proofs.lemmas.List.{length-map}
use Rattle.std.proofs.lemmas.List.Elements.{recursion_from_All}
use Rattle.tf_model.specs.declared.doc.Doc.{Doc}
use Rattle.tf_model.specs.declared.entry.Entry.{Entry}
use Rattle.tf_model.specs.declared.entry.Kind.{Kind}
use Rattle.tf_model.specs.declared.entry.Kind.TheVariants as kind
use Rattle.tf_model.specs.declared.entry.Row.{Row}
use Rattle.tf_model.specs.declared.entry.SumRange.{SumRange}
use Rattle.tf_model.specs.declared.value.Key.{Key}
use Rattle.tf_model.specs.Conditions.{Fits, IsSpan, greatest_date}
use Rattle.tf_model.specs.Counted.{counted, counts}
use Rattle.tf_model.specs.Rows.{or_else, pivot_row}
use Rattle.tf_model.specs.Scratch.{is_pivot}
use Rattle.tf_model.proofs.RangeLaws.{range_key}
use Rattle.tf_history.specs.Catalogue.{SourceIndex, catalogue}
use Rattle.tf_history.specs.Events.{Deed}
use Rattle.tf_history.specs.Events.Deed.{Stopped, Fail, Begin, Page, Finish}
use Rattle.tf_history.specs.Legality.{IsAllowed, IsNotBefore, MayFail, MayFinish, MayPage, is_active, is_started, next_move}
use Rattle.tf_history.specs.LegalEntries.{FitsKind, IsRowOf}
use Rattle.tf_history.specs.Lives.{Life, life, read_last}
use Rattle.tf_history.specs.Reading as history
use Rattle.tf_history.specs.Transforms.{PutTransform, transform_of}
use Rattle.tf_history.proofs.MovesLaw.{moves_are_legal}
use Rattle.tf_core.specs.declared.moving.Next.{Next}
use Rattle.tf_core.specs.declared.moving.Next.TheVariants as turn
use Rattle.tf_core.specs.declared.paging.NextPage.{NextPage}
use Rattle.tf_core.specs.declared.paging.NextPage.TheVariants as page
use Rattle.tf_core.specs.declared.transform.Transform.{Transform}
use Rattle.tf_core.specs.Allowing.{bound_at, first_wide, is_due, keys_left, keys_next, may_stop, read_by, wide_sum_at}
use Rattle.tf_core.specs.Built.{is_built}
use Rattle.tf_core.specs.Legal.{IsTaken, IsTakenPast, read, reading}
use Rattle.tf_core.specs.Moves.{IsNextPage, IsPage, clamped, is_moved_on, kind_by, kind_of, last_ms_in, moment_after, moved, what_next}
use Rattle.tf_core.specs.Sources.{is_among}
use Rattle.tf_core.specs.Standing.{Stands}
use Rattle.tf_core.specs.Summary.{IsSummary, put_of}
use Rattle.tf_core.specs.Table.{Tells, transform_at}
use Rattle.tf_core.specs.Texts.{HasTexts, HasValues, IsRowFor, IsShort, IsShortConfig, IsShortKind}
use Rattle.tf_mapping.specs.Documents.{values_of}
use Rattle.tf_core.proofs.AllowedKinds.{config_in_range, docs_fit, docs_have}
use Rattle.tf_core.proofs.AllowedTransforms.{is_pivot_there, put_is}
use Rattle.tf_core.proofs.NewestCheckpoint.{first_is}
use Rattle.tf_core.proofs.KeyParts.{IsDocOf, IsKeyBy, all_kept, changed_keys}
use Rattle.tf_core.proofs.NextMove.{deed_by, deed_of, move_is, page_next}
use Rattle.tf_core.proofs.PageRows.{rows_are, rows_of_shape, short_rows, sum_is_told}
use Rattle.tf_core.proofs.Sums.{few_filter}
use Rattle.tf_core.proofs.Taken.{read_is_legal}
use Rattle.tf_core.proofs.Truths.{both, int_at_most}

-- ---- the tests behind a choice
abbrev choice : Bool → Bool → Bool → ℕ → Option ℤ → Next
choice stop begin index n bound = if stop then turn.Stopped else if begin then turn.Begin n bound else if index then turn.Page else turn.Nothing

moves_on : (stop begin index : Bool) (n : ℕ) (bound : Option ℤ) → choice stop begin index n bound ≡ turn.Page → (not stop && index) ≡ true
moves_on true begin index n bound e = absurd (let z : turn.Stopped ≡ turn.Page = e in cc)
moves_on false true index n bound e = absurd (let z : turn.Begin n bound ≡ turn.Page = e in cc)
moves_on false false true n bound e = refl
moves_on false false false n bound e = absurd (let z : turn.Nothing ≡ turn.Page = e in cc)

-- a transform that gets a page is moved on
pub page_moves_on : (t : Transform) (docs : List Doc) (moment : ℤ) → what_next t docs moment ≡ turn.Page → is_moved_on t ≡ true
page_moves_on t docs moment e = moves_on (may_stop t) (is_started t.state && is_due t docs moment) (nat_lt t.finished t.begun && is_active t.state) (t.finished + 1) (bound_at t moment) e

-- ---- a transform that is there has a life
pub record HasLife (past : List Entry) (docs : List Doc) (id : List ℕ) (t : Transform) : Type 0 where
  pub found : Life
  pub is : life id (read past) ≡ Some found
  pub tells : IsSummary docs t found

lived : (past : List Entry) (docs : List Doc) (id : List ℕ) (t : Transform) (o : Option Life) → life id (read past) ≡ o → Tells docs (Some t) o → HasLife past docs id t
lived past docs id t None is tells = absurd tells
lived past docs id t (Some l) is tells = record { found = l; is = is; tells = tells }

pub has_life : (past : List Entry) (indices : List SourceIndex) (docs : List Doc) (ts : List Transform) → Stands past indices docs ts → (id : List ℕ) (t : Transform) → transform_at id ts ≡ Some t → HasLife past docs id t
has_life past indices docs ts s id t there = lived past docs id t (life id (read past)) refl (subst (λ o. Tells docs o (life id (read past))) there (s.lives id))

module _ (past : List Entry) (indices : List SourceIndex) (docs : List Doc) (ts : List Transform) (s : Stands past indices docs ts) (id : List ℕ) (t : Transform) (there : transform_at id ts ≡ Some t) where
  abbrev h : HasLife past docs id t
  h = has_life past indices docs ts s id t there

  abbrev l : Life
  l = h.found

  some_size : 0 < l.meaning.page_size
  some_size =
      let range : 10 ≤ t.config.page_size = (config_in_range past indices docs ts s id t there).page_size.0 in
      subst (λ n. 0 < n) (sym (ap (λ m. m.page_size) h.tells.meaning_is)) (omega (arith, range))

  fine : (moment : ℤ) (deed : Deed) → next_move id (read past) moment ≡ Some deed → IsAllowed moment deed (read past)
  fine moment deed e = (moves_are_legal (read past) id moment deed (read_is_legal past s.taken) (subst (λ o. IfSome o (λ m. 0 < m.meaning.page_size)) (sym h.is) some_size) e).0

  next : (moment : ℤ) → next_move id (read past) moment ≡ deed_of past indices docs ts s id t l there h.is h.tells moment (what_next t docs moment)
  next moment = move_is past indices docs ts s id t l there h.is h.tells moment

  pub stop_deed : (moment : ℤ) → what_next t docs moment ≡ turn.Stopped → next_move id (read past) moment ≡ Some (Stopped id)
  stop_deed moment e = next moment ∙ ap (deed_of past indices docs ts s id t l there h.is h.tells moment) e

  pub no_deed : (moment : ℤ) → what_next t docs moment ≡ turn.Nothing → next_move id (read past) moment ≡ None
  no_deed moment e = next moment ∙ ap (deed_of past indices docs ts s id t l there h.is h.tells moment) e

  pub begin_deed : (moment : ℤ) (n : ℕ) (bound : Option ℤ) → what_next t docs moment ≡ turn.Begin n bound → next_move id (read past) moment ≡ Some (Begin id n bound)
  begin_deed moment n bound e = next moment ∙ ap (deed_of past indices docs ts s id t l there h.is h.tells moment) e

  some_begun : (moment : ℤ) → what_next t docs moment ≡ turn.Page → 0 < length l.checkpoints
  some_begun moment e =
      let moved = both (not (may_stop t)) (nat_lt t.finished t.begun && is_active t.state) (page_moves_on t docs moment e) in
      let below : t.finished < t.begun = ltb-true t.finished t.begun (both (nat_lt t.finished t.begun) (is_active t.state) moved.1).0 in
      omega (arith, below, h.tells.begun)

  page_deed : (moment : ℤ) → what_next t docs moment ≡ turn.Page → (p : NextPage) → IsNextPage t docs p
      → next_move id (read past) moment ≡ Some (deed_by past indices docs ts s id t l there h.is h.tells moment p)
  page_deed moment e p made =
      next moment ∙ (ap (deed_of past indices docs ts s id t l there h.is h.tells moment) e ∙ page_next past indices docs ts s id t l there h.is h.tells moment (some_begun moment e) p made)

  -- the same with the number that is kept
  abbrev now_by : NextPage → Deed
  now_by (page.Fails found) = Fail id t.begun found.key found.name found.value
  now_by (page.Rows []) = Finish id t.begun
  now_by (page.Rows (r ∷ rows)) = Page id t.begun (r ∷ rows)

  now_deed : (moment : ℤ) → what_next t docs moment ≡ turn.Page → (p : NextPage) → IsNextPage t docs p → next_move id (read past) moment ≡ Some (now_by p)
  now_deed moment e (page.Fails found) made =
      let is_next = page_deed moment e (page.Fails found) made in
      let may : MayFail l (l.finished + 1) found.key found.name found.value
      = subst (λ o. IsSomeAnd o (λ m. MayFail m (l.finished + 1) found.key found.name found.value)) h.is (fine moment (Fail id (l.finished + 1) found.key found.name found.value) is_next) in
      is_next ∙ ap (λ n. Some (Fail id n found.key found.name found.value)) (may.running.1 ∙ sym h.tells.begun)
  now_deed moment e (page.Rows []) made =
      let is_next = page_deed moment e (page.Rows []) made in
      let may : MayFinish l (l.finished + 1) = subst (λ o. IsSomeAnd o (λ m. MayFinish m (l.finished + 1))) h.is (fine moment (Finish id (l.finished + 1)) is_next) in
      is_next ∙ ap (λ n. Some (Finish id n)) (may.running.1 ∙ sym h.tells.begun)
  now_deed moment e (page.Rows (r ∷ rows)) made =
      let is_next = page_deed moment e (page.Rows (r ∷ rows)) made in
      let may : MayPage l (l.finished + 1) (r ∷ rows) = subst (λ o. IsSomeAnd o (λ m. MayPage m (l.finished + 1) (r ∷ rows))) h.is (fine moment (Page id (l.finished + 1) (r ∷ rows)) is_next) in
      is_next ∙ ap (λ n. Some (Page id n (r ∷ rows))) (may.running.1 ∙ sym h.tells.begun)

  kind_of_now : (p : NextPage) → kind_of (now_by p) ≡ Some (kind_by id t.begun p)
  kind_of_now (page.Fails found) = refl
  kind_of_now (page.Rows []) = refl
  kind_of_now (page.Rows (r ∷ rows)) = refl

  pub page_kind : (moment : ℤ) → what_next t docs moment ≡ turn.Page → (p : NextPage) → IsNextPage t docs p
      → Some (kind_by id t.begun p) ≡ option_and_then kind_of (next_move id (read past) moment)
  page_kind moment e p made = sym (ap (option_and_then kind_of) (now_deed moment e p made) ∙ kind_of_now p)

-- ---- the entry of the next move is taken
abbrev IsAny : List ℕ → Type 0
IsAny u = Unit {0}

any_texts : (docs : List Doc) → AllByRecursion (HasTexts IsAny) docs
any_texts [] = tt
any_texts (d ∷ docs) = (λ name u e. tt, any_texts docs)

module _ (past : List Entry) (indices : List SourceIndex) (docs : List Doc) (ts : List Transform) (s : Stands past indices docs ts) (id : List ℕ) (t : Transform) (there : transform_at id ts ≡ Some t) where
  -- the documents of a checkpoint, whatever is known of their texts
  known_docs : (P : List ℕ → Type 0) → AllByRecursion (HasTexts P) docs → AllByRecursion (IsDocOf P t.config) (read_by t docs)
  known_docs P known = both_all (read_by t docs) (docs_have past indices docs ts s id t there P known) (recursion_from_All (Fits t.config) (read_by t docs) (docs_fit past indices docs ts s id t there))
    where
      both_all : (ds : List Doc) → AllByRecursion (HasValues P) ds → AllByRecursion (Fits t.config) ds → AllByRecursion (IsDocOf P t.config) ds
      both_all [] a b = tt
      both_all (d ∷ ds) a b = ((a.0, b.0), both_all ds a.1 b.1)

  counted_docs : (P : List ℕ → Type 0) → AllByRecursion (HasTexts P) docs → AllByRecursion (IsDocOf P t.config) (counted t.config t.bound (read_by t docs))
  unfolding counted
  counted_docs P known = all_kept (IsDocOf P t.config) (counts t.config t.bound) (read_by t docs) (known_docs P known)

  few_counted : length docs < 2 ^ 63 → length (counted t.config t.bound (read_by t docs)) < 2 ^ 63
  unfolding counted
  few_counted few =
      let a = few_filter (counts t.config t.bound) (read_by t docs) in
      let b = few_filter (is_among t.sources) (take t.read docs) in
      let c = length-take t.read docs in
      omega (arith, few, a, b, c)

  pivot : is_pivot t.config.shape ≡ true
  pivot = is_pivot_there past indices docs ts s id t there

  keys_left_are : (P : List ℕ → Type 0) → AllByRecursion (HasTexts P) docs → AllByRecursion (IsKeyBy P t.config) (keys_next t docs)
  keys_left_are P known =
      all_first (IsKeyBy P t.config) t.config.page_size (keys_left t docs)
      (changed_keys P t.config pivot (config_in_range past indices docs ts s id t there) t.low t.bound t.position (read_by t docs) (known_docs P known))
    where
      all_first : {X : Type 0} (Q : X → Type 0) (n : ℕ) (xs : List X) → AllByRecursion Q xs → AllByRecursion Q (take n xs)
      all_first Q zero xs all = tt
      all_first Q (suc n) [] all = tt
      all_first Q (suc n) (x ∷ xs) all = (all.0, all_first Q n xs all.1)

  page_rows : (P : List ℕ → Type 0) → AllByRecursion (HasTexts P) docs → length docs < 2 ^ 63 → (rows : List Row) → IsPage t docs rows → AllByRecursion (IsRowFor P t.config) rows
  page_rows P known few rows made = rows_are P t.config (keys_next t docs) (counted t.config t.bound (read_by t docs)) rows (counted_docs P known) (few_counted few) (keys_left_are P known) made

  abbrev IsTimely : ℤ → Type 0
  IsTimely moment = IsSpan moment × IsNotBefore moment (read past)

  -- an entry of a deed that comes next
  taken_next : (moment : ℤ) (k : Kind) (deed : Deed) → IsTimely moment → next_move id (read past) moment ≡ Some deed → history.deed_of values_of (catalogue past) k ≡ deed → FitsKind reading past moment k
      → is_built k ≡ true → IsTaken past (moved moment k)
  unfolding reading
  taken_next moment k deed time next same fits form = record {
    legal = record {
      moment = time.0;
      later = time.1;
      actor = omega arith;
      fits = fits;
      allowed = subst (λ d. IsAllowed moment d (read past)) (sym same) (fine past indices docs ts s id t there moment deed next);
    };
    built = form;
  }

  pub stop_taken : (moment : ℤ) → what_next t docs moment ≡ turn.Stopped → IsTimely moment → IsTaken past (moved moment (kind.Stopped id))
  stop_taken moment e time = taken_next moment (kind.Stopped id) (Stopped id) time (stop_deed past indices docs ts s id t there moment e) refl tt refl

  pub begin_taken : (moment : ℤ) (n : ℕ) (bound : Option ℤ) → what_next t docs moment ≡ turn.Begin n bound → IsTimely moment → IsTaken past (moved moment (kind.Begin id n bound))
  begin_taken moment n bound e time = taken_next moment (kind.Begin id n bound) (Begin id n bound) time (begin_deed past indices docs ts s id t there moment n bound e) refl tt refl

  -- the texts of the next entry are short
  pub page_short : AllByRecursion (HasTexts IsShort) docs → IsShortConfig t.config → length docs < 2 ^ 63 → (p : NextPage) → IsNextPage t docs p → IsShortKind (kind_by id t.begun p)
  page_short known short few (page.Rows []) made = tt
  page_short known short few (page.Rows (r ∷ rows)) made = (few_rows (r ∷ rows) made.0, short_rows t.config (r ∷ rows) short (page_rows IsShort known few (r ∷ rows) made.0))
    where
      same_count : {X Y Z : Type 0} (f : X → Z) (g : Y → Z) (xs : List X) (ys : List Y) → map f xs ≡ map g ys → length xs ≡ length ys
      same_count f g xs ys made = sym (length-map xs f) ∙ (ap length made ∙ length-map ys g)

      few_rows : (rows : List Row) → IsPage t docs rows → length rows ≤ 65536
      few_rows rows made =
          let same = same_count Some (λ k. pivot_row t.config k (counted t.config t.bound (read_by t docs))) rows (keys_next t docs) made in
          let size : t.config.page_size ≤ 65536 = (config_in_range past indices docs ts s id t there).page_size.1 in
          let keys = length-take t.config.page_size (keys_left t docs) in
          omega (arith, same, size, keys)
  page_short known short few (page.Fails found) fails =
      let sum = first_is t docs (keys_next t docs) found fails in
      let told = sum_is_told IsShort t.config IsShort found.key (counted t.config t.bound (read_by t docs)) found short.names (counted_docs IsShort known) (few_counted few) sum in
      let key = key_there (keys_next t docs) (keys_left_are IsShort known) found fails in
      (subst (λ n. n < 2 ^ 32) (sym key.0) short.groups, key.1, told.0, told.1)
    where
      key_there : (keys : List Key) → AllByRecursion (IsKeyBy IsShort t.config) keys → (found : SumRange) → first_wide t docs keys ≡ Some found → IsKeyBy IsShort t.config found.key
      key_there [] all found e = absurd (let z : ◌≡◌ {A = Option SumRange} None (Some found) = e in cc)
      key_there (k ∷ keys) all found e = by (wide_sum_at t docs k) refl (key_there keys all.1 found) e
        where
          by : (o : Option SumRange) → wide_sum_at t docs k ≡ o → (first_wide t docs keys ≡ Some found → IsKeyBy IsShort t.config found.key) → or_else o (first_wide t docs keys) ≡ Some found
              → IsKeyBy IsShort t.config found.key
          by None is rest f = rest f
          by (Some other) is rest f = subst (IsKeyBy IsShort t.config) (sym (range_key t.config k (counted t.config t.bound (read_by t docs)) found (is ∙ f))) all.0

  pub page_taken : length docs < 2 ^ 63 → (moment : ℤ) → what_next t docs moment ≡ turn.Page → (p : NextPage) → IsNextPage t docs p → IsTimely moment → IsTaken past (moved moment (kind_by id t.begun p))
  unfolding reading
  page_taken few moment e (page.Fails found) made time =
      taken_next moment (kind.Fail id t.begun found.key found.name found.value) (Fail id t.begun found.key found.name found.value) time (now_deed past indices docs ts s id t there moment e (page.Fails found) made) refl tt refl
  page_taken few moment e (page.Rows []) made time =
      taken_next moment (kind.Finish id t.begun) (Finish id t.begun) time (now_deed past indices docs ts s id t there moment e (page.Rows []) made) refl tt refl
  page_taken few moment e (page.Rows (r ∷ rows)) made time =
      let kept = has_life past indices docs ts s id t there in
      let fit : AllByRecursion (IsRowOf t.config.shape (read_last kept.found.checkpoints)) (r ∷ rows)
      = rows_of_shape t.config.shape (read_last kept.found.checkpoints) (r ∷ rows) pivot (page_rows IsAny (any_texts docs) few (r ∷ rows) made.0) in
      taken_next moment (kind.Page id t.begun (r ∷ rows)) (Page id t.begun (r ∷ rows)) time (now_deed past indices docs ts s id t there moment e (page.Rows (r ∷ rows)) made) refl
      (page_fits (r ∷ rows)
      (subst (λ o. IsSomeAnd o (λ (p : PutTransform). IsSomeAnd (life id (read past)) (λ m. AllByRecursion (IsRowOf p.config.shape (read_last m.checkpoints)) (r ∷ rows)))) (sym (put_is past indices docs ts s id ∙ ap (option_map put_of) there))
      (subst (λ o. IsSomeAnd o (λ m. AllByRecursion (IsRowOf t.config.shape (read_last m.checkpoints)) (r ∷ rows))) (sym kept.is) fit))) refl
    where
      page_fits : (rows : List Row) → IsSomeAnd (transform_of id past) (λ (p : PutTransform). IsSomeAnd (life id (read past)) (λ m. AllByRecursion (IsRowOf p.config.shape (read_last m.checkpoints)) rows))
          → FitsKind reading past moment (kind.Page id t.begun rows)
      page_fits rows known = known

-- ---- at the moment that a given one makes
clamped_is : (given : ℤ) → IsSpan (clamped given)
clamped_is given = by (int_le given (pos 0)) (int_le greatest_date given) refl refl
  where
    above : (a b : ℤ) → int_le a b ≡ false → b ≤ℤ a
    above a b e = grind (arith, ints)

    by : (low high : Bool) → int_le given (pos 0) ≡ low → int_le greatest_date given ≡ high → IsSpan (if low then pos 0 else if high then greatest_date else given)
    by true high e f = (omega (arith, ints), omega (arith, ints))
    by false true e f = (omega (arith, ints), omega (arith, ints))
    by false false e f = (above given (pos 0) e, above greatest_date given f)

pub last_is_timely : (past : List Entry) → IsTakenPast past → IsSpan (last_ms_in past) × IsNotBefore (last_ms_in past) (read past)
last_is_timely [] taken = ((omega (arith, ints), omega (arith, ints)), tt)
last_is_timely (e ∷ past) taken = (taken.1.legal.moment, omega (arith, ints))

not_before : (past : List Entry) (moment : ℤ) → last_ms_in past ≤ℤ moment → IsNotBefore moment (read past)
not_before [] moment e = tt
not_before (f ∷ past) moment e = e

pub given_is_timely : (past : List Entry) (given : ℤ) → IsTakenPast past → IsSpan (moment_after past given) × IsNotBefore (moment_after past given) (read past)
given_is_timely past given taken = by (int_le (last_ms_in past) (clamped given)) refl
  where
    by : (b : Bool) → int_le (last_ms_in past) (clamped given) ≡ b → IsSpan (if b then clamped given else last_ms_in past) × IsNotBefore (if b then clamped given else last_ms_in past) (read past)
    by true e = (clamped_is given, not_before past (clamped given) (int_at_most (last_ms_in past) (clamped given) e))
    by false e = last_is_timely past taken
