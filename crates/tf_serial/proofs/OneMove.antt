-- What one move leaves: the moment, the documents, the transforms and the lives of the others; and of its own transform fewer
-- moves.
use Rattle.std.proofs.Common.{◌≡◌, ℕ, ◌+◌, ◌<◌, ℤ, Bool, true, false, List, [], ◌∷◌, ◌++◌, Option, Some, None, refl, sym, ap, ◌∙◌, subst, arith}
use Rattle.std.specs.Option.{option_and_then, option_map}
use Rattle.std.specs.Prelude.{◌≤ℤ◌, ◌&&◌, int_le, IfSome, IsSomeAnd, if◌then◌else◌, length}
use Rattle.std.proofs.lemmas.Int.{ints}
use Rattle.std.proofs.lemmas.List.{append-nil}
use Rattle.std.proofs.lemmas.Option.{same_Some}
use Rattle.std.proofs.lemmas.Slice.Eq.{bytes_eq-Decides}
use Rattle.tf_model.specs.declared.doc.Doc.{Doc}
use Rattle.tf_model.specs.declared.entry.Entry.{Entry}
use Rattle.tf_history.specs.Catalogue.{catalogue}
use Rattle.tf_history.specs.Events.{Deed, Event}
use Rattle.tf_history.specs.Events.Deed.{Stopped}
use Rattle.tf_history.specs.Legality.{IsAllowed, IsNotBefore, begin_move, failing, is_active, is_due, is_started, may_stop, move_of, moves_left, next_checkpoint, next_page, page_move, to_do}
use Rattle.tf_history.specs.Legality as legality
use Rattle.tf_history.specs.Lives.{Life, act, changed, documents, is_running, is_same, life, life_after, writes}
use Rattle.tf_history.specs.Lives.Act.{Aside}
use Rattle.tf_history.specs.Reading.{event_of}
use Rattle.tf_history.specs.Transforms.{transforms}
use Rattle.tf_history.proofs.EndsLaw.{moves_end}
use Rattle.tf_history.proofs.MovesLaw.{moves_are_legal}
use Rattle.tf_core.specs.Legal.{IsTakenPast, read}
use Rattle.tf_core.specs.Moves.{clamped, kind_of, last_ms_in, later, moment_after, moved}
use Rattle.tf_core.proofs.Taken.{read_is_legal}
use Rattle.tf_core.proofs.Truths.{int_at_most}
use Rattle.tf_mapping.specs.Documents.{values_of}
use Rattle.tf_serial.specs.Moves.{left_by, left_in, next_move}
use Rattle.tf_serial.specs.Settling.{ArePaced}
use Rattle.tf_serial.proofs.NextMoves.{IsMoveOf, has_rows, move_is}
use Rattle.tf_serial.proofs.OwnMoves.{aside, deed_back, leaves_transforms, writes_none}

-- of a past that a core takes each transform has Pages with a row
pub taken_is_paced : (past : List Entry) → IsTakenPast past → ArePaced past
taken_is_paced past taken = record { legal = read_is_legal past taken; each = λ id l there. has_rows past taken id l there }

-- ---- where none is left
none_by : (stop started due index : Bool) (keys paged : ℕ) (a b : Deed) (o : Option Deed)
    → (if stop then 1 else if index then paged + 2 + (if due then keys + 3 else 0) else if started then (if due then keys + 3 else 0) else 0) ≡ 0
    → (if stop then Some a else if started && due then Some b else if index then o else None) ≡ None
none_by true started due index keys paged a b o e = absurd (omega (arith, e))
none_by false started true true keys paged a b o e = absurd (let none : paged + 2 + (keys + 3) ≡ 0 = e in omega (arith, none))
none_by false started false true keys paged a b o e = absurd (let none : paged + 2 + 0 ≡ 0 = e in omega (arith, none))
none_by false true true false keys paged a b o e = absurd (let none : keys + 3 ≡ 0 = e in omega (arith, none))
none_by false true false false keys paged a b o e = refl
none_by false false due false keys paged a b o e = refl

-- where no move is left there is none
pub none_left : (given : ℤ) (id : List ℕ) (past : List Entry) → left_in given id past ≡ 0 → next_move given id past ≡ None
none_left given id past e = ap (λ o. option_map (moved (moment_after past given)) (option_and_then kind_of o)) (by (life id (read past)) refl e)
  where
    by : (o : Option Life) → life id (read past) ≡ o → left_by o (documents (read past)) (moment_after past given) ≡ 0 → legality.next_move id (read past) (moment_after past given) ≡ None
    by None is e = ap (option_and_then (λ l. move_of id l (documents (read past)) (moment_after past given))) is
    by (Some l) is e =
        ap (option_and_then (λ l. move_of id l (documents (read past)) (moment_after past given))) is
        ∙ none_by (may_stop l.state l) (is_started l.state) (is_due l (documents (read past)) (moment_after past given)) (is_running l && is_active l.state)
        (length (changed l.meaning (next_checkpoint l (documents (read past)) (moment_after past given) ∷ l.checkpoints))) (length (to_do l))
        (Stopped id) (begin_move id l (moment_after past given)) (page_move id l (failing l) (next_page l)) e

-- a transform that is not there has none
pub no_life : (given : ℤ) (id : List ℕ) (past : List Entry) → life id (read past) ≡ None → next_move given id past ≡ None
no_life given id past none = ap (λ o. option_map (moved (moment_after past given)) (option_and_then kind_of (option_and_then (λ l. move_of id l (documents (read past)) (moment_after past given)) o))) none

-- ---- moments
by_same : (b : Bool) (n : ℤ) → (if b then n else n) ≡ n
by_same true n = refl
by_same false n = refl

later_again : (a b : ℤ) (c : Bool) → int_le a b ≡ c → later (if c then b else a) b ≡ (if c then b else a)
later_again a b true e = by_same (int_le b b) b
later_again a b false e = ap (λ c. if c then b else a) e

not_sooner : (a b : ℤ) (c : Bool) → int_le a b ≡ c → a ≤ℤ (if c then b else a)
not_sooner a b true e = int_at_most a b e
not_sooner a b false e = omega (arith, ints)

not_before : (given : ℤ) (past : List Entry) → IsNotBefore (moment_after past given) (read past)
not_before given [] = tt
not_before given (e ∷ past) = not_sooner e.at_ms (clamped given) (int_le e.at_ms (clamped given)) refl

-- ---- one move
aside_same : (docs : List Doc) (o : Option Life) → life_after docs Aside o ≡ o
aside_same docs None = refl
aside_same docs (Some l) = refl

module _ (given : ℤ) (id : List ℕ) (past : List Entry) (e : Entry) (is : next_move given id past ≡ Some e) where
  abbrev moment : ℤ
  moment = moment_after past given

  made : IsMoveOf given past id e
  made = move_is given past id e is

  same_event : ◌≡◌ {A = Event} (event_of values_of (catalogue past) e) (record { moment = moment; deed = made.deed })
  same_event = λ i. record { moment = made.at i; deed = deed_back (catalogue past) made.own i }

  same_moment : moment_after (e ∷ past) given ≡ moment
  same_moment = ap (λ ms. later ms (clamped given)) made.at ∙ later_again (last_ms_in past) (clamped given) (int_le (last_ms_in past) (clamped given)) refl

  same_documents : documents (read (e ∷ past)) ≡ documents (read past)
  same_documents = ap (λ (v : Event). documents (read past) ++ writes v.deed) same_event ∙ (ap (λ docs. documents (read past) ++ docs) (writes_none made.own) ∙ append-nil (documents (read past)))

  pub same_transforms : transforms (e ∷ past) ≡ transforms past
  same_transforms = leaves_transforms (catalogue past) (transforms past) made.own

  -- another transform lives on as it is
  same_life : (t : List ℕ) → is_same t id ≡ false → life t (read (e ∷ past)) ≡ life t (read past)
  same_life t other =
      ap (λ (v : Event). life_after (documents (read past)) (act t v) (life t (read past))) same_event
      ∙ (ap (λ a. life_after (documents (read past)) a (life t (read past))) (aside t moment other made.own) ∙ aside_same (documents (read past)) (life t (read past)))

  -- so its next move stays
  pub same_move : (t : List ℕ) → is_same t id ≡ false → next_move given t (e ∷ past) ≡ next_move given t past
  same_move t other = λ i. option_map (moved (same_moment i)) (option_and_then kind_of (option_and_then (λ l. move_of t l (same_documents i) (same_moment i)) (same_life t other i)))

  -- and where it is idle it stays idle
  pub stays_idle : (t : List ℕ) → next_move given t past ≡ None → next_move given t (e ∷ past) ≡ None
  stays_idle t idle = by (is_same t id) refl
    where
      by : (b : Bool) → is_same t id ≡ b → next_move given t (e ∷ past) ≡ None
      by true same = absurd (let none : ◌≡◌ {A = Option Entry} None (Some e) = sym idle ∙ (ap (λ t. next_move given t past) ((bytes_eq-Decides t id).0 same) ∙ is) in cc)
      by false other = same_move t other ∙ idle

  -- ---- its own transform
  module _ (paced : ArePaced past) where
    abbrev Lived : Life → Life → Type 0
    Lived l now = (now.meaning ≡ l.meaning) × (moves_left now (documents (read (e ∷ past))) moment < moves_left l (documents (read past)) moment)

    pub record Own : Type 0 where
      pub was : Life
      pub there : life id (read past) ≡ Some was
      pub lives : IsSomeAnd (life id (read (e ∷ past))) (Lived was)

    own : Own
    own = by (life id (read past)) refl
      where
        by : (o : Option Life) → life id (read past) ≡ o → Own
        by None there = absurd (let none : ◌≡◌ {A = Option Deed} None (Some made.deed) = sym (ap (option_and_then (λ l. move_of id l (documents (read past)) moment)) there) ∙ made.next in cc)
        by (Some l) there = record {
          was = l;
          there = there;
          lives = subst (λ (v : Event). IsSomeAnd (life id (v ∷ read past)) (λ now. (now.meaning ≡ l.meaning) × (moves_left now (documents (v ∷ read past)) moment < moves_left l (documents (read past)) moment))) (sym same_event)
              (moves_end (read past) id (record { moment = moment; deed = made.deed }) l paced.legal there (paced.each id l there) made.next);
        }

    fewer_by : (l : Life) (o : Option Life) → IsSomeAnd o (Lived l) → left_by o (documents (read (e ∷ past))) moment < left_by (Some l) (documents (read past)) moment
    fewer_by l None h = absurd h
    fewer_by l (Some now) h = h.1

    -- it has fewer moves left
    pub fewer_left : left_in given id (e ∷ past) < left_in given id past
    fewer_left =
        subst (λ (p : ℤ × Option Life). left_by (life id (read (e ∷ past))) (documents (read (e ∷ past))) p.0 < left_by p.1 (documents (read past)) moment) (λ i. (sym same_moment i, sym own.there i))
        (fewer_by own.was (life id (read (e ∷ past))) own.lives)

    own_paced : (o : Option Life) (l : Life) → IsSomeAnd o (Lived own.was) → o ≡ Some l → 0 < l.meaning.page_size
    own_paced None l lives there = absurd lives
    own_paced (Some now) l lives there =
        let same : own.was.meaning ≡ l.meaning = sym lives.0 ∙ ap (λ (l : Life). l.meaning) (same_Some now l there) in
        subst (λ m. 0 < m.page_size) same (paced.each id own.was own.there)

    each_paced : (t : List ℕ) (l : Life) → life t (read (e ∷ past)) ≡ Some l → 0 < l.meaning.page_size
    each_paced t l there = by (is_same t id) refl
      where
        by : (b : Bool) → is_same t id ≡ b → 0 < l.meaning.page_size
        by true same = own_paced (life id (read (e ∷ past))) l own.lives (ap (λ t. life t (read (e ∷ past))) (sym ((bytes_eq-Decides t id).0 same)) ∙ there)
        by false other = paced.each t l (sym (same_life t other) ∙ there)

    -- each transform has Pages with a row still
    pub still_paced : ArePaced (e ∷ past)
    still_paced =
        let sized = subst (λ (o : Option Life). IfSome o (λ l. 0 < l.meaning.page_size)) (sym own.there) (paced.each id own.was own.there) in
        let allowed = (moves_are_legal (read past) id moment made.deed paced.legal sized made.next).0 in
        let here = subst (λ (v : Event). IsAllowed v.moment v.deed (read past) × IsNotBefore v.moment (read past)) (sym same_event) (allowed, not_before given past) in
        record { legal = (paced.legal, here.0, here.1); each = each_paced }
