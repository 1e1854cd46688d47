-- The entry of a next move has a spelling and is right.
use Rattle.std.proofs.Common.{◌≡◌, ℕ, ◌<◌, ℤ, true, false, cond, List, [], ◌∷◌, Option, Some, None, refl, sym, ap, ◌∙◌, subst, arith}
use Rattle.std.specs.List.{AllByRecursion, find}
use Rattle.std.specs.Option.{option_and_then, option_map}
use Rattle.std.specs.Prelude.{IfSome, IsSomeAnd, negsuc, pos, reverse}
use Rattle.std.specs.Int.{w64, w128}
use Rattle.std.specs.Int.RustNames.{FitsSigned}
use Rattle.std.proofs.lemmas.Int.{ints}
use Rattle.std.proofs.lemmas.Option.{same_Some}
use Rattle.std.proofs.lemmas.Slice.Eq.{bytes_eq-Decides}
use Rattle.tf_model.specs.Conditions.{IsBetween, IsDate, IsSpan}
use Rattle.tf_model.specs.declared.entry.Entry.{Entry}
use Rattle.tf_model.specs.declared.entry.Kind.{Kind}
use Rattle.tf_model.specs.declared.entry.Row.{Row}
use Rattle.tf_model.specs.declared.entry.Row.TheVariants as row
use Rattle.tf_model.specs.declared.value.Value.{Value}
use Rattle.tf_model.specs.declared.value.Value.TheVariants as value
use Rattle.tf_event.specs.Entries.{FitsEntry, FitsKind}
use Rattle.tf_event.specs.Values.{FitsRow, FitsValue}
use Rattle.tf_event.specs.declared.grammar.Grammar.TheVariants.{First}
use Rattle.tf_history.specs.Catalogue.{catalogue}
use Rattle.tf_history.specs.Events.{Deed}
use Rattle.tf_history.specs.Histories.{IsRightEvent}
use Rattle.tf_history.specs.Legality.{IsAllowed, MayBegin, MayFail, MayPage, MayFinish}
use Rattle.tf_history.specs.Legality as legality
use Rattle.tf_history.specs.LegalEntries.{IsRowValue}
use Rattle.tf_history.specs.Lives.{Life, documents, is_same, life}
use Rattle.tf_history.specs.Reading.{deed_of}
use Rattle.tf_history.specs.Transforms.{PutTransform, meaning_of, transform_of, transforms}
use Rattle.tf_history.proofs.EntriesLaw.{lives_are_configured}
use Rattle.tf_history.proofs.MovesLaw.{moves_are_legal}
use Rattle.tf_core.specs.BuiltPast.{IsBuiltPut}
use Rattle.tf_core.specs.Legal.{IsTaken, IsTakenHistory, IsTakenPast, read, reading}
use Rattle.tf_core.specs.Moves.{kind_of, moment_after, moved}
use Rattle.tf_core.specs.Texts.{HasTexts, IsPartOf, IsShort, IsShortKind, IsShortPut, IsShortRow}
use Rattle.tf_mapping.specs.Documents.{values_of}
use Rattle.tf_core.proofs.BuiltPast.{built_past}
use Rattle.tf_core.proofs.Taken.{read_is_legal}
use Rattle.tf_core.proofs.Fitting.{put_in_range}
use Rattle.tf_store.specs.Standing.{AreSpelled}
use Rattle.tf_serial.specs.Moves.{next_move}
use Rattle.tf_serial.specs.Numbers.{HasNumbers}
use Rattle.tf_serial.specs.Parts.{IsNext, IsRightEntry}
use Rattle.tf_serial.proofs.OwnMoves.{IsOwnMove, begins, pages, finishes, fails, stops, deed_back, own_move}
use Rattle.tf_serial.proofs.SpelledPasts.{IsSpelledPut, puts_are_spelled, texts_are_short}

-- ---- the transform of a life
pub record HasPut (past : List Entry) (id : List ℕ) (l : Life) : Type 0 where
  pub put : PutTransform
  pub there : transform_of id past ≡ Some put
  pub means : meaning_of put ≡ l.meaning

pub put_of_life : (past : List Entry) (id : List ℕ) (l : Life) → life id (read past) ≡ Some l → HasPut past id l
put_of_life past id l is = by (transform_of id past) refl
  where
    by : (o : Option PutTransform) → transform_of id past ≡ o → HasPut past id l
    by None there = absurd (let none : ◌≡◌ {A = Option _} (Some l.meaning) None = sym (ap (option_map (λ (l : Life). l.meaning)) is) ∙ (lives_are_configured values_of past id ∙ ap (option_map meaning_of) there) in cc)
    by (Some p) there =
        record { put = p; there = there; means = same_Some (meaning_of p) l.meaning (sym (ap (option_map meaning_of) there) ∙ (sym (lives_are_configured values_of past id) ∙ ap (option_map (λ (l : Life). l.meaning)) is)) }

-- what holds of each transform holds of one that is found
pub found_has : (P : PutTransform → Type 0) (id : List ℕ) (puts : List PutTransform) (p : PutTransform) → AllByRecursion P puts → find (λ (p : PutTransform). is_same id p.id) puts ≡ Some p → P p × (id ≡ p.id)
found_has P id [] p all e = absurd (let none : ◌≡◌ {A = Option PutTransform} None (Some p) = e in cc)
found_has P id (q ∷ puts) p all e = elim (is_same id q.id) as (λ b. is_same id q.id ≡ b → cond b (Some q) (find (λ (p : PutTransform). is_same id p.id) puts) ≡ Some p → P p × (id ≡ p.id)) [
  | true ↦ λ same e. let is : q ≡ p = same_Some q p e in (subst P is all.0, (bytes_eq-Decides id q.id).0 same ∙ ap (λ (p : PutTransform). p.id) is)
  | false ↦ λ other e. found_has P id puts p all.1 e
] refl e

-- ---- what is known of the life of a taken past
module _ (past : List Entry) (taken : IsTakenPast past) (id : List ℕ) (l : Life) (is : life id (read past) ≡ Some l) where
  abbrev put_is : HasPut past id l
  put_is = put_of_life past id l is

  built : IsBuiltPut (catalogue past) put_is.put
  built = (found_has (IsBuiltPut (catalogue past)) id (transforms past) put_is.put (built_past past taken).each_put put_is.there).0

  pub has_rows : 0 < l.meaning.page_size
  has_rows = let sized = (put_in_range (catalogue past) put_is.put built).page_size in omega (arith, ap (λ m. m.page_size) put_is.means, sized.0)

-- ---- rows
wide : (n : ℤ) → IsBetween (negsuc 9223372036854775807) (pos 9223372036854775807) n → FitsSigned w128 n
wide (pos n) h = record { sfits = omega (arith, ints) }
wide (negsuc n) h = record { sfits = omega (arith, ints) }

part_number_fits : (n : ℤ) → IsBetween (negsuc 18446744073709551615) (pos 9223372036854775807) n → FitsSigned w128 n
part_number_fits (pos n) h = record { sfits = omega (arith, ints) }
part_number_fits (negsuc n) h = record { sfits = omega (arith, ints) }

sum_fits : (n : ℤ) → IsBetween (negsuc 170141183460469231731687303715884105727) (pos 170141183460469231731687303715884105727) n → FitsSigned w128 n
sum_fits (pos n) h = record { sfits = omega (arith, ints) }
sum_fits (negsuc n) h = record { sfits = omega (arith, ints) }

date_fits : (ms : ℤ) → IsDate ms → FitsSigned w64 ms
date_fits (pos n) h = record { sfits = omega (arith, ints) }
date_fits (negsuc n) h = record { sfits = omega (arith, ints) }

span_fits : (ms : ℤ) → IsSpan ms → FitsSigned w64 ms
span_fits (pos n) h = record { sfits = omega (arith, ints) }
span_fits (negsuc n) h = record { sfits = omega (arith, ints) }

part_fits : (v : Value) → IsPartOf IsShort v → FitsValue v
part_fits value.Null h = tt
part_fits (value.Bool b) h = tt
part_fits (value.Int n) h = part_number_fits n h
part_fits (value.Date ms) h = date_fits ms h
part_fits (value.Str s) h = h

parts_fit : (vs : List Value) → AllByRecursion (IsPartOf IsShort) vs → AllByRecursion FitsValue vs
parts_fit [] h = tt
parts_fit (v ∷ vs) h = (part_fits v h.0, parts_fit vs h.1)

value_fits : (v : Value) → IsRowValue v → FitsValue v
value_fits value.Null h = tt
value_fits (value.Bool b) h = tt
value_fits (value.Int n) h = wide n h
value_fits (value.Date ms) h = date_fits ms h
value_fits (value.Str s) h = absurd h

values_fit : (vs : List Value) → AllByRecursion IsRowValue vs → AllByRecursion FitsValue vs
values_fit [] h = tt
values_fit (v ∷ vs) h = (value_fits v h.0, values_fit vs h.1)

row_fits : (r : Row) → IsShortRow r → FitsRow r
row_fits (row.Pivot k values) h = ((h.0, parts_fit k.parts h.1), (h.2, values_fit values h.3))
row_fits (row.Latest k index shard seq) h = absurd h

rows_fit : (rows : List Row) → AllByRecursion IsShortRow rows → AllByRecursion FitsRow rows
rows_fit [] h = tt
rows_fit (r ∷ rows) h = (row_fits r h.0, rows_fit rows h.1)

-- ---- the entry of a move
pub record IsMoveOf (given : ℤ) (past : List Entry) (id : List ℕ) (e : Entry) : Type 0 where
  pub deed : Deed
  pub next : legality.next_move id (read past) (moment_after past given) ≡ Some deed
  pub own : IsOwnMove id deed e.kind
  pub at : e.at_ms ≡ moment_after past given

pub move_is : (given : ℤ) (past : List Entry) (id : List ℕ) (e : Entry) → next_move given id past ≡ Some e → IsMoveOf given past id e
move_is given past id e is = by (legality.next_move id (read past) (moment_after past given)) refl is
  where
    by_kind : (deed : Deed) → legality.next_move id (read past) (moment_after past given) ≡ Some deed → (o : Option Kind) → kind_of deed ≡ o → option_map (moved (moment_after past given)) o ≡ Some e → IsMoveOf given past id e
    by_kind deed next None kind_is made = absurd (let none : ◌≡◌ {A = Option Entry} None (Some e) = made in cc)
    by_kind deed next (Some k) kind_is made =
        let same : moved (moment_after past given) k ≡ e = same_Some (moved (moment_after past given) k) e made in
        record { deed = deed; next = next; own = own_move id deed e.kind (kind_is ∙ ap (λ (e : Entry). Some e.kind) same) (read past) (moment_after past given) next; at = sym (ap (λ (e : Entry). e.at_ms) same) }

    by : (o : Option Deed) → legality.next_move id (read past) (moment_after past given) ≡ o → option_map (moved (moment_after past given)) (option_and_then kind_of o) ≡ Some e → IsMoveOf given past id e
    by None next made = absurd (let none : ◌≡◌ {A = Option Entry} None (Some e) = made in cc)
    by (Some deed) next made = by_kind deed next (kind_of deed) refl made

record HasLife (P : Life → Type 0) (o : Option Life) : Type 0 where
  pub found : Life
  pub is : o ≡ Some found
  pub holds : P found

life_there : (P : Life → Type 0) (o : Option Life) → IsSomeAnd o P → HasLife P o
life_there P None h = absurd h
life_there P (Some l) h = record { found = l; is = refl; holds = h }

module _ (past : List Entry) (taken : IsTakenPast past) (spelled : AllByRecursion IsSpelledPut (transforms past)) where
  id_fits : (id : List ℕ) (l : Life) → life id (read past) ≡ Some l → IsShort id
  id_fits id l is =
      let put = put_of_life past id l is in
      let own = found_has IsSpelledPut id (transforms past) put.put spelled put.there in
      subst IsShort (sym own.1) own.0.0

  kind_fits : (moment : ℤ) {id : List ℕ} {deed : Deed} {k : Kind} → IsOwnMove id deed k → HasNumbers k → IsAllowed moment (deed_of values_of (catalogue past) k) (read past) → IsShortKind k → FitsKind First k
  kind_fits moment {id} stops numbers allowed short =
      let h = life_there (λ l. legality.may_stop l.state l ≡ true) (life id (read past)) allowed in
      id_fits id h.found h.is
  kind_fits moment {id} (begins n bound) numbers allowed short =
      let h = life_there (λ l. MayBegin l (documents (read past)) n bound moment) (life id (read past)) allowed in
      (id_fits id h.found h.is, numbers.0, numbers.1)
  kind_fits moment {id} (pages n rows) numbers allowed short =
      let h = life_there (λ l. MayPage l n rows) (life id (read past)) allowed in
      (id_fits id h.found h.is, numbers, (omega (arith, short.0), rows_fit rows short.1))
  kind_fits moment {id} (finishes n) numbers allowed short =
      let h = life_there (λ l. MayFinish l n) (life id (read past)) allowed in
      (id_fits id h.found h.is, numbers)
  kind_fits moment {id} (fails n key name value) numbers allowed short =
      let h = life_there (λ l. MayFail l n key name value) (life id (read past)) allowed in
      (id_fits id h.found h.is, numbers, (short.0, parts_fit key.parts short.1), short.2, sum_fits value short.3)

  entry_fits : (given : ℤ) (id : List ℕ) (e : Entry) → IsMoveOf given past id e → IsTaken past e → HasNumbers e.kind → IsShortKind e.kind → FitsEntry First e
  unfolding reading
  entry_fits given id e m t numbers short = record {
    at_ms = span_fits e.at_ms t.legal.moment;
    actor = omega (arith, t.legal.actor);
    kind = kind_fits e.at_ms m.own numbers t.legal.allowed short;
  }

  sized : (id : List ℕ) → IfSome (life id (read past)) (λ l. 0 < l.meaning.page_size)
  sized id = by (life id (read past)) refl
    where
      by : (o : Option Life) → life id (read past) ≡ o → IfSome o (λ l. 0 < l.meaning.page_size)
      by None is = tt
      by (Some l) is = has_rows past taken id l is

  entry_right : (given : ℤ) (id : List ℕ) (e : Entry) → IsMoveOf given past id e → IsRightEntry past e
  entry_right given id e m =
      subst (λ d. IsRightEvent d (read past)) (sym (deed_back (catalogue past) m.own))
      (moves_are_legal (read past) id (moment_after past given) m.deed (read_is_legal past taken) (sized id) m.next).1

  next_known : (given : ℤ) (id : List ℕ) (o : Option Entry) → o ≡ next_move given id past → IfSome o (IsTaken past) → IfSome o (λ (e : Entry). HasNumbers e.kind) → IfSome o (λ (e : Entry). IsShortKind e.kind) → IfSome o (IsNext past)
  next_known given id None is t numbers short = tt
  next_known given id (Some e) is t numbers short = let m = move_is given past id e (sym is) in record { taken = t; fits = entry_fits given id e m t numbers short; right = entry_right given id e m }

configs_short : (puts : List PutTransform) → AllByRecursion IsSpelledPut puts → AllByRecursion IsShortPut puts
configs_short [] all = tt
configs_short (p ∷ puts) all = (all.0.1, configs_short puts all.1)

-- the entry of the next move is taken, has a spelling and is right
pub move_is_next : (given : ℤ) (history : List Entry) (id : List ℕ) (o : Option Entry) → IsTakenHistory history → AreSpelled history → o ≡ next_move given id (reverse history) → IfSome o (IsTaken (reverse history)) → IfSome o (λ (e : Entry). HasNumbers e.kind)
    → (AllByRecursion (HasTexts IsShort) (documents (read (reverse history))) → AllByRecursion IsShortPut (transforms (reverse history)) → IfSome o (λ (e : Entry). IsShortKind e.kind)) → IfSome o (IsNext (reverse history))
move_is_next given history id o taken spelled is t numbers short =
    let puts = puts_are_spelled history spelled in
    next_known (reverse history) taken puts given id o is t numbers (short (texts_are_short history spelled) (configs_short (transforms (reverse history)) puts))
