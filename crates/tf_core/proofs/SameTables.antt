-- Transforms that differ by their room alone stand for what they stood for.
use Rattle.std.proofs.Common.{◌≡◌, ℕ, zero, suc, ◌+◌, ◌<◌, Bool, true, false, cond, List, [], ◌∷◌, length, map, take, get_or, Option, Some, None, arith, refl, sym, ap, ◌∙◌, subst, add-one}
use Rattle.std.specs.Prelude.{slice_set}
use Rattle.std.specs.List.{AllByRecursion}
use Rattle.tf_dest.specs.declared.held.Held.{Held}
use Rattle.tf_dest.specs.Tables.{Table, rows_in, rows_of}
use Rattle.tf_model.specs.declared.doc.Doc.{Doc}
use Rattle.tf_model.specs.declared.entry.Entry.{Entry}
use Rattle.tf_history.specs.Catalogue.{SourceIndex}
use Rattle.tf_history.specs.Lives.{Life, is_same, life}
use Rattle.tf_core.specs.declared.transform.Transform.{Transform}
use Rattle.tf_core.specs.Legal.{read}
use Rattle.tf_core.specs.Rooms.{SameButRoom, SameTables}
use Rattle.tf_core.specs.Standing.{Stands}
use Rattle.tf_core.specs.Summary.{IsFew, IsSummary, put_of}
use Rattle.tf_core.specs.Table.{Tells, transform_at}

pub tables_itself : (ts : List Transform) → SameTables ts ts
tables_itself [] = tt
tables_itself (t ∷ ts) = (record { same = refl; held = refl }, tables_itself ts)

room_again : (t u x : Transform) → SameButRoom t u → SameButRoom u x → SameButRoom t x
room_again t u x h g = record { same = g.same ∙ ap (λ (y : Transform). record y { rows = x.rows }) h.same; held = g.held ∙ h.held }

pub tables_set : (ts us : List Transform) (i : ℕ) (x : Transform) → SameTables ts us → i < length us → SameButRoom (get_or us i x) x → SameTables ts (slice_set us i x)
tables_set [] [] i x h low same = absurd (omega (arith, low))
tables_set [] (u ∷ us) i x h low same = absurd h
tables_set (t ∷ ts) [] i x h low same = absurd h
tables_set (t ∷ ts) (u ∷ us) zero x h low same = (room_again t u x h.0 same, h.1)
tables_set (t ∷ ts) (u ∷ us) (suc i) x h low same = (h.0, tables_set ts us i x h.1 (omega (arith, low)) same)

first_suc : (P : Transform → Type 0) (us : List Transform) (i : ℕ) (x : Transform) → AllByRecursion P (take i us) → P x → i < length us → AllByRecursion P (take (suc i) (slice_set us i x))
first_suc P [] i x h p low = absurd (omega (arith, low))
first_suc P (u ∷ us) zero x h p low = (p, tt)
first_suc P (u ∷ us) (suc i) x h p low = (h.0, first_suc P us i x h.1 p (omega (arith, low)))

pub first_more : (P : Transform → Type 0) (us : List Transform) (i : ℕ) (x : Transform) → AllByRecursion P (take i us) → P x → i < length us → AllByRecursion P (take (i + 1) (slice_set us i x))
first_more P us i x h p low = subst (λ n. AllByRecursion P (take n (slice_set us i x))) (sym (add-one i)) (first_suc P us i x h p low)

-- ---- what stands
summary_with : (docs : List Doc) (t : Transform) (rows : Table) (l : Life) → rows_in rows ≡ rows_in t.rows → IsSummary docs t l → IsSummary docs (record t { rows = rows }) l
summary_with docs t rows l same h = record {
  meaning_is = h.meaning_is;
  forever = h.forever;
  state = h.state;
  waits = h.waits;
  prompted = h.prompted;
  begun = h.begun;
  low = h.low;
  bound = h.bound;
  moment = h.moment;
  within = h.within;
  read = h.read;
  marked = h.marked;
  earlier_moment = h.earlier_moment;
  earlier_within = h.earlier_within;
  earlier_read = h.earlier_read;
  finished = h.finished;
  position = h.position;
  pages = h.pages;
  late = h.late;
  reason = h.reason;
  processed = h.processed;
  indexed = h.indexed;
  deleted = h.deleted;
  rows = same ∙ h.rows;
}

room_tells : (docs : List Doc) (t u : Transform) (o : Option Life) → SameButRoom t u → Tells docs (Some t) o → Tells docs (Some u) o
room_tells docs t u None h g = g
room_tells docs t u (Some l) h g = subst (λ x. IsSummary docs x l) (sym h.same) (summary_with docs t u.rows l (ap (λ (held : List Held). rows_of held) h.held) g)

room_few : (n : ℕ) (t u : Transform) → SameButRoom t u → IsFew n t → IsFew n u
room_few n t u h g = subst (IsFew n) (sym h.same) (record { late = g.late; pages = g.pages; processed = g.processed; indexed = g.indexed })

tables_tell : (docs : List Doc) (id : List ℕ) (o : Option Life) (ts us : List Transform) → SameTables ts us → Tells docs (transform_at id ts) o → Tells docs (transform_at id us) o
tables_tell docs id o [] [] h g = g
tables_tell docs id o [] (u ∷ us) h g = absurd h
tables_tell docs id o (t ∷ ts) [] h g = absurd h
tables_tell docs id o (t ∷ ts) (u ∷ us) h g =
    subst (λ name. Tells docs (cond (is_same id name) (Some u) (transform_at id us)) o) (sym (ap (λ (x : Transform). x.id) h.0.same)) (by_id (is_same id t.id) g (tables_tell docs id o ts us h.1))
  where
    by_id : (b : Bool) → Tells docs (cond b (Some t) (transform_at id ts)) o → (Tells docs (transform_at id ts) o → Tells docs (transform_at id us) o) → Tells docs (cond b (Some u) (transform_at id us)) o
    by_id true g rest = room_tells docs t u o h.0 g
    by_id false g rest = rest g

tables_put : (ts us : List Transform) → SameTables ts us → map put_of us ≡ map put_of ts
tables_put [] [] h = refl
tables_put [] (u ∷ us) h = absurd h
tables_put (t ∷ ts) [] h = absurd h
tables_put (t ∷ ts) (u ∷ us) h = λ j. put_of (h.0.same j) ∷ tables_put ts us h.1 j

tables_few : (n : ℕ) (ts us : List Transform) → SameTables ts us → AllByRecursion (IsFew n) ts → AllByRecursion (IsFew n) us
tables_few n [] [] h g = tt
tables_few n [] (u ∷ us) h g = absurd h
tables_few n (t ∷ ts) [] h g = absurd h
tables_few n (t ∷ ts) (u ∷ us) h g = (room_few n t u h.0 g.0, tables_few n ts us h.1 g.1)

pub still_stands : (past : List Entry) (indices : List SourceIndex) (docs : List Doc) (ts us : List Transform) → SameTables ts us → Stands past indices docs ts → Stands past indices docs us
still_stands past indices docs ts us h s = record {
  taken = s.taken;
  indices_are = s.indices_are;
  docs_are = s.docs_are;
  transforms_are = s.transforms_are ∙ sym (tables_put ts us h);
  lives = λ id. tables_tell docs id (life id (read past)) ts us h (s.lives id);
  few = tables_few (length past) ts us h s.few;
}
