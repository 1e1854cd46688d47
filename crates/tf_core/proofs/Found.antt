-- What is found in a core.
use Rattle.std.proofs.Common.{◌≡◌, ℕ, zero, suc, Bool, true, false, cond, not, ◌&&◌, ◌||◌, List, [], ◌∷◌, map, Option, Some, None, refl, sym, ap, ◌∙◌, subst}
use Rattle.std.specs.Prelude.{⊤, IfSome, option_map, slice_get, nat_eq}
use Rattle.std.specs.List.{filter, find, list_any, position}
use Rattle.std.specs.Str.{bytes_eq}
use Rattle.std.proofs.lemmas.Bool.{eqb-true}
use Rattle.std.proofs.lemmas.Option.{same_Some}
use Rattle.std.proofs.lemmas.Slice.Eq.{bytes_eq-Decides}
use Rattle.tf_model.specs.declared.doc.Doc.{Doc}
use Rattle.tf_model.specs.declared.entry.Entry.{Entry}
use Rattle.tf_model.specs.declared.entry.Kind.{Kind}
use Rattle.tf_model.specs.declared.entry.Kind.TheVariants as kind
use Rattle.tf_history.specs.Catalogue.{SourceIndex, catalogue}
use Rattle.tf_history.specs.LegalEntries.{has_id, is_free}
use Rattle.tf_history.specs.Legality.{IsAllowed}
use Rattle.tf_history.specs.Lives.{Life, documents, is_same, life}
use Rattle.tf_history.specs.Meaning.{Meaning}
use Rattle.tf_history.specs.Reading.{deed_of}
use Rattle.tf_history.specs.Transforms.{PutTransform, meaning_of, transform_of, transforms, transforms_after}
use Rattle.tf_history.proofs.EntriesLaw.{lives_are_configured}
use Rattle.tf_history.proofs.Ids.{same_id}
use Rattle.tf_core.specs.declared.ids.Ids.{Ids}
use Rattle.tf_core.specs.declared.transform.Transform.{Transform}
use Rattle.tf_core.specs.Ids.{AreIndexed, place_at}
use Rattle.tf_core.specs.Legal.{IsTakenPast, read}
use Rattle.tf_core.specs.Lookups.{into_at, is_into, some_has}
use Rattle.tf_core.specs.Standing.{Stands}
use Rattle.tf_core.specs.Summary.{put_of}
use Rattle.tf_core.specs.Table.{Tells, transform_at}
use Rattle.tf_mapping.specs.Documents.{values_of}
use Rattle.tf_core.proofs.Numbers.{position_cons}
use Rattle.tf_core.proofs.Tables.{same_itself}
use Rattle.tf_core.proofs.Taken.{is_allowed}

-- ---- what is found stands at its place
pub not_found : (P : Doc → Bool) (docs : List Doc) → position P docs ≡ None → find P docs ≡ None
not_found P [] e = refl
not_found P (d ∷ docs) e = by_first (P d) (sym (position_cons P d docs) ∙ e) (not_found P docs)
  where
    rest : (o : Option ℕ) → option_map suc o ≡ None → o ≡ None
    rest None e = refl
    rest (Some n) e = absurd (let z : ◌≡◌ {A = Option ℕ} None (Some (suc n)) = sym e in cc)

    by_first : (b : Bool) → cond b (Some 0) (option_map suc (position P docs)) ≡ None → (position P docs ≡ None → find P docs ≡ None) → cond b (Some d) (find P docs) ≡ None
    by_first true e again = absurd (let z : ◌≡◌ {A = Option ℕ} None (Some 0) = sym e in cc)
    by_first false e again = again (rest (position P docs) e)

pub found_at : (P : Doc → Bool) (docs : List Doc) (place : ℕ) → position P docs ≡ Some place → find P docs ≡ slice_get docs place
found_at P [] place e = absurd (let z : ◌≡◌ {A = Option ℕ} None (Some place) = e in cc)
found_at P (d ∷ docs) place e = by_first (P d) (sym (position_cons P d docs) ∙ e) (found_at P docs)
  where
    behind : (o : Option ℕ) → ((n : ℕ) → o ≡ Some n → find P docs ≡ slice_get docs n) → option_map suc o ≡ Some place → find P docs ≡ slice_get (d ∷ docs) place
    behind None again e = absurd (let z : ◌≡◌ {A = Option ℕ} None (Some place) = e in cc)
    behind (Some n) again e = let at : suc n ≡ place = cc in subst (λ p. find P docs ≡ slice_get (d ∷ docs) p) at (again n refl)

    first : Some 0 ≡ Some place → Some d ≡ slice_get (d ∷ docs) place
    first e = let at : 0 ≡ place = cc in subst (λ p. Some d ≡ slice_get (d ∷ docs) p) at refl

    by_first : (b : Bool) → cond b (Some 0) (option_map suc (position P docs)) ≡ Some place → ((n : ℕ) → position P docs ≡ Some n → find P docs ≡ slice_get docs n)
        → cond b (Some d) (find P docs) ≡ slice_get (d ∷ docs) place
    by_first true e again = first e
    by_first false e again = behind (position P docs) again e

-- ---- documents
position_is : (P : Doc → Bool) (docs : List Doc) (p : ℕ) (d : Doc) → slice_get docs p ≡ Some d → P d ≡ true → ((q : ℕ) (x : Doc) → slice_get docs q ≡ Some x → P x ≡ true → q ≡ p) → position P docs ≡ Some p
position_is P [] p d e pass once = absurd (let z : ◌≡◌ {A = Option Doc} None (Some d) = e in cc)
position_is P (y ∷ docs) zero d e pass once = position_cons P y docs ∙ ap (λ b. cond b (Some 0) (option_map suc (position P docs))) (ap P (same_Some y d e) ∙ pass)
position_is P (y ∷ docs) (suc p) d e pass once =
    position_cons P y docs ∙ by_first (P y) refl (position_is P docs p d e pass (λ q x g h. let s : suc q ≡ suc p = once (suc q) x g h in cc))
  where
    by_first : (b : Bool) → P y ≡ b → position P docs ≡ Some p → cond b (Some 0) (option_map suc (position P docs)) ≡ Some (suc p)
    by_first true f rest = absurd (let z : 0 ≡ suc p = once 0 y refl f in cc)
    by_first false f rest = ap (option_map suc) rest

position_none : (P : Doc → Bool) (docs : List Doc) → ((q : ℕ) (x : Doc) → slice_get docs q ≡ Some x → P x ≡ true → ⊥) → position P docs ≡ None
position_none P [] never = refl
position_none P (y ∷ docs) never = position_cons P y docs ∙ by_first (P y) refl (position_none P docs (λ q x g h. never (suc q) x g h))
  where
    by_first : (b : Bool) → P y ≡ b → position P docs ≡ None → cond b (Some 0) (option_map suc (position P docs)) ≡ None
    by_first true f rest = absurd (never 0 y refl f)
    by_first false f rest = ap (option_map suc) rest

both : (a b : Bool) → (a && b) ≡ true → (a ≡ true) × (b ≡ true)
both true true e = (refl, refl)
both true false e = absurd (let z : false ≡ true = e in cc)
both false b e = absurd (let z : false ≡ true = e in cc)

module _ (ids : Ids) (docs : List Doc) (index : ℕ) (id : List ℕ) (h : AreIndexed ids docs) where
  entered : (q : ℕ) (x : Doc) → slice_get docs q ≡ Some x → has_id index id x ≡ true → place_at ids index id ≡ Some q
  entered q x e has =
      let parts = both (nat_eq index x.index) (bytes_eq id x.id) has in
      ap (λ i. place_at ids i id) (eqb-true index x.index parts.0) ∙ (ap (place_at ids x.index) ((bytes_eq-Decides id x.id).0 parts.1) ∙ h q x e)

  pub not_entered : place_at ids index id ≡ None → position (has_id index id) docs ≡ None
  not_entered none = position_none (has_id index id) docs (λ q x e has. let z : ◌≡◌ {A = Option ℕ} None (Some q) = sym none ∙ entered q x e has in cc)

  pub entered_there : (p : ℕ) → place_at ids index id ≡ Some p → some_has (has_id index id) (slice_get docs p) ≡ true → position (has_id index id) docs ≡ Some p
  entered_there p is has = by_doc (slice_get docs p) refl has
    where
      by_doc : (o : Option Doc) → slice_get docs p ≡ o → some_has (has_id index id) o ≡ true → position (has_id index id) docs ≡ Some p
      by_doc None e has = absurd (let z : false ≡ true = has in cc)
      by_doc (Some d) e has = position_is (has_id index id) docs p d e has (λ q x f g. same_Some q p (sym (entered q x f g) ∙ is))

  pub entered_elsewhere : (p : ℕ) → place_at ids index id ≡ Some p → some_has (has_id index id) (slice_get docs p) ≡ false → position (has_id index id) docs ≡ None
  entered_elsewhere p is has = position_none (has_id index id) docs (λ q x e f.
      let same : q ≡ p = same_Some q p (sym (entered q x e f) ∙ is) in
      let z : true ≡ false = sym f ∙ (ap (some_has (has_id index id)) (sym (ap (slice_get docs) (sym same) ∙ e)) ∙ has) in
      cc)

-- ---- transforms
pub put_found : (id : List ℕ) (ts : List Transform) → find (λ (p : PutTransform). is_same id p.id) (map put_of ts) ≡ option_map put_of (transform_at id ts)
put_found id [] = refl
put_found id (t ∷ ts) = elim (is_same id t.id) as (λ b. cond b (Some (put_of t)) (find (λ (p : PutTransform). is_same id p.id) (map put_of ts)) ≡ option_map put_of (cond b (Some t) (transform_at id ts))) [ true ↦ refl | false ↦ put_found id ts ]

pub into_found : (name : List ℕ) (ts : List Transform) → find (is_into name) (map put_of ts) ≡ option_map put_of (into_at name ts)
into_found name [] = refl
into_found name (t ∷ ts) = elim (bytes_eq name t.config.dest) as (λ b. cond b (Some (put_of t)) (find (is_into name) (map put_of ts)) ≡ option_map put_of (cond b (Some t) (into_at name ts))) [ true ↦ refl | false ↦ into_found name ts ]

-- each id once
abbrev is_with : List ℕ → PutTransform → Bool
is_with id p = is_same id p.id

abbrev pub AreApart : List PutTransform → Type 0
AreApart [] = ⊤
AreApart (p ∷ ps) = (find (is_with p.id) ps ≡ None) × AreApart ps

find_kept : (id : List ℕ) (q : PutTransform → Bool) (ps : List PutTransform) → find (is_with id) ps ≡ None → find (is_with id) (filter q ps) ≡ None
find_kept id q [] e = refl
find_kept id q (p ∷ ps) e =
    elim (is_same id p.id) as (λ b. is_same id p.id ≡ b → cond b (Some p) (find (is_with id) ps) ≡ None → find (is_with id) (cond (q p) (p ∷ filter q ps) (filter q ps)) ≡ None) [
      | true ↦ λ s f. absurd (let z : ◌≡◌ {A = Option PutTransform} None (Some p) = sym f in cc)
      | false ↦ λ s f. by_kept (q p) s (find_kept id q ps f)
    ] refl e
  where
    by_kept : (b : Bool) → is_same id p.id ≡ false → find (is_with id) (filter q ps) ≡ None → find (is_with id) (cond b (p ∷ filter q ps) (filter q ps)) ≡ None
    by_kept true s rest = ap (λ c. cond c (Some p) (find (is_with id) (filter q ps))) s ∙ rest
    by_kept false s rest = rest

apart_kept : (q : PutTransform → Bool) (ps : List PutTransform) → AreApart ps → AreApart (filter q ps)
apart_kept q [] h = tt
apart_kept q (p ∷ ps) h = elim (q p) as (λ b. AreApart (cond b (p ∷ filter q ps) (filter q ps))) [ true ↦ (find_kept p.id q ps h.0, apart_kept q ps h.1) | false ↦ apart_kept q ps h.1 ]

no_put : (past : List Entry) (id : List ℕ) → life id (read past) ≡ None → transform_of id past ≡ None
no_put past id none = by_put (transform_of id past) (sym (lives_are_configured values_of past id) ∙ ap (option_map (λ (l : Life). l.meaning)) none)
  where
    by_put : (o : Option PutTransform) → option_map meaning_of o ≡ None → o ≡ None
    by_put None e = refl
    by_put (Some p) e = absurd (let z : ◌≡◌ {A = Option Meaning} None (Some (meaning_of p)) = sym e in cc)

apart_after : (past : List Entry) (e : Entry) (k : Kind) → IsAllowed e.at_ms (deed_of values_of (catalogue past) k) (read past) → AreApart (transforms past) → AreApart (transforms_after (catalogue past) k (transforms past))
apart_after past e (kind.Put id config) h apart = (no_put past id h, apart)
apart_after past e (kind.Delete id) h apart = apart_kept (λ (p : PutTransform). not (is_same id p.id)) (transforms past) apart
apart_after past e (kind.Index name shards mapping stamp quick) h apart = apart
apart_after past e (kind.Write index shard seq id tree) h apart = apart
apart_after past e (kind.Reset id) h apart = apart
apart_after past e (kind.Start id) h apart = apart
apart_after past e (kind.StopAsked id wait) h apart = apart
apart_after past e (kind.Stopped id) h apart = apart
apart_after past e (kind.Schedule id) h apart = apart
apart_after past e (kind.Fail id n key name value) h apart = apart
apart_after past e (kind.Begin id n bound) h apart = apart
apart_after past e (kind.Page id n rows) h apart = apart
apart_after past e (kind.Finish id n) h apart = apart

-- the transforms of a past have different ids
pub transforms_apart : (past : List Entry) → IsTakenPast past → AreApart (transforms past)
transforms_apart [] h = tt
transforms_apart (e ∷ past) h = apart_after past e e.kind (is_allowed past e h.1) (transforms_apart past h.0)

none_of : (x : Option Transform) → option_map put_of x ≡ None → x ≡ None
none_of None e = refl
none_of (Some t) e = absurd (let z : ◌≡◌ {A = Option PutTransform} None (Some (put_of t)) = sym e in cc)

-- the one that is found by its destination is the one with its id
pub into_by_id : (name : List ℕ) (ts : List Transform) (t : Transform) → AreApart (map put_of ts) → into_at name ts ≡ Some t → transform_at t.id ts ≡ Some t
into_by_id name [] t apart e = absurd (let z : ◌≡◌ {A = Option Transform} None (Some t) = e in cc)
into_by_id name (x ∷ ts) t apart e =
    elim (bytes_eq name x.config.dest) as (λ b. cond b (Some x) (into_at name ts) ≡ Some t → cond (is_same t.id x.id) (Some x) (transform_at t.id ts) ≡ Some t) [
      | true ↦ λ f. subst (λ (y : Transform). cond (is_same y.id x.id) (Some x) (transform_at y.id ts) ≡ Some y) (same_Some x t f) (ap (λ b. cond b (Some x) (transform_at x.id ts)) (same_itself x.id))
      | false ↦ λ f. later (is_same t.id x.id) refl (into_by_id name ts t apart.1 f)
    ] e
  where
    later : (b : Bool) → is_same t.id x.id ≡ b → transform_at t.id ts ≡ Some t → cond b (Some x) (transform_at t.id ts) ≡ Some t
    later true s found =
        let none : transform_at x.id ts ≡ None = none_of (transform_at x.id ts) (sym (put_found x.id ts) ∙ apart.0) in
        absurd (let z : ◌≡◌ {A = Option Transform} None (Some t) = sym none ∙ (ap (λ id. transform_at id ts) (sym (same_id t.id x.id s)) ∙ found) in cc)
    later false s found = found

-- ---- in a core
module _ (past : List Entry) (indices : List SourceIndex) (docs : List Doc) (ts : List Transform) (stands : Stands past indices docs ts) where
  pub put_in : (id : List ℕ) (x : Option Transform) → x ≡ transform_at id ts → option_map put_of x ≡ transform_of id past
  put_in id x e = ap (option_map put_of) e ∙ (sym (put_found id ts) ∙ ap (find (is_with id)) (sym stands.transforms_are))

  pub into_in : (name : List ℕ) (x : Option Transform) → x ≡ into_at name ts → option_map put_of x ≡ find (is_into name) (transforms past)
  into_in name x e = ap (option_map put_of) e ∙ (sym (into_found name ts) ∙ ap (find (is_into name)) (sym stands.transforms_are))

  pub into_tells : (name : List ℕ) (t : Transform) → into_at name ts ≡ Some t → Tells (documents (read past)) (Some t) (life t.id (read past))
  into_tells name t e =
      subst (λ ds. Tells ds (Some t) (life t.id (read past))) (sym stands.docs_are)
      (subst (λ x. Tells docs x (life t.id (read past))) (into_by_id name ts t (subst AreApart stands.transforms_are (transforms_apart past stands.taken)) e) (stands.lives t.id))

  dest_names : (name : List ℕ) (xs : List Transform) → list_any (is_into name) (map put_of xs) ≡ list_any (λ (t : Transform). bytes_eq name t.config.dest) xs
  dest_names name [] = refl
  dest_names name (x ∷ xs) = ap (λ b. bytes_eq name x.config.dest || b) (dest_names name xs)

  pub free_in : (name : List ℕ) (index dest : Bool) → index ≡ list_any (λ (s : SourceIndex). bytes_eq name s.name) indices → dest ≡ list_any (λ (t : Transform). bytes_eq name t.config.dest) ts
      → not (index || dest) ≡ is_free name past
  free_in name index dest e f =
      (λ j. not (e j || f j))
      ∙ (λ j. not (list_any (λ (s : SourceIndex). bytes_eq name s.name) (sym stands.indices_are j) || (sym (dest_names name ts) ∙ ap (list_any (is_into name)) (sym stands.transforms_are)) j))

pub if_told : {R : Type 0} (now : R → Transform) (P : Transform → Type 0) (found : Option Transform) (r : Option R) → option_map now r ≡ found → ((t : Transform) → found ≡ Some t → P t) → IfSome r (λ x. P (now x))
if_told now P found None e h = tt
if_told now P found (Some x) e h = h (now x) (sym e)
