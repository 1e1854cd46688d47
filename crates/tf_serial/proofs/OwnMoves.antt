-- A next move is of the five kinds of moves, and of its own transform.
use Rattle.std.proofs.Common.{◌≡◌, ℕ, ◌+◌, ℤ, Bool, true, false, List, [], ◌∷◌, Option, Some, None, refl, sym, ap, subst, ◌∙◌}
use Rattle.std.specs.Option.{option_and_then}
use Rattle.std.specs.Prelude.{if◌then◌else◌, option_map, ◌&&◌}
use Rattle.std.proofs.lemmas.Option.{same_Some}
use Rattle.tf_model.specs.declared.doc.Doc.{Doc}
use Rattle.tf_model.specs.declared.entry.Kind.{Kind}
use Rattle.tf_model.specs.declared.entry.Kind.TheVariants as kind
use Rattle.tf_model.specs.declared.entry.Row.{Row}
use Rattle.tf_model.specs.declared.entry.SumRange.{SumRange}
use Rattle.tf_model.specs.declared.value.Key.{Key}
use Rattle.tf_history.specs.Catalogue.{SourceIndex}
use Rattle.tf_history.specs.Events.{Deed, Event}
use Rattle.tf_history.specs.Events.Deed.{Stopped, Fail, Begin, Page, Finish}
use Rattle.tf_history.specs.Legality.{begin_move, fail_move, failing, is_active, is_due, is_started, may_stop, move_of, next_move, next_page, page_move, sum_now}
use Rattle.tf_history.specs.Lives.{Life, act, is_running, is_same, life, writes}
use Rattle.tf_history.specs.Lives.Act.{Aside, Begins, Pages, Finishes, Turns}
use Rattle.tf_history.specs.Lives.Turn.{Stops, Fails}
use Rattle.tf_history.specs.Reading.{deed_of}
use Rattle.tf_history.specs.Transforms.{PutTransform, transforms_after}
use Rattle.tf_core.specs.Moves.{kind_of}
use Rattle.tf_mapping.specs.Documents.{values_of}

-- the deed of a move of a transform, and its kind of entry
pub data IsOwnMove (id : List ℕ) : Deed → Kind → Type 0 where
  begins : (n : ℕ) (bound : Option ℤ) → IsOwnMove id (Begin id n bound) (kind.Begin id n bound)
  pages : (n : ℕ) (rows : List Row) → IsOwnMove id (Page id n rows) (kind.Page id n rows)
  finishes : (n : ℕ) → IsOwnMove id (Finish id n) (kind.Finish id n)
  fails : (n : ℕ) (key : Key) (name : List ℕ) (value : ℤ) → IsOwnMove id (Fail id n key name value) (kind.Fail id n key name value)
  stops : IsOwnMove id (Stopped id) (kind.Stopped id)

-- ---- what it does
-- the deed of its entry is that of the move
pub deed_back : (indices : List SourceIndex) {id : List ℕ} {deed : Deed} {k : Kind} → IsOwnMove id deed k → deed_of values_of indices k ≡ deed
deed_back indices (begins n bound) = refl
deed_back indices (pages n rows) = refl
deed_back indices (finishes n) = refl
deed_back indices (fails n key name value) = refl
deed_back indices stops = refl

-- it writes no document
pub writes_none : {id : List ℕ} {deed : Deed} {k : Kind} → IsOwnMove id deed k → writes deed ≡ []
writes_none (begins n bound) = refl
writes_none (pages n rows) = refl
writes_none (finishes n) = refl
writes_none (fails n key name value) = refl
writes_none stops = refl

-- it leaves the transforms
pub leaves_transforms : (indices : List SourceIndex) (ts : List PutTransform) {id : List ℕ} {deed : Deed} {k : Kind} → IsOwnMove id deed k → transforms_after indices k ts ≡ ts
leaves_transforms indices ts (begins n bound) = refl
leaves_transforms indices ts (pages n rows) = refl
leaves_transforms indices ts (finishes n) = refl
leaves_transforms indices ts (fails n key name value) = refl
leaves_transforms indices ts stops = refl

-- it is nothing to another transform
pub aside : {id : List ℕ} {deed : Deed} {k : Kind} (t : List ℕ) (moment : ℤ) → is_same t id ≡ false → IsOwnMove id deed k → act t (record { moment = moment; deed = deed }) ≡ Aside
aside t moment other (begins n bound) = ap (λ b. if b then Begins n bound moment else Aside) other
aside t moment other (pages n rows) = ap (λ b. if b then Pages n rows else Aside) other
aside t moment other (finishes n) = ap (λ b. if b then Finishes n else Aside) other
aside t moment other (fails n key name value) = ap (λ b. if b then Turns (Fails key name value) else Aside) other
aside t moment other stops = ap (λ b. if b then Turns Stops else Aside) other

-- ---- each next move
module _ (id : List ℕ) (deed : Deed) (k : Kind) (kind_is : kind_of deed ≡ Some k) where
  made : (other : Deed) (wanted : Kind) → IsOwnMove id other wanted → kind_of other ≡ Some wanted → Some other ≡ Some deed → IsOwnMove id deed k
  made other wanted own of is =
      let same : other ≡ deed = same_Some other deed is in
      subst (λ (d : Deed). IsOwnMove id d k) same (subst (IsOwnMove id other) (same_Some wanted k (sym of ∙ (ap kind_of same ∙ kind_is))) own)

  by_sum : (l : Life) (key : Key) (o : Option SumRange) → option_map (fail_move id l key) o ≡ Some deed → IsOwnMove id deed k
  by_sum l key None is = absurd (let none : ◌≡◌ {A = Option Deed} None (Some deed) = is in cc)
  by_sum l key (Some r) is =
      made (Fail id (l.finished + 1) key r.name r.value) (kind.Fail id (l.finished + 1) key r.name r.value) (fails (l.finished + 1) key r.name r.value) refl is

  by_page : (l : Life) (o : Option Key) (keys : List Key) → page_move id l o keys ≡ Some deed → IsOwnMove id deed k
  by_page l (Some key) keys is = by_sum l key (sum_now l key) is
  by_page l None [] is = made (Finish id (l.finished + 1)) (kind.Finish id (l.finished + 1)) (finishes (l.finished + 1)) refl is
  by_page l None (key ∷ keys) is = made (Page id (l.finished + 1) _) (kind.Page id (l.finished + 1) _) (pages (l.finished + 1) _) refl is

  by_tests : (l : Life) (moment : ℤ) (stop begin index : Bool)
      → (if stop then Some (Stopped id) else if begin then Some (begin_move id l moment) else if index then page_move id l (failing l) (next_page l) else None) ≡ Some deed → IsOwnMove id deed k
  by_tests l moment true begin index is = made (Stopped id) (kind.Stopped id) stops refl is
  by_tests l moment false true index is = made (begin_move id l moment) (kind.Begin id (l.finished + 1) _) (begins (l.finished + 1) _) refl is
  by_tests l moment false false true is = by_page l (failing l) (next_page l) is
  by_tests l moment false false false is = absurd (let none : ◌≡◌ {A = Option Deed} None (Some deed) = is in cc)

  by_life : (docs : List Doc) (moment : ℤ) (o : Option Life) → option_and_then (λ l. move_of id l docs moment) o ≡ Some deed → IsOwnMove id deed k
  by_life docs moment None is = absurd (let none : ◌≡◌ {A = Option Deed} None (Some deed) = is in cc)
  by_life docs moment (Some l) is = by_tests l moment (may_stop l.state l) (is_started l.state && is_due l docs moment) (is_running l && is_active l.state) is

  pub own_move : (past : List Event) (moment : ℤ) → next_move id past moment ≡ Some deed → IsOwnMove id deed k
  own_move past moment is = by_life _ moment (life id past) is
