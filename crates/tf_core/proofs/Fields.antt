-- Fields that ascend by name, and the stamp among them.
use Rattle.std.proofs.Common.{◌≡◌, ℕ, Bool, true, false, ◌&&◌, List, [], ◌∷◌, map, Some, refl, sym, ap, subst, ◌∙◌}
use Rattle.std.specs.Prelude.{◌||◌, if◌then◌else◌}
use Rattle.std.specs.Cmp.Derive.{both_true}
use Rattle.std.specs.Cmp.Lexicographic.{slice_cmp, nat_list_cmp_total}
use Rattle.std.specs.List.{AllByRecursion, list_any}
use Rattle.std.specs.List.Sorted.{IsStrictlySortedBy}
use Rattle.std.specs.Ordering.{nat_cmp, is_eq, is_lt}
use Rattle.std.specs.Str.{bytes_eq}
use Rattle.std.specs.declared.cmp.Ordering.{Ordering}
use Rattle.std.specs.declared.cmp.Ordering.TheVariants.{Less, Equal, Greater}
use Rattle.std.proofs.lemmas.Map.Text.{is_eq-slice_cmp}
use Rattle.std.proofs.lemmas.Slice.Eq.{bytes_eq-Decides}
use Rattle.tf_model.specs.declared.query.FieldType.{FieldType}
use Rattle.tf_model.specs.declared.query.FieldType.TheVariants.{Keyword, Long, Boolean, Date}
use Rattle.tf_model.specs.declared.query.Mapping.{Mapping}
use Rattle.tf_model.specs.Values.{type_at, type_of}
use Rattle.tf_history.specs.LegalEntries.{has_date, is_date}
use Rattle.tf_core.specs.Allowing.{ascends_above, fields_ascend}
use Rattle.tf_core.proofs.Truths.{both}

abbrev Field : Type 0
Field = List ℕ × FieldType

abbrev names : List Field → List (List ℕ)
names fields = map (λ (f : Field). f.0) fields

abbrev AreAbove : List ℕ → List (List ℕ) → Type 0
AreAbove name others = AllByRecursion (λ other. slice_cmp nat_cmp name other ≡ Less) others

less_is : (o : Ordering) → is_lt o ≡ true → o ≡ Less
less_is Less e = refl
less_is Equal e = absurd (let z : false ≡ true = e in cc)
less_is Greater e = absurd (let z : false ≡ true = e in cc)

-- ---- each name above the one before, and each below all after it
above_more : (a b : List ℕ) (others : List (List ℕ)) → slice_cmp nat_cmp a b ≡ Less → AreAbove b others → AreAbove a others
above_more a b [] less above = tt
above_more a b (other ∷ others) less above = (nat_list_cmp_total.trans a b other less above.0, above_more a b others less above.1)

all_above : (name : List ℕ) (fields : List Field) → ascends_above name fields ≡ true → AreAbove name (names fields)
all_above name [] e = tt
all_above name (f ∷ fields) e =
    let parts = both (is_lt (slice_cmp nat_cmp name f.0)) (ascends_above f.0 fields) e in
    let less = less_is (slice_cmp nat_cmp name f.0) parts.0 in
    (less, above_more name f.0 (names fields) less (all_above f.0 fields parts.1))

sorted_above : (name : List ℕ) (fields : List Field) → ascends_above name fields ≡ true → IsStrictlySortedBy (slice_cmp nat_cmp) (names fields)
unfolding IsStrictlySortedBy
sorted_above name [] e = tt
sorted_above name (f ∷ fields) e =
    let parts = both (is_lt (slice_cmp nat_cmp name f.0)) (ascends_above f.0 fields) e in
    (all_above f.0 fields parts.1, sorted_above f.0 fields parts.1)

pub ascending_is : (fields : List Field) → fields_ascend fields ≡ true → IsStrictlySortedBy (slice_cmp nat_cmp) (names fields)
unfolding IsStrictlySortedBy
ascending_is [] e = tt
ascending_is (f ∷ fields) e = (all_above f.0 fields e, sorted_above f.0 fields e)

chained : (name : List ℕ) (fields : List Field) → AreAbove name (names fields) → IsStrictlySortedBy (slice_cmp nat_cmp) (names fields) → ascends_above name fields ≡ true
unfolding IsStrictlySortedBy
chained name [] above sorted = refl
chained name (f ∷ fields) above sorted = both_true (ap is_lt above.0) (chained f.0 fields sorted.0 sorted.1)

pub is_ascending : (fields : List Field) → IsStrictlySortedBy (slice_cmp nat_cmp) (names fields) → fields_ascend fields ≡ true
unfolding IsStrictlySortedBy
is_ascending [] sorted = refl
is_ascending (f ∷ fields) sorted = chained f.0 fields sorted.0 sorted.1

-- ---- the stamp
date_is : (kind : FieldType) → is_date kind ≡ true → kind ≡ Date
date_is Date e = refl
date_is Keyword e = absurd (let z : false ≡ true = e in cc)
date_is Long e = absurd (let z : false ≡ true = e in cc)
date_is Boolean e = absurd (let z : false ≡ true = e in cc)

-- a name that is below all of these is none of them
none_above : (name : List ℕ) (fields : List Field) → AreAbove name (names fields) → list_any (λ (f : Field). bytes_eq name f.0 && is_date f.1) fields ≡ true → ⊥
none_above name [] above e = let z : false ≡ true = e in cc
none_above name (f ∷ fields) above e =
    let other : bytes_eq name f.0 ≡ false = sym (is_eq-slice_cmp name f.0) ∙ ap is_eq above.0 in
    none_above name fields above.1 (sym (ap (λ b. (b && is_date f.1) || list_any (λ (g : Field). bytes_eq name g.0 && is_date g.1) fields) other) ∙ e)

stamp_at : (fields : List Field) (field : List ℕ) → IsStrictlySortedBy (slice_cmp nat_cmp) (names fields) → list_any (λ (f : Field). bytes_eq field f.0 && is_date f.1) fields ≡ true
    → type_at fields field ≡ Some Date
unfolding IsStrictlySortedBy
stamp_at [] field sorted e = absurd (let z : false ≡ true = e in cc)
stamp_at (f ∷ fields) field sorted e = by (bytes_eq field f.0) (bytes_eq f.0 field) refl refl (stamp_at fields field sorted.1) e
  where
    late : (a : Bool) → field ≡ f.0 → is_date f.1 ≡ a → (a || list_any (λ (g : Field). bytes_eq field g.0 && is_date g.1) fields) ≡ true → is_date f.1 ≡ true
    late true same is e = is
    late false same is e = absurd (none_above f.0 fields sorted.0 (subst (λ name. list_any (λ (g : Field). bytes_eq name g.0 && is_date g.1) fields ≡ true) same e))

    by : (a b : Bool) → bytes_eq field f.0 ≡ a → bytes_eq f.0 field ≡ b → (list_any (λ (g : Field). bytes_eq field g.0 && is_date g.1) fields ≡ true → type_at fields field ≡ Some Date)
        → ((a && is_date f.1) || list_any (λ (g : Field). bytes_eq field g.0 && is_date g.1) fields) ≡ true → (if b then Some f.1 else type_at fields field) ≡ Some Date
    by true true p q rest e = ap Some (date_is f.1 (late (is_date f.1) ((bytes_eq-Decides field f.0).0 p) refl e))
    by true false p q rest e = absurd (let z : bytes_eq f.0 field ≡ true = (bytes_eq-Decides f.0 field).1 (sym ((bytes_eq-Decides field f.0).0 p)) in let w : false ≡ true = sym q ∙ z in cc)
    by false true p q rest e = absurd (let z : bytes_eq field f.0 ≡ true = (bytes_eq-Decides field f.0).1 (sym ((bytes_eq-Decides f.0 field).0 q)) in let w : false ≡ true = sym p ∙ z in cc)
    by false false p q rest e = rest e

pub stamp_type : (mapping : Mapping) (field : List ℕ) → IsStrictlySortedBy (slice_cmp nat_cmp) (names mapping.fields) → has_date mapping field ≡ true → type_of mapping field ≡ Some Date
unfolding type_of
stamp_type mapping field sorted e = stamp_at mapping.fields field sorted e
