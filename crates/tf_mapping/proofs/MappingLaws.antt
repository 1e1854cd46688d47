-- A tree that is read is a mapping whose fields ascend, each once, at most 64 and each well formed.
use Rattle.std.proofs.Common.{◌≡◌, ℕ, ◌≤◌, Bool, true, false, cond, ◌&&◌, List, [], ◌∷◌, length, Option, Some, None, Result, Ok, Err, sym, ap, ◌∙◌, refl, subst, arith}
use Rattle.std.specs.Prelude.{not, nat_le, IfOk}
use Rattle.std.specs.Cmp.Lexicographic.{slice_cmp, nat_list_cmp_total}
use Rattle.std.specs.declared.cmp.Ordering.{Ordering}
use Rattle.std.specs.declared.cmp.Ordering.TheVariants.{Less, Equal, Greater}
use Rattle.std.specs.Fmt.{decimal}
use Rattle.std.specs.List.{fold, list_all, AllByRecursion, cons_option}
use Rattle.std.specs.List.Sorted.{IsStrictlySortedBy}
use Rattle.std.specs.Option.{option_map}
use Rattle.std.specs.Ordering.{nat_cmp, match_ordering, ordering_reverse}
use Rattle.std.proofs.lemmas.Bool.Decides.{nat_tests}
use Rattle.tf_model.specs.declared.tree.Tree.{Tree}
use Rattle.tf_model.specs.declared.query.Mapping.{Mapping}
use Rattle.tf_model.specs.declared.query.FieldType.{FieldType}
use Rattle.tf_model.specs.declared.query.FieldType.TheVariants.{Keyword, Long, Boolean, Date}
use Rattle.tf_model.specs.Names.{is_field_path}
use Rattle.tf_model.specs.Values.{type_of}
use Rattle.tf_mapping.specs.declared.error.MappingError.{MappingError}
use Rattle.tf_mapping.specs.declared.error.MappingError.TheVariants as error
use Rattle.tf_mapping.specs.Least.{least_text}
use Rattle.tf_mapping.specs.Settings.{faults_in}
use Rattle.tf_mapping.specs.Leaves.{Leaf, leaves_in}
use Rattle.tf_mapping.specs.Mappings.{Field, names, ill_named, ill_typed, put, again, fields_of, mapping_from, is_date, if_stamped, if_few, if_once, if_typed, if_named, if_formed, reading, IsMapping, IsStampOf, Answers}
use Rattle.tf_mapping.proofs.LeastLaws.{none_least}

-- ---- names ascend
abbrev IsLess : List ℕ → List ℕ → Type 0
IsLess a b = slice_cmp nat_cmp a b ≡ Less

abbrev AreAbove : List ℕ → List (List ℕ) → Type 0
AreAbove name others = AllByRecursion (λ other. IsLess name other) others

above_more : (a b : List ℕ) (others : List (List ℕ)) → IsLess a b → AreAbove b others → AreAbove a others
above_more a b [] less above = tt
above_more a b (other ∷ others) less above = (nat_list_cmp_total.trans a b other less above.0, above_more a b others less above.1)

-- the fields with one put where the order says
abbrev placed : Ordering → Field → List Field → Field → List Field
placed o f fields field = match_ordering o ((field.0, field.1) ∷ f ∷ fields) ((f.0, field.1) ∷ fields) (f ∷ put fields field)

above_placed : (o : Ordering) (name : List ℕ) (f : Field) (fields : List Field) (field : Field) → IsLess name field.0 → AreAbove name (names (f ∷ fields))
    → AreAbove name (names (put fields field)) → AreAbove name (names (placed o f fields field))
above_placed Less name f fields field less above later = (less, above)
above_placed Equal name f fields field less above later = above
above_placed Greater name f fields field less above later = (above.0, later)

above_put : (name : List ℕ) (fields : List Field) (field : Field) → IsLess name field.0 → AreAbove name (names fields) → AreAbove name (names (put fields field))
above_put name [] field less above = (less, tt)
above_put name (f ∷ fields) field less above = above_placed (slice_cmp nat_cmp field.0 f.0) name f fields field less above (above_put name fields field less above.1)

sorted_placed : (o : Ordering) (f : Field) (fields : List Field) (field : Field) → slice_cmp nat_cmp field.0 f.0 ≡ o → IsStrictlySortedBy (slice_cmp nat_cmp) (names (f ∷ fields))
    → IsStrictlySortedBy (slice_cmp nat_cmp) (names (put fields field)) → IsStrictlySortedBy (slice_cmp nat_cmp) (names (placed o f fields field))
unfolding IsStrictlySortedBy
sorted_placed Less f fields field is sorted later = ((is, above_more field.0 f.0 (names fields) is sorted.0), sorted)
sorted_placed Equal f fields field is sorted later = sorted
sorted_placed Greater f fields field is sorted later = (above_put f.0 fields field (nat_list_cmp_total.antisymm f.0 field.0 ∙ ap ordering_reverse is) sorted.0, later)

pub sorted_put : (fields : List Field) (field : Field) → IsStrictlySortedBy (slice_cmp nat_cmp) (names fields) → IsStrictlySortedBy (slice_cmp nat_cmp) (names (put fields field))
unfolding IsStrictlySortedBy
sorted_put [] field sorted = (tt, tt)
sorted_put (f ∷ fields) field sorted = sorted_placed (slice_cmp nat_cmp field.0 f.0) f fields field refl sorted (sorted_put fields field sorted.1)

sorted_all : (before fields : List Field) → IsStrictlySortedBy (slice_cmp nat_cmp) (names before) → IsStrictlySortedBy (slice_cmp nat_cmp) (names (fold put before fields))
sorted_all before [] sorted = sorted
sorted_all before (field ∷ fields) sorted = sorted_all (put before field) fields (sorted_put before field sorted)

none_sorted : IsStrictlySortedBy (slice_cmp nat_cmp) (names {A = FieldType} [])
unfolding IsStrictlySortedBy
none_sorted = tt

-- ---- names are well formed
abbrev is_named : Field → Bool
is_named f = is_field_path f.0

both : (a b : Bool) → a ≡ true → b ≡ true → (a && b) ≡ true
both true true ha hb = refl
both false b ha hb = ha
both true false ha hb = hb

first_of_both : (a b : Bool) → (a && b) ≡ true → a ≡ true
first_of_both true b h = refl
first_of_both false b h = h

second_of_both : (a b : Bool) → (a && b) ≡ true → b ≡ true
second_of_both true b h = h
second_of_both false b h = absurd (cc)

named_placed : (o : Ordering) (f : Field) (fields : List Field) (field : Field) → is_named field ≡ true → list_all is_named (f ∷ fields) ≡ true
    → list_all is_named (put fields field) ≡ true → list_all is_named (placed o f fields field) ≡ true
named_placed Less f fields field here all later = both (is_named field) (list_all is_named (f ∷ fields)) here all
named_placed Equal f fields field here all later = all
named_placed Greater f fields field here all later = both (is_named f) (list_all is_named (put fields field)) (first_of_both (is_named f) (list_all is_named fields) all) later

named_put : (fields : List Field) (field : Field) → is_named field ≡ true → list_all is_named fields ≡ true → list_all is_named (put fields field) ≡ true
named_put [] field here all = both (is_named field) true here refl
named_put (f ∷ fields) field here all = named_placed (slice_cmp nat_cmp field.0 f.0) f fields field here all (named_put fields field here (second_of_both (is_named f) (list_all is_named fields) all))

named_all : (before fields : List Field) → list_all is_named before ≡ true → list_all is_named fields ≡ true → list_all is_named (fold put before fields) ≡ true
named_all before [] all more = all
named_all before (field ∷ fields) all more =
    named_all (put before field) fields (named_put before field (first_of_both (is_named field) (list_all is_named fields) more) all) (second_of_both (is_named field) (list_all is_named fields) more)

none_left_out : (b : Bool) (name : List ℕ) (others : List (List ℕ)) → cond (not b) (name ∷ others) others ≡ [] → (b ≡ true) × (others ≡ [])
none_left_out true name others h = (refl, h)
none_left_out false name others h = absurd (cc)

named_leaf : (leaf : Leaf) (kind : Option FieldType) (fields : List Field) → is_field_path leaf.0 ≡ true → list_all is_named fields ≡ true
    → list_all is_named (cons_option (option_map (λ (found : FieldType). (leaf.0, found)) kind) fields) ≡ true
named_leaf leaf None fields here rest = rest
named_leaf leaf (Some kind) fields here rest = both (is_field_path leaf.0) (list_all is_named fields) here rest

all_named : (leaves : List Leaf) → ill_named leaves ≡ [] → list_all is_named (fields_of leaves) ≡ true
all_named [] none = refl
all_named (leaf ∷ leaves) none =
    let here = none_left_out (is_field_path leaf.0) leaf.0 (ill_named leaves) none in
    named_leaf leaf leaf.1 (fields_of leaves) here.0 (all_named leaves here.1)

-- ---- the refusals one after another
abbrev Good : Option (List ℕ) → Mapping → Type 0
Good stamp mapping = IsMapping mapping × IsStampOf mapping stamp

date_type : (kind : Option FieldType) → is_date kind ≡ true → kind ≡ Some Date
date_type None h = absurd (cc)
date_type (Some Keyword) h = absurd (cc)
date_type (Some Long) h = absurd (cc)
date_type (Some Boolean) h = absurd (cc)
date_type (Some Date) h = refl

stamped_ok : (stamp : List ℕ) (mapping m : Mapping) (b : Bool) → is_date (type_of mapping stamp) ≡ b
    → cond b (Ok mapping) (Err (error.BadStamp stamp)) ≡ Ok m → (mapping ≡ m) × (type_of mapping stamp ≡ Some Date)
stamped_ok stamp mapping m true is h = (cc, date_type (type_of mapping stamp) is)
stamped_ok stamp mapping m false is h = absurd (cc)

from_stamped : (stamp : Option (List ℕ)) (mapping m : Mapping) → IsMapping mapping → if_stamped stamp mapping ≡ Ok m → Good stamp m
from_stamped None mapping m good h = let is : mapping ≡ m = cc in (subst IsMapping is good, tt)
from_stamped (Some stamp) mapping m good h =
    let parts = stamped_ok stamp mapping m (is_date (type_of mapping stamp)) refl h in
    (subst IsMapping parts.0 good, subst (λ found. type_of found stamp ≡ Some Date) parts.0 parts.1)

few_ok : (stamp : Option (List ℕ)) (mapping m : Mapping) (b : Bool)
    → cond b (if_stamped stamp mapping) (Err (error.TooManyFields (decimal (length mapping.fields)))) ≡ Ok m → (b ≡ true) × (if_stamped stamp mapping ≡ Ok m)
few_ok stamp mapping m true h = (refl, h)
few_ok stamp mapping m false h = absurd (cc)

few_fields : (n : ℕ) → nat_le n 64 ≡ true → n ≤ 64
few_fields n h = grind (arith, nat_tests)

from_few : (stamp : Option (List ℕ)) (mapping m : Mapping) → IsStrictlySortedBy (slice_cmp nat_cmp) (names mapping.fields) → list_all is_named mapping.fields ≡ true
    → if_few stamp mapping ≡ Ok m → Good stamp m
from_few stamp mapping m sorted named h =
    let parts = few_ok stamp mapping m (nat_le (length mapping.fields) 64) h in
    from_stamped stamp mapping m (record { ascend = sorted; named = named; few = few_fields (length mapping.fields) parts.0 }) parts.1

from_once : (stamp : Option (List ℕ)) (fields : List Field) (m : Mapping) (o : Option (List ℕ)) → list_all is_named fields ≡ true → if_once stamp fields o ≡ Ok m → Good stamp m
from_once stamp fields m (Some name) named h = absurd (cc)
from_once stamp fields m None named h = from_few stamp (mapping_from fields) m (sorted_all [] fields none_sorted) (named_all [] fields refl named) h

from_typed : (stamp : Option (List ℕ)) (leaves : List Leaf) (m : Mapping) (o : Option (List ℕ)) → list_all is_named (fields_of leaves) ≡ true → if_typed stamp leaves o ≡ Ok m → Good stamp m
from_typed stamp leaves m (Some name) named h = absurd (cc)
from_typed stamp leaves m None named h = from_once stamp (fields_of leaves) m (least_text (again [] (names (fields_of leaves)))) named h

from_named : (stamp : Option (List ℕ)) (leaves : List Leaf) (m : Mapping) (o : Option (List ℕ)) → least_text (ill_named leaves) ≡ o → if_named stamp leaves o ≡ Ok m → Good stamp m
from_named stamp leaves m (Some name) is h = absurd (cc)
from_named stamp leaves m None is h = from_typed stamp leaves m (least_text (ill_typed leaves)) (all_named leaves (none_least (ill_named leaves) is)) h

from_formed : (stamp : Option (List ℕ)) (leaves : List Leaf) (m : Mapping) (o : Option (List ℕ)) → if_formed stamp leaves o ≡ Ok m → Good stamp m
from_formed stamp leaves m (Some path) h = absurd (cc)
from_formed stamp leaves m None h = from_named stamp leaves m (least_text (ill_named leaves)) refl h

-- what is read is a mapping, and the stamp one of its dates
pub read_is_good : (stamp : Option (List ℕ)) (t : Tree) (m : Mapping) → reading stamp t ≡ Ok m → Good stamp m
unfolding reading
read_is_good stamp t m h = from_formed stamp (leaves_in t) m (least_text (faults_in t)) h

pub good_answer : (stamp : Option (List ℕ)) (t : Tree) (answer : Result Mapping MappingError) → Answers (reading stamp t) answer → IfOk answer IsMapping
good_answer stamp t (Ok m) h = (read_is_good stamp t m (sym h)).0
good_answer stamp t (Err refusal) h = tt

pub stamped_answer : (stamp : Option (List ℕ)) (t : Tree) (answer : Result Mapping MappingError) → Answers (reading stamp t) answer → IfOk answer (λ mapping. IsStampOf mapping stamp)
stamped_answer stamp t (Ok m) h = (read_is_good stamp t m (sym h)).1
stamped_answer stamp t (Err refusal) h = tt
