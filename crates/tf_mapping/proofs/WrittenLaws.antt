-- A document that is read with its stamp free is one that an index keeps, once the stamp is put.
use Rattle.std.proofs.Common.{◌≡◌, ℕ, ℤ, Bool, true, false, cond, ◌&&◌, List, [], ◌∷◌, ◌++◌, Option, Some, None, Result, Ok, Err, append_assoc, sym, ap, ap₂, ◌∙◌, refl, subst}
use Rattle.std.specs.Prelude.{is_ok, is_some, unwrap_or}
use Rattle.std.specs.Cmp.{int_eq_equiv}
use Rattle.std.specs.Cmp.Lexicographic.{slice_cmp, nat_list_eq_equiv}
use Rattle.std.specs.declared.cmp.Ordering.{Ordering}
use Rattle.std.specs.declared.cmp.Ordering.TheVariants.{Less, Equal, Greater}
use Rattle.std.specs.List.{flat_map, filter_map, cons_option}
use Rattle.std.specs.Option.{option_map, option_and_then}
use Rattle.std.specs.Result.{result_ok}
use Rattle.std.specs.Ordering.{nat_cmp, match_ordering}
use Rattle.std.specs.Str.{bytes_eq}
use Rattle.std.proofs.lemmas.Map.Lookups.{exact_bytes}
use Rattle.std.proofs.lemmas.Slice.Eq.{bytes_eq-Decides}
use Rattle.tf_model.specs.declared.tree.Tree.{Tree, out-Tree, roll-Tree, roll-out-Tree, out-roll-Tree}
use Rattle.tf_model.specs.declared.tree.Tree.TheOpen.{Tree-F}
use Rattle.tf_model.specs.declared.tree.Tree.TheVariants as t
use Rattle.tf_model.specs.declared.value.Value.{Value}
use Rattle.tf_model.specs.declared.value.Value.TheVariants as value
use Rattle.tf_model.specs.declared.query.Mapping.{Mapping}
use Rattle.tf_model.specs.declared.query.FieldType.{FieldType}
use Rattle.tf_model.specs.declared.query.FieldType.TheVariants.{Date}
use Rattle.tf_model.specs.Trees.{members_level, members_in, number_level, number_in, text_in}
use Rattle.tf_model.specs.Values.{value_at, type_at, type_of}
use Rattle.tf_time.specs.Dates.{is_date}
use Rattle.tf_mapping.specs.declared.error.DocError.{DocError}
use Rattle.tf_mapping.specs.declared.error.DocError.TheVariants as error
use Rattle.tf_mapping.specs.Scalars.{scalars_in, at_path, scalars_at, seen_in}
use Rattle.tf_mapping.specs.Documents.{ok_map, ok_then, date_by, value_by, value_from, unstamped, value_in, field_in, fields_in, with_value, value_found, value_beside, values_of, reading, reads}
use Rattle.tf_mapping.specs.Stamps.{with_member, stamped}
use Rattle.tf_mapping.specs.Written.{is_object, is_moment, is_written, StampedIsWritten}
use Rattle.tf_mapping.proofs.DocumentLaws.{Field, Values}
use Rattle.tf_mapping.proofs.FitLaws.{AreTyped, all_typed}
use Rattle.tf_mapping.proofs.ScalarLaws.{scalars_obj, scalars_num, at_both, one_at}

abbrev Member : Type 0
Member = List ℕ × Tree

-- ---- the scalars at a path with a member more
abbrev scalars_below : List Member → List (List ℕ × Tree)
scalars_below members = flat_map (λ (m : Member). scalars_in m.1 (Some m.0)) members

abbrev IsSplit : List ℕ → List Member → List Member → List Tree → List Tree → List Tree → List Tree → Type 0
IsSplit field members later added xs ys zs = (at_path field (scalars_below members) ≡ xs ++ (ys ++ zs)) × (at_path field (scalars_below later) ≡ xs ++ (added ++ zs))

-- some scalars are gone, and those of the new member are there
abbrev Split : List ℕ → List Member → List Member → List Tree → Type 0
Split field members later added = (xs : List Tree) × ((ys : List Tree) × ((zs : List Tree) × IsSplit field members later added xs ys zs))

abbrev placed : Ordering → Member → List Member → List ℕ → Tree → List Member
placed o m members name tree = match_ordering o ((name, tree) ∷ m ∷ members) ((m.0, tree) ∷ members) (m ∷ with_member members name tree)

abbrev added_by : List ℕ → List ℕ → Tree → List Tree
added_by field name tree = at_path field (scalars_in tree (Some name))

split_placed : (o : Ordering) (field : List ℕ) (m : Member) (members : List Member) (name : List ℕ) (tree : Tree) → slice_cmp nat_cmp name m.0 ≡ o
    → Split field members (with_member members name tree) (added_by field name tree) → Split field (m ∷ members) (placed o m members name tree) (added_by field name tree)
split_placed Less field m members name tree is later =
    ([], ([], (at_path field (scalars_below (m ∷ members)), (refl, at_both field (scalars_in tree (Some name)) (scalars_below (m ∷ members))))))
split_placed Equal field m members name tree is later = (
  [],
  (
    at_path field (scalars_in m.1 (Some m.0)),
    (
      at_path field (scalars_below members),
      (
        at_both field (scalars_in m.1 (Some m.0)) (scalars_below members),
        at_both field (scalars_in tree (Some m.0)) (scalars_below members) ∙ ap (λ (same : List ℕ). added_by field same tree ++ at_path field (scalars_below members)) (sym (exact_bytes name m.0 is)),
      ),
    ),
  ),
)
split_placed Greater field m members name tree is later =
    let first = at_path field (scalars_in m.1 (Some m.0)) in
    let xs = later.0 in
    let ys = later.1.0 in
    let zs = later.1.1.0 in
    let facts = later.1.1.1 in (
      first ++ xs,
      (
        ys,
        (
          zs,
          (
            at_both field (scalars_in m.1 (Some m.0)) (scalars_below members) ∙ ap (λ (l : List Tree). first ++ l) facts.0 ∙ sym (append_assoc first xs (ys ++ zs)),
            at_both field (scalars_in m.1 (Some m.0)) (scalars_below (with_member members name tree)) ∙ ap (λ (l : List Tree). first ++ l) facts.1 ∙ sym (append_assoc first xs (added_by field name tree ++ zs)),
          ),
        ),
      ),
    )

split_with : (field : List ℕ) (members : List Member) (name : List ℕ) (tree : Tree) → Split field members (with_member members name tree) (added_by field name tree)
split_with field [] name tree = ([], ([], ([], (refl, at_both field (scalars_in tree (Some name)) []))))
split_with field (m ∷ members) name tree = split_placed (slice_cmp nat_cmp name m.0) field m members name tree refl (split_with field members name tree)

object_level : (y : Tree-F Tree) (members : List Member) → members_level y ≡ Some members → y ≡ Tree-F.Obj members
object_level Tree-F.Null members is = absurd (cc)
object_level (Tree-F.Bool b) members is = absurd (cc)
object_level (Tree-F.Num n) members is = absurd (cc)
object_level (Tree-F.Str s) members is = absurd (cc)
object_level (Tree-F.Arr items) members is = absurd (cc)
object_level (Tree-F.Obj inside) members is = let same : inside ≡ members = cc in ap Tree-F.Obj same

object_is : (tree : Tree) (members : List Member) → members_in tree ≡ Some members → tree ≡ t.Obj members
unfolding members_in
object_is tree members is = sym (roll-out-Tree tree) ∙ ap roll-Tree (object_level (out-Tree tree) members is) ∙ t.rolls-Obj members

number_added : (field name : List ℕ) (ms : ℤ) → added_by field name (t.Num ms) ≡ cond (bytes_eq field name) (t.Num ms ∷ []) []
number_added field name ms = ap (at_path field) (scalars_num ms (Some name)) ∙ one_at (bytes_eq field name) name (t.Num ms)

abbrev IsStampSplit : List ℕ → List ℕ → ℤ → Tree → List Tree → List Tree → List Tree → Type 0
IsStampSplit field stamp ms tree xs ys zs =
    (scalars_at field tree ≡ xs ++ (ys ++ zs)) × (scalars_at field (stamped tree stamp ms) ≡ xs ++ (cond (bytes_eq field stamp) (t.Num ms ∷ []) [] ++ zs))

abbrev StampSplit : List ℕ → List ℕ → ℤ → Tree → Type 0
StampSplit field stamp ms tree = (xs : List Tree) × ((ys : List Tree) × ((zs : List Tree) × IsStampSplit field stamp ms tree xs ys zs))

stamp_split : (field stamp : List ℕ) (ms : ℤ) (tree : Tree) (members : List Member) → members_in tree ≡ Some members → StampSplit field stamp ms tree
unfolding stamped
stamp_split field stamp ms tree members is =
    let parts = split_with field members stamp (t.Num ms) in
    let xs = parts.0 in
    let ys = parts.1.0 in
    let zs = parts.1.1.0 in
    let facts = parts.1.1.1 in
    let all = with_member members stamp (t.Num ms) in (
      xs,
      (
        ys,
        (
          zs,
          (
            ap (scalars_at field) (object_is tree members is) ∙ ap (at_path field) (scalars_obj members None) ∙ facts.0,
            ap (λ (found : Option (List Member)). scalars_at field (t.Obj (with_member (unwrap_or found []) stamp (t.Num ms)))) is
                ∙ ap (at_path field) (scalars_obj all None) ∙ facts.1 ∙ ap (λ (l : List Tree). xs ++ (l ++ zs)) (number_added field stamp ms),
          ),
        ),
      ),
    )

-- ---- fewer scalars are read too
fewer_read : (kind : FieldType) (field : List ℕ) (xs ys zs : List Tree) → is_ok (value_from kind field (seen_in (xs ++ (ys ++ zs)))) ≡ true → is_ok (value_from kind field (seen_in (xs ++ zs))) ≡ true
fewer_read kind field [] [] zs h = h
fewer_read kind field [] (y ∷ ys) [] h = refl
fewer_read kind field [] (y ∷ []) (z ∷ zs) h = absurd (cc)
fewer_read kind field [] (y ∷ other ∷ ys) (z ∷ zs) h = absurd (cc)
fewer_read kind field (x ∷ []) [] zs h = h
fewer_read kind field (x ∷ []) (y ∷ ys) zs h = absurd (cc)
fewer_read kind field (x ∷ other ∷ xs) ys zs h = absurd (cc)

-- ---- no value at the stamp's path
ok_is : {A : Type 0} (answer : Result A DocError) → is_ok answer ≡ true → (a : A) × (answer ≡ Ok a)
ok_is (Ok a) h = (a, refl)
ok_is (Err refusal) h = absurd (cc)

ok_mapped : {A B : Type 0} (f : A → B) (answer : Result A DocError) → is_ok (ok_map f answer) ≡ is_ok answer
ok_mapped f (Ok a) = refl
ok_mapped f (Err refusal) = refl

free_value : (stamp field : List ℕ) (found : Result (Option Value) DocError) → bytes_eq stamp field ≡ true → is_ok (ok_then (unstamped (Some stamp) field) found) ≡ true → found ≡ Ok None
free_value stamp field (Err refusal) same h = absurd (cc)
free_value stamp field (Ok None) same h = refl
free_value stamp field (Ok (Some v)) same h =
    let refused : is_ok {T = Option Value} {E = DocError} (Err (error.Stamped field)) ≡ true = subst (λ b. is_ok (cond b (Err (error.Stamped field)) (Ok (Some v))) ≡ true) same h in
    absurd (cc)

unstamped_ok : (stamp : Option (List ℕ)) (field : List ℕ) (found : Result (Option Value) DocError) → is_ok (ok_then (unstamped stamp field) found) ≡ true → is_ok found ≡ true
unstamped_ok stamp field (Ok v) h = refl
unstamped_ok stamp field (Err refusal) h = h

not_some : (read : Result Value DocError) → ok_map Some read ≡ Ok None → ⊥
not_some (Ok v) h = cc
not_some (Err refusal) h = cc

none_seen : (kind : FieldType) (field : List ℕ) (trees : List Tree) → value_from kind field (seen_in trees) ≡ Ok None → trees ≡ []
none_seen kind field [] h = refl
none_seen kind field (x ∷ []) h = absurd (not_some (value_by kind field x) h)
none_seen kind field (x ∷ other ∷ more) h = absurd (cc)

none_around : (xs ys zs : List Tree) → (xs ++ (ys ++ zs)) ≡ [] → (xs ≡ []) × (zs ≡ [])
none_around [] [] zs h = (refl, h)
none_around [] (y ∷ ys) zs h = absurd (cc)
none_around (x ∷ xs) ys zs h = absurd (cc)

number_of_number : (ms : ℤ) → number_in (t.Num ms) ≡ Some ms
unfolding number_in
number_of_number ms = ap number_level (ap out-Tree (sym (t.rolls-Num ms)) ∙ out-roll-Tree (Tree-F.Num ms))

moment_read : (field : List ℕ) (ms : ℤ) → is_date ms ≡ true → value_from Date field (seen_in (t.Num ms ∷ [])) ≡ Ok (Some (value.Date ms))
moment_read field ms in_range =
    ap (λ (number : Option ℤ). ok_map Some (date_by field number (text_in (t.Num ms)))) (number_of_number ms)
    ∙ ap (λ b. ok_map Some (cond b (Ok (value.Date ms)) (Err (error.OutOfRange field)))) in_range

-- ---- one field after the stamp is put
eq_bytes : (a b : List ℕ) → bytes_eq a b ≡ true → a ≡ b
eq_bytes a b h = (bytes_eq-Decides a b).0 h

other_field : (mapping_type : FieldType) (field stamp : List ℕ) (ms : ℤ) (tree : Tree) (members : List Member) → members_in tree ≡ Some members → bytes_eq field stamp ≡ false
    → is_ok (value_in tree (field, mapping_type)) ≡ true → is_ok (value_in (stamped tree stamp ms) (field, mapping_type)) ≡ true
other_field kind field stamp ms tree members is other h =
    let parts = stamp_split field stamp ms tree members is in
    let xs = parts.0 in
    let ys = parts.1.0 in
    let zs = parts.1.1.0 in
    let facts = parts.1.1.1 in
    let before : is_ok (value_from kind field (seen_in (xs ++ (ys ++ zs)))) ≡ true = subst (λ (l : List Tree). is_ok (value_from kind field (seen_in l)) ≡ true) facts.0 h in
    let later : scalars_at field (stamped tree stamp ms) ≡ xs ++ zs = facts.1 ∙ ap (λ b. xs ++ (cond b (t.Num ms ∷ []) [] ++ zs)) other in
    subst (λ (l : List Tree). is_ok (value_from kind field (seen_in l)) ≡ true) (sym later) (fewer_read kind field xs ys zs before)

stamp_field : (field stamp : List ℕ) (ms : ℤ) (tree : Tree) (members : List Member) → members_in tree ≡ Some members → bytes_eq field stamp ≡ true → is_date ms ≡ true
    → value_in tree (field, Date) ≡ Ok None → value_in (stamped tree stamp ms) (field, Date) ≡ Ok (Some (value.Date ms))
stamp_field field stamp ms tree members is same in_range h =
    let parts = stamp_split field stamp ms tree members is in
    let xs = parts.0 in
    let ys = parts.1.0 in
    let zs = parts.1.1.0 in
    let facts = parts.1.1.1 in
    let none : (xs ++ (ys ++ zs)) ≡ [] = sym facts.0 ∙ none_seen Date field (scalars_at field tree) h in
    let around = none_around xs ys zs none in
    let later : scalars_at field (stamped tree stamp ms) ≡ t.Num ms ∷ [] =
    facts.1 ∙ ap (λ b. xs ++ (cond b (t.Num ms ∷ []) [] ++ zs)) same ∙ ap₂ (λ (l r : List Tree). l ++ (t.Num ms ∷ r)) around.0 around.1 in
    ap (λ (l : List Tree). value_from Date field (seen_in l)) later ∙ moment_read field ms in_range

-- what is asked of a field before
abbrev IsRead : List ℕ → Tree → Field → Type 0
IsRead stamp tree field = is_ok (field_in (Some stamp) tree field) ≡ true

date_kind : (found : Option FieldType) (kind : FieldType) → found ≡ Some kind → found ≡ Some Date → kind ≡ Date
date_kind found kind is date = cc

stamp_read : (mapping : Mapping) (field : Field) (stamp : List ℕ) (ms : ℤ) (tree : Tree) (members : List Member) → members_in tree ≡ Some members → bytes_eq stamp field.0 ≡ true → is_date ms ≡ true
    → type_of mapping stamp ≡ Some Date → type_of mapping field.0 ≡ Some field.1 → IsRead stamp tree field → value_in (stamped tree stamp ms) field ≡ Ok (Some (value.Date ms))
stamp_read mapping field stamp ms tree members is same in_range date typed h =
    let name : stamp ≡ field.0 = eq_bytes stamp field.0 same in
    let kind : field.1 ≡ Date = date_kind (type_of mapping field.0) field.1 typed (ap (type_of mapping) (sym name) ∙ date) in
    let free : value_in tree field ≡ Ok None = free_value stamp field.0 (value_in tree field) same h in
    ap (λ k. value_in (stamped tree stamp ms) (field.0, k)) kind
    ∙ stamp_field field.0 stamp ms tree members is (nat_list_eq_equiv.symm field.0 stamp ∙ same) in_range (ap (λ k. value_in tree (field.0, k)) (sym kind) ∙ free)

field_read : (b : Bool) (mapping : Mapping) (field : Field) (stamp : List ℕ) (ms : ℤ) (tree : Tree) (members : List Member) → bytes_eq stamp field.0 ≡ b → members_in tree ≡ Some members → is_date ms ≡ true
    → type_of mapping stamp ≡ Some Date → type_of mapping field.0 ≡ Some field.1 → IsRead stamp tree field → is_ok (value_in (stamped tree stamp ms) field) ≡ true
field_read true mapping field stamp ms tree members same is in_range date typed h = ap is_ok (stamp_read mapping field stamp ms tree members is same in_range date typed h)
field_read false mapping field stamp ms tree members other is in_range date typed h =
    other_field field.1 field.0 stamp ms tree members is (nat_list_eq_equiv.symm field.0 stamp ∙ other) (unstamped_ok (Some stamp) field.0 (value_in tree field) h)

-- ---- all fields
ok_fields : (here : Result (Option Value) DocError) (f : Option Value → Values → Values) (later : Result Values DocError)
    → is_ok (ok_then (λ v. ok_map (f v) later) here) ≡ (is_ok here && is_ok later)
ok_fields (Ok v) f later = ok_mapped (f v) later
ok_fields (Err refusal) f later = refl

first_of : (a b : Bool) → (a && b) ≡ true → a ≡ true
first_of true b h = refl
first_of false b h = h

second_of : (a b : Bool) → (a && b) ≡ true → b ≡ true
second_of true b h = h
second_of false b h = absurd (cc)

both : (a b : Bool) → a ≡ true → b ≡ true → (a && b) ≡ true
both true true ha hb = refl
both false b ha hb = ha
both true false ha hb = hb

unstamped_none : (field : List ℕ) (found : Result (Option Value) DocError) → is_ok found ≡ true → is_ok (ok_then (unstamped None field) found) ≡ true
unstamped_none field (Ok None) h = refl
unstamped_none field (Ok (Some v)) h = refl
unstamped_none field (Err refusal) h = h

abbrev with_in : Field → Option Value → Values → Values
with_in field v values = with_value field.0 v values

all_read : (mapping : Mapping) (stamp : List ℕ) (ms : ℤ) (tree : Tree) (members : List Member) → members_in tree ≡ Some members → is_date ms ≡ true → type_of mapping stamp ≡ Some Date
    → (fields : List Field) → AreTyped mapping.fields fields → is_ok (fields_in (Some stamp) tree fields) ≡ true → is_ok (fields_in None (stamped tree stamp ms) fields) ≡ true
unfolding type_of
all_read mapping stamp ms tree members is in_range date [] typed h = refl
all_read mapping stamp ms tree members is in_range date (field ∷ fields) typed h =
    let parts : (is_ok (field_in (Some stamp) tree field) && is_ok (fields_in (Some stamp) tree fields)) ≡ true =
    sym (ok_fields (field_in (Some stamp) tree field) (with_in field) (fields_in (Some stamp) tree fields)) ∙ h in
    let here = first_of (is_ok (field_in (Some stamp) tree field)) (is_ok (fields_in (Some stamp) tree fields)) parts in
    let later = second_of (is_ok (field_in (Some stamp) tree field)) (is_ok (fields_in (Some stamp) tree fields)) parts in
    ok_fields (field_in None (stamped tree stamp ms) field) (with_in field) (fields_in None (stamped tree stamp ms) fields)
    ∙ both (is_ok (field_in None (stamped tree stamp ms) field)) (is_ok (fields_in None (stamped tree stamp ms) fields))
    (unstamped_none field.0 (value_in (stamped tree stamp ms) field) (field_read (bytes_eq stamp field.0) mapping field stamp ms tree members refl is in_range date typed.0 here))
    (all_read mapping stamp ms tree members is in_range date fields typed.1 later)

-- ---- the stamp's value
skipped : (field : Field) (found : Option Value) (rest : Values) (stamp : List ℕ) → bytes_eq field.0 stamp ≡ false
    → value_at (cons_option (option_map (λ (v : Value). (field.0, v)) found) rest) stamp ≡ value_at rest stamp
skipped field None rest stamp other = refl
skipped field (Some v) rest stamp other = ap (λ b. cond b (Some v) (value_at rest stamp)) other

abbrev values_by : Tree → List Field → Values
values_by tree fields = filter_map (value_beside tree) fields

stamp_value_by : (b : Bool) (mapping : Mapping) (stamp : List ℕ) (ms : ℤ) (tree : Tree) (members : List Member) (field : Field) (fields : List Field) → members_in tree ≡ Some members → is_date ms ≡ true
    → type_of mapping stamp ≡ Some Date → type_of mapping field.0 ≡ Some field.1 → IsRead stamp tree field → bytes_eq field.0 stamp ≡ b → cond b (Some field.1) (type_at fields stamp) ≡ Some Date
    → (type_at fields stamp ≡ Some Date → value_at (values_by (stamped tree stamp ms) fields) stamp ≡ Some (value.Date ms))
    → value_at (values_by (stamped tree stamp ms) (field ∷ fields)) stamp ≡ Some (value.Date ms)
stamp_value_by true mapping stamp ms tree members field fields is in_range date typed h same here later =
    let found = stamp_read mapping field stamp ms tree members is (nat_list_eq_equiv.symm stamp field.0 ∙ same) in_range date typed h in
    ap (λ (r : Result (Option Value) DocError). value_at (cons_option (option_map (λ (v : Value). (field.0, v)) (option_and_then (λ (x : Option Value). x) (result_ok r))) (values_by (stamped tree stamp ms) fields)) stamp) found
    ∙ ap (λ b. cond b (Some (value.Date ms)) (value_at (values_by (stamped tree stamp ms) fields) stamp)) same
stamp_value_by false mapping stamp ms tree members field fields is in_range date typed h other here later =
    skipped field (value_found (stamped tree stamp ms) field) (values_by (stamped tree stamp ms) fields) stamp other ∙ later here

stamp_value : (mapping : Mapping) (stamp : List ℕ) (ms : ℤ) (tree : Tree) (members : List Member) → members_in tree ≡ Some members → is_date ms ≡ true → type_of mapping stamp ≡ Some Date
    → (fields : List Field) → AreTyped mapping.fields fields → is_ok (fields_in (Some stamp) tree fields) ≡ true → type_at fields stamp ≡ Some Date
    → value_at (values_by (stamped tree stamp ms) fields) stamp ≡ Some (value.Date ms)
unfolding type_of
stamp_value mapping stamp ms tree members is in_range date [] typed h here = absurd (cc)
stamp_value mapping stamp ms tree members is in_range date (field ∷ fields) typed h here =
    let parts : (is_ok (field_in (Some stamp) tree field) && is_ok (fields_in (Some stamp) tree fields)) ≡ true =
    sym (ok_fields (field_in (Some stamp) tree field) (with_in field) (fields_in (Some stamp) tree fields)) ∙ h in
    let first = first_of (is_ok (field_in (Some stamp) tree field)) (is_ok (fields_in (Some stamp) tree fields)) parts in
    let others = second_of (is_ok (field_in (Some stamp) tree field)) (is_ok (fields_in (Some stamp) tree fields)) parts in
    stamp_value_by (bytes_eq field.0 stamp) mapping stamp ms tree members field fields is in_range date typed.0 first refl here
    (λ type. stamp_value mapping stamp ms tree members is in_range date fields typed.1 others type)

-- ---- the whole
object_members : (found : Option (List Member)) → is_some found ≡ true → (members : List Member) × (found ≡ Some members)
object_members None h = absurd (cc)
object_members (Some members) h = (members, refl)

object_stamped : (tree : Tree) (stamp : List ℕ) (ms : ℤ) → is_object (stamped tree stamp ms) ≡ true
unfolding stamped members_in
object_stamped tree stamp ms =
    let all = with_member (unwrap_or (members_in tree) []) stamp (t.Num ms) in
    ap (λ y. is_some (members_level y)) (ap out-Tree (sym (t.rolls-Obj all)) ∙ out-roll-Tree (Tree-F.Obj all))

moment_is : (ms : ℤ) (found : Option Value) → found ≡ Some (value.Date ms) → is_moment ms found ≡ true
moment_is ms found is = ap (is_moment ms) is ∙ int_eq_equiv.refl ms

pub stamped_is_written : StampedIsWritten
unfolding reading reads values_of is_written type_of
stamped_is_written mapping stamp ms tree good date in_range object h =
    let found = object_members (members_in tree) object in
    let typed = all_typed mapping.fields good.ascend in
    both (is_object (stamped tree stamp ms)) (is_ok (fields_in None (stamped tree stamp ms) mapping.fields) && is_moment ms (value_at (values_by (stamped tree stamp ms) mapping.fields) stamp))
    (object_stamped tree stamp ms)
    (both (is_ok (fields_in None (stamped tree stamp ms) mapping.fields)) (is_moment ms (value_at (values_by (stamped tree stamp ms) mapping.fields) stamp))
    (all_read mapping stamp ms tree found.0 found.1 in_range date mapping.fields typed h)
    (moment_is ms (value_at (values_by (stamped tree stamp ms) mapping.fields) stamp) (stamp_value mapping stamp ms tree found.0 found.1 in_range date mapping.fields typed h date)))
