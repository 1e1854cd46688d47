-- Worked readings, by computation.
use Rattle.std.proofs.Common.{◌≡◌, ℕ, ℤ, rules, List, [], ◌∷◌, ◌++◌, Option, Some, None, Ok, Err, ap, ◌∙◌, refl}
use Rattle.std.specs.Prelude.{pos, codes}
use Rattle.tf_model.specs.declared.tree.Tree.{Tree}
use Rattle.tf_model.specs.declared.tree.Tree.TheVariants as tree
use Rattle.tf_model.specs.declared.tree.Tree.TheViews.{the_lemmas}
use Rattle.tf_model.specs.declared.value.Value.TheVariants as value
use Rattle.tf_model.specs.declared.query.Mapping.{Mapping}
use Rattle.tf_model.specs.declared.query.FieldType.TheVariants.{Keyword, Long, Date}
use Rattle.tf_model.specs.Names.{is_field_path}
use Rattle.tf_model.specs.Trees.{text_in, number_in, members_in, member_at}
use Rattle.tf_model.specs.Values.{type_of}
use Rattle.tf_mapping.specs.declared.error.DocError.TheVariants as refusal
use Rattle.tf_mapping.specs.declared.error.MappingError.TheVariants as fault
use Rattle.tf_mapping.specs.Routes.{shard_of}
use Rattle.std.specs.Option.{option_and_then}
use Rattle.tf_mapping.specs.Scalars.{scalars_at}
use Rattle.tf_mapping.specs.Settings.{Faults, properties_name, faults_beside, properties_faults, faults_from, faults_in}
use Rattle.tf_mapping.specs.Leaves.{Leaves, leaves_beside, properties_leaves, leaves_from, leaves_in}
use Rattle.tf_mapping.specs.Documents as documents
use Rattle.tf_mapping.specs.Documents.{values_of}
use Rattle.tf_mapping.specs.Mappings as mappings
use Rattle.tf_mapping.specs.Stamps.{stamped}
use Rattle.tf_mapping.proofs.ScalarLaws.{scalars_null, scalars_num, scalars_str, scalars_arr, scalars_obj}
use Rattle.tf_mapping.proofs.FaultLaws.{faults_null, faults_num, faults_str, faults_obj}
use Rattle.tf_mapping.proofs.LeafLaws.{leaves_null, leaves_num, leaves_str, leaves_obj}

-- ---- shards
d1_goes_to_the_third_of_three : shard_of (codes "d1") 3 ≡ 2
unfolding shard_of
d1_goes_to_the_third_of_three = refl

one_goes_to_the_second_of_two : shard_of (codes "1") 2 ≡ 1
unfolding shard_of
one_goes_to_the_second_of_two = refl

-- ---- scalars
abbrev within : List ℕ → Tree → Tree
within name inner = tree.Obj ((name, inner) ∷ [])

abbrev number : ℕ → Tree
number n = tree.Num (pos n)

null_is_no_scalar : scalars_at (codes "k") (within (codes "k") tree.Null) ≡ []
null_is_no_scalar = simp (scalars_obj, scalars_null) refl

empty_array_has_no_scalar : scalars_at (codes "k") (within (codes "k") (tree.Arr [])) ≡ []
empty_array_has_no_scalar = simp (scalars_obj, scalars_arr) refl

array_of_one_is_its_item : scalars_at (codes "k") (within (codes "k") (tree.Arr (tree.Str (codes "x") ∷ []))) ≡ tree.Str (codes "x") ∷ []
array_of_one_is_its_item = simp (scalars_obj, scalars_arr, scalars_str) refl

empty_name_keeps_its_dot : scalars_at (codes ".x") (within [] (within (codes "x") (number 1))) ≡ number 1 ∷ []
empty_name_keeps_its_dot = simp (scalars_obj, scalars_num) refl

empty_name_is_no_front : scalars_at (codes "x") (within [] (within (codes "x") (number 1))) ≡ []
empty_name_is_no_front = simp (scalars_obj, scalars_num) refl

names_and_dots_meet : scalars_at (codes "a.b") (tree.Obj ((codes "a", within (codes "b") (number 1)) ∷ (codes "a.b", number 2) ∷ [])) ≡ number 1 ∷ number 2 ∷ []
names_and_dots_meet = simp (scalars_obj, scalars_num) refl

-- ---- documents
abbrev fields : Mapping
fields = record { fields = (codes "k", Keyword) ∷ (codes "ts", Date) ∷ (codes "v", Long) ∷ [] }

members_of_object : (members : List (List ℕ × Tree)) → members_in (tree.Obj members) ≡ Some members
unfolding members_in
members_of_object members = search (rules, the_lemmas)

text_of_text : (text : List ℕ) → text_in (tree.Str text) ≡ Some text
unfolding text_in
text_of_text text = search (rules, the_lemmas)

no_text_of_number : (n : ℤ) → text_in (tree.Num n) ≡ None
unfolding text_in
no_text_of_number n = search (rules, the_lemmas)

number_of_number : (n : ℤ) → number_in (tree.Num n) ≡ Some n
unfolding number_in
number_of_number n = search (rules, the_lemmas)

no_number_of_text : (text : List ℕ) → number_in (tree.Str text) ≡ None
unfolding number_in
no_number_of_text text = search (rules, the_lemmas)

ruleset trees = (scalars_obj, scalars_arr, scalars_num, scalars_str, scalars_null, text_of_text, no_text_of_number, number_of_number, no_number_of_text)

abbrev document : Tree
document = tree.Obj ((codes "k", tree.Str (codes "a")) ∷ (codes "ts", number 1000) ∷ (codes "x", number 7) ∷ [])

document_is_read : documents.reading fields None document ≡ Ok ((codes "k", value.Str (codes "a")) ∷ (codes "ts", value.Date (pos 1000)) ∷ [])
unfolding documents.reading
document_is_read = simp trees refl

stamp_is_no_member : documents.reading fields (Some (codes "ts")) document ≡ Err (refusal.Stamped (codes "ts"))
unfolding documents.reading
stamp_is_no_member = simp trees refl

many_values_before_wrong_type : documents.reading fields None (within (codes "v") (tree.Arr (tree.Str (codes "x") ∷ number 1 ∷ []))) ≡ Err (refusal.ManyValues (codes "v"))
unfolding documents.reading
many_values_before_wrong_type = simp trees refl

wide_number_is_no_long : documents.reading fields None (within (codes "v") (number 9223372036854775808)) ≡ Err (refusal.WrongType (codes "v"))
unfolding documents.reading
wide_number_is_no_long = simp trees refl

late_number_is_no_date : documents.reading fields None (within (codes "ts") (number 253402300800000)) ≡ Err (refusal.OutOfRange (codes "ts"))
unfolding documents.reading
late_number_is_no_date = simp trees refl

first_field_is_told : documents.reading fields None (tree.Obj ((codes "k", number 1) ∷ (codes "v", tree.Str []) ∷ [])) ≡ Err (refusal.WrongType (codes "k"))
unfolding documents.reading
first_field_is_told = simp trees refl

values_without_the_refused : values_of fields None (tree.Obj ((codes "k", number 1) ∷ (codes "v", number 2) ∷ [])) ≡ (codes "v", value.Int (pos 2)) ∷ []
unfolding values_of
values_without_the_refused = simp trees refl

-- ---- stamps
stamp_takes_its_place : stamped document (codes "ts") (pos 5) ≡ tree.Obj ((codes "k", tree.Str (codes "a")) ∷ (codes "ts", number 5) ∷ (codes "x", number 7) ∷ [])
unfolding stamped
stamp_takes_its_place = simp members_of_object refl

stamp_goes_between : stamped document (codes "m.n") (pos 5) ≡ tree.Obj ((codes "k", tree.Str (codes "a")) ∷ (codes "m.n", number 5) ∷ (codes "ts", number 1000) ∷ (codes "x", number 7) ∷ [])
unfolding stamped
stamp_goes_between = simp members_of_object refl

-- ---- mappings
abbrev typed : List ℕ → Tree
typed name = within (codes "type") (tree.Str name)

abbrev mapping : List (List ℕ × Tree) → Tree
mapping members = within (codes "properties") (tree.Obj members)

ruleset parts = (members_of_object, faults_obj, faults_str, faults_num, faults_null, leaves_obj, leaves_str, leaves_num, leaves_null)

leaves_of_mapping : (members : List (List ℕ × Tree)) → leaves_in (mapping members) ≡ properties_leaves (leaves_beside members) None
leaves_of_mapping members =
    ap (λ (found : Option (List (List ℕ × Tree))). leaves_from (option_and_then (λ ms. member_at ms properties_name) found)) (members_of_object ((codes "properties", tree.Obj members) ∷ []))
    ∙ ap (λ (l : Leaves). l.as_properties None) (leaves_obj members)

faults_of_mapping : (members : List (List ℕ × Tree)) → faults_in (mapping members) ≡ properties_faults (faults_beside members) (codes "properties") ++ []
faults_of_mapping members =
    ap faults_from (members_of_object ((codes "properties", tree.Obj members) ∷ [])) ∙ ap (λ (f : Faults). f.as_properties (codes "properties") ++ []) (faults_obj members)

ruleset read_parts = (leaves_of_mapping, faults_of_mapping, faults_obj, faults_str, leaves_obj, leaves_str)

mapping_is_read : mappings.reading (Some (codes "o.ts")) (mapping ((codes "k", typed (codes "keyword")) ∷ (codes "o", mapping ((codes "ts", typed (codes "date")) ∷ [])) ∷ []))
    ≡ Ok (record { fields = (codes "k", Keyword) ∷ (codes "o.ts", Date) ∷ [] })
unfolding is_field_path type_of mappings.reading
mapping_is_read = simp read_parts refl

setting_is_told_by_its_path : mappings.reading None (mapping ((codes "k", tree.Obj ((codes "index", tree.Null) ∷ (codes "type", tree.Str (codes "keyword")) ∷ [])) ∷ [])) ≡ Err (fault.UnknownSetting (codes "properties.k.index"))
unfolding mappings.reading
setting_is_told_by_its_path = simp parts refl

absent_properties_are_told : mappings.reading None (tree.Obj []) ≡ Err (fault.UnknownSetting (codes "properties"))
unfolding mappings.reading
absent_properties_are_told = simp parts refl

property_without_either_is_told : mappings.reading None (mapping ((codes "k", tree.Obj []) ∷ [])) ≡ Err (fault.UnknownSetting (codes "properties.k"))
unfolding mappings.reading
property_without_either_is_told = simp parts refl

type_that_is_no_text_is_told : mappings.reading None (mapping ((codes "k", within (codes "type") (number 1)) ∷ [])) ≡ Err (fault.UnknownSetting (codes "properties.k.type"))
unfolding mappings.reading
type_that_is_no_text_is_told = simp parts refl

name_before_type : mappings.reading None (mapping ((codes "a", typed (codes "float")) ∷ (codes "b.", typed (codes "long")) ∷ [])) ≡ Err (fault.BadFieldName (codes "b."))
unfolding is_field_path mappings.reading
name_before_type = simp read_parts refl

path_comes_twice : mappings.reading None (mapping ((codes "a", mapping ((codes "b", typed (codes "long")) ∷ [])) ∷ (codes "a.b", typed (codes "date")) ∷ [])) ≡ Err (fault.TwicePath (codes "a.b"))
unfolding is_field_path mappings.reading
path_comes_twice = simp read_parts refl

stamp_of_another_type : mappings.reading (Some (codes "k")) (mapping ((codes "k", typed (codes "keyword")) ∷ [])) ≡ Err (fault.BadStamp (codes "k"))
unfolding is_field_path type_of mappings.reading
stamp_of_another_type = simp read_parts refl
