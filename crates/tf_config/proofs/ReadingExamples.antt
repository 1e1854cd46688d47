-- Worked readings, by computation.
use Rattle.std.proofs.Common.{◌≡◌, ℕ, rules, true, false, List, [], ◌∷◌, Some, None, Ok, Err, refl}
use Rattle.std.specs.Prelude.{pos, codes}
use Rattle.std.specs.Fmt.{digits}
use Rattle.tf_model.specs.declared.config.Config.{Config}
use Rattle.tf_model.specs.declared.config.Shape.TheVariants.{Latest}
use Rattle.tf_model.specs.declared.query.FieldType.TheVariants.{Keyword, Date}
use Rattle.tf_model.specs.declared.query.Query.TheVariants as query
use Rattle.tf_model.specs.declared.tree.Tree.{Tree}
use Rattle.tf_model.specs.declared.tree.Tree.TheVariants as tree
use Rattle.tf_model.specs.declared.tree.Tree.TheViews.{the_lemmas}
use Rattle.tf_model.specs.Names.{is_index_name}
use Rattle.tf_model.specs.Trees.{text_in, items_in, members_in}
use Rattle.tf_model.specs.Values.{type_of}
use Rattle.tf_query.proofs.FieldLaws.{fields_all}
use Rattle.tf_query.proofs.NestingLaws.{nesting_all}
use Rattle.tf_query.proofs.TypeLaws.{types_all}
use Rattle.tf_config.specs.declared.error.ConfigError.TheVariants as error
use Rattle.tf_config.specs.Catalogue.{Indices, fields_of}
use Rattle.tf_config.specs.Drafts.{drafted}
use Rattle.tf_config.specs.Reading.{reading}
use Rattle.tf_config.specs.Refusals.{refusal_by}
use Rattle.tf_config.proofs.FormLaws.{faults_num, faults_str, faults_arr, faults_obj}

members_of_object : (members : List (List ℕ × Tree)) → members_in (tree.Obj members) ≡ Some members
unfolding members_in
members_of_object members = search (rules, the_lemmas)

text_of_text : (text : List ℕ) → text_in (tree.Str text) ≡ Some text
unfolding text_in
text_of_text text = search (rules, the_lemmas)

no_text_of_array : (items : List Tree) → text_in (tree.Arr items) ≡ None
unfolding text_in
no_text_of_array items = search (rules, the_lemmas)

items_of_array : (items : List Tree) → items_in (tree.Arr items) ≡ Some items
unfolding items_in
items_of_array items = search (rules, the_lemmas)

ruleset trees = (members_of_object, text_of_text, no_text_of_array, items_of_array)

abbrev object : List (List ℕ × Tree) → Tree
object = tree.Obj

abbrev text : List ℕ → Tree
text = tree.Str

abbrev indices : Indices
indices = (codes "orders", record { fields = (codes "customer", Keyword) ∷ (codes "ts", Date) ∷ [] }) ∷ []

abbrev latest : Tree
latest = object ((codes "sort", text (codes "ts")) ∷ (codes "unique_key", tree.Arr (text (codes "customer") ∷ [])) ∷ [])

abbrev source : Tree
source = object ((codes "index", text (codes "orders")) ∷ [])

nothing_is_missing_its_destination : reading indices true (object []) ≡ Err (error.Missing (codes "dest"))
unfolding reading
nothing_is_missing_its_destination = simp (faults_obj, trees) refl

abbrev read_latest : List ℕ → Config
read_latest dest = record {
  sources = codes "orders" ∷ [];
  query = query.MatchAll;
  dest = dest;
  shape = Latest (codes "customer" ∷ []) (codes "ts");
  sync = None;
  retention = None;
  frequency_ms = pos 60000;
  page_size = 500;
  align = true;
  epoch_millis = false;
  description = [];
}

a_latest_has_defaults : reading indices true (object ((codes "dest", object ((codes "index", text (codes "out")) ∷ [])) ∷ (codes "latest", latest) ∷ (codes "source", source) ∷ [])) ≡ Ok (read_latest (codes "out"))
unfolding reading drafted refusal_by fields_of type_of is_index_name digits
a_latest_has_defaults = simp (faults_obj, faults_str, faults_arr, trees, types_all, nesting_all, fields_all) refl

a_preview_needs_no_destination : reading indices false (object ((codes "latest", latest) ∷ (codes "source", source) ∷ [])) ≡ Ok (read_latest [])
unfolding reading drafted refusal_by fields_of type_of is_index_name digits
a_preview_needs_no_destination = simp (faults_obj, faults_str, faults_arr, trees, types_all, nesting_all, fields_all) refl

-- a destination that is there is read whole in a preview too
a_preview_has_a_well_formed_destination : reading indices false (object ((codes "dest", object ((codes "index", text []) ∷ [])) ∷ (codes "latest", latest) ∷ (codes "source", source) ∷ []))
    ≡ Err (error.BadName [])
unfolding reading drafted refusal_by fields_of type_of is_index_name digits
a_preview_has_a_well_formed_destination = simp (faults_obj, faults_str, faults_arr, trees, types_all, nesting_all, fields_all) refl

-- of an unknown member and an absent one the unknown one is told, and of two unknown ones the least
unknown_members_come_first : reading indices true (object ((codes "late", object []) ∷ (codes "source", object ((codes "indices", text (codes "orders")) ∷ [])) ∷ [])) ≡ Err (error.UnknownSetting (codes "late"))
unfolding reading
unknown_members_come_first = simp (faults_obj, trees) refl

an_item_is_told_by_its_place : reading indices true (object ((codes "dest", object ((codes "index", text (codes "out")) ∷ [])) ∷ (codes "source", object ((codes "index", tree.Arr (text (codes "orders") ∷ tree.Num (pos 7) ∷ [])) ∷ [])) ∷ []))
    ≡ Err (error.WrongKind (codes "source.index.1"))
unfolding reading digits
an_item_is_told_by_its_place = simp (faults_obj, faults_str, faults_arr, faults_num, trees) refl
