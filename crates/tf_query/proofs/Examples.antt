-- Worked readings, by computation.
use Rattle.std.proofs.Common.{◌≡◌, ℕ, ℤ, rules, List, [], ◌∷◌, Some, None, Ok, Err, map, ap, refl}
use Rattle.std.specs.Prelude.{pos, codes}
use Rattle.std.specs.Fmt.{digits}
use Rattle.std.specs.Option.{option_map}
use Rattle.tf_model.specs.declared.tree.Tree.{Tree}
use Rattle.tf_model.specs.declared.tree.Tree.TheVariants as tree
use Rattle.tf_model.specs.declared.tree.Tree.TheViews.{the_lemmas}
use Rattle.tf_model.specs.declared.value.Value.TheVariants as value
use Rattle.tf_model.specs.declared.query.Query.TheVariants as query
use Rattle.tf_model.specs.declared.query.Mapping.{Mapping}
use Rattle.tf_model.specs.declared.query.FieldType.TheVariants.{Keyword, Long}
use Rattle.tf_model.specs.Trees.{text_in, number_in, members_in}
use Rattle.tf_query.specs.declared.error.QueryError.TheVariants as error
use Rattle.tf_model.specs.Values.{type_of}
use Rattle.tf_query.specs.Queries.{part_of, parts_of, query_from, all_queries, clauses_from}
use Rattle.tf_query.specs.Reading.{reading}
use Rattle.tf_query.proofs.UnknownLaws.{unknown_num, unknown_str, unknown_arr, unknown_obj}
use Rattle.tf_query.proofs.PartLaws.{part_arr, part_obj, part_itself}
use Rattle.tf_query.proofs.NestingLaws.{nesting_term, nesting_bool}
use Rattle.tf_query.proofs.FieldLaws.{fields_term, fields_bool}

abbrev fields : Mapping
fields = record { fields = (codes "k", Keyword) ∷ (codes "v", Long) ∷ [] }

abbrev within : List ℕ → Tree → Tree
within name inner = tree.Obj ((name, inner) ∷ [])

abbrev number : ℕ → Tree
number n = tree.Num (pos n)

abbrev term : List ℕ → Tree → Tree
term field v = within (codes "term") (within field v)

abbrev listed : List ℕ → List Tree → Tree
listed name items = within (codes "bool") (within name (tree.Arr items))

members_of_object : (members : List (List ℕ × Tree)) → members_in (tree.Obj members) ≡ Some members
unfolding members_in
members_of_object members = search (rules, the_lemmas)

no_members_of_text : (text : List ℕ) → members_in (tree.Str text) ≡ None
unfolding members_in
no_members_of_text text = search (rules, the_lemmas)

no_members_of_number : (n : ℤ) → members_in (tree.Num n) ≡ None
unfolding members_in
no_members_of_number n = search (rules, the_lemmas)

no_members_of_array : (items : List Tree) → members_in (tree.Arr items) ≡ None
unfolding members_in
no_members_of_array items = search (rules, the_lemmas)

text_of_text : (text : List ℕ) → text_in (tree.Str text) ≡ Some text
unfolding text_in
text_of_text text = search (rules, the_lemmas)

number_of_number : (n : ℤ) → number_in (tree.Num n) ≡ Some n
unfolding number_in
number_of_number n = search (rules, the_lemmas)

no_number_of_text : (text : List ℕ) → number_in (tree.Str text) ≡ None
unfolding number_in
no_number_of_text text = search (rules, the_lemmas)

query_of_object : (members : List (List ℕ × Tree)) → (part_of fields (tree.Obj members)).query ≡ query_from fields (parts_of fields members)
query_of_object members = ap (λ p. p.query) (part_obj fields members)

queries_of_object : (members : List (List ℕ × Tree)) → (part_of fields (tree.Obj members)).queries ≡ option_map (λ q. q ∷ []) (query_from fields (parts_of fields members))
queries_of_object members = ap (λ p. p.queries) (part_obj fields members)

queries_of_array : (items : List Tree) → (part_of fields (tree.Arr items)).queries ≡ all_queries (map (part_of fields) items)
queries_of_array items = ap (λ p. p.queries) (part_arr fields items)

clauses_of_object : (members : List (List ℕ × Tree)) → (part_of fields (tree.Obj members)).clauses ≡ clauses_from (parts_of fields members)
clauses_of_object members = ap (λ p. p.clauses) (part_obj fields members)

ruleset trees = (members_of_object, no_members_of_text, no_members_of_number, no_members_of_array, text_of_text, number_of_number, no_number_of_text)

term_is_read : reading fields (term (codes "k") (tree.Str (codes "a"))) ≡ Ok (query.Term (codes "k") (value.Str (codes "a")))
unfolding type_of
term_is_read = simp (unknown_obj, unknown_str, query_of_object, part_itself, trees, nesting_term, fields_term) refl

must_comes_after_filter : reading fields (within (codes "bool") (tree.Obj ((codes "filter", term (codes "v") (number 1)) ∷ (codes "must", tree.Arr (term (codes "v") (number 2) ∷ [])) ∷ [])))
    ≡ Ok (query.Bool (query.Term (codes "v") (value.Int (pos 1)) ∷ query.Term (codes "v") (value.Int (pos 2)) ∷ []) [])
unfolding type_of
must_comes_after_filter = simp (unknown_obj, unknown_arr, unknown_num, query_of_object, queries_of_object, queries_of_array, clauses_of_object, part_itself, trees, nesting_bool, nesting_term, fields_bool, fields_term) refl

unknown_kind_is_told_by_its_path : reading fields (listed (codes "filter") (within (codes "fuzzy") tree.Null ∷ [])) ≡ Err (error.Unknown (codes "source.query.bool.filter.0.fuzzy"))
unfolding digits
unknown_kind_is_told_by_its_path = simp (unknown_obj, unknown_arr) refl

value_of_another_type_is_refused : reading fields (term (codes "v") (tree.Str (codes "1"))) ≡ Err (error.WrongKind (codes "source.query"))
unfolding type_of
value_of_another_type_is_refused = simp (unknown_obj, unknown_str, query_of_object, part_itself, trees) refl

unmapped_field_takes_any_value : reading fields (term (codes "x") (tree.Arr [])) ≡ Err (error.NoSuchField (codes "x"))
unfolding type_of
unmapped_field_takes_any_value = simp (unknown_obj, unknown_arr, query_of_object, part_itself, trees, nesting_term, fields_term) refl
