-- The query that a tree is, where it has the form of one.
use Rattle.std.specs.Prelude.{ℕ, Bool, true, false, List, [], ◌∷◌, ◌++◌, map, codes, Option, Some, None, if◌then◌else◌}
use Rattle.std.specs.Option.{option_map, option_and_then}
use Rattle.std.specs.Str.{bytes_eq}
use Rattle.tf_model.specs.declared.tree.Tree.{Tree}
use Rattle.tf_model.specs.declared.tree.Tree.TheOpen.{Tree-F}
use Rattle.tf_model.specs.declared.tree.Tree.TheFolds.{fold-Tree}
use Rattle.tf_model.specs.declared.tree.Tree.TheVariants as tree
use Rattle.tf_model.specs.declared.value.Value.{Value}
use Rattle.tf_model.specs.declared.query.Query.{Query}
use Rattle.tf_model.specs.declared.query.Query.TheVariants as query
use Rattle.tf_model.specs.declared.query.Mapping.{Mapping}
use Rattle.tf_model.specs.Trees.{text_in, members_in, member_of, member_at}
use Rattle.tf_model.specs.Values.{type_of}
use Rattle.tf_query.specs.Values.{value_by}

-- the one member of an object
abbrev pub only : {A : Type 0} → Option (List A) → Option A
only (Some (m ∷ [])) = Some m
only _ = None

-- match_all, beside which an object stands
abbrev pub match_all_in : Tree → Option Query
match_all_in t = option_map (λ members. query.MatchAll) (members_in t)

-- a term's value: that of an object's member `value`, or what stands beside the field itself
abbrev pub term_tree : Tree → Option (List (List ℕ × Tree)) → Option Tree
term_tree t None = Some t
term_tree t (Some members) = member_at members (codes "value")

-- a term of a field, by its type
abbrev pub term_beside : Mapping → List ℕ × Tree → Option Query
term_beside fields m = option_map (query.Term m.0) (option_and_then (value_by (type_of fields m.0)) (term_tree m.1 (members_in m.1)))

-- a term, with one field
abbrev pub term_in : Mapping → Tree → Option Query
term_in fields t = option_and_then (term_beside fields) (only (members_in t))

-- exists, with the field's name
abbrev pub exists_in : Tree → Option Query
exists_in t = option_map query.Exists (option_and_then text_in (member_of t (codes "field")))

-- an end that is given, open or closed
abbrev pub with_end : Bool → Option Value → Option (Option Value × Bool)
with_end is_open found = option_map (λ v. (Some v, is_open)) found

-- one end of a range, closed or open: it may be left out, and does not stand twice
abbrev pub end_of : (Tree → Option Value) → Option Tree → Option Tree → Option (Option Value × Bool)
end_of value None None = Some (None, false)
end_of value (Some closed) None = with_end false (value closed)
end_of value None (Some strict) = with_end true (value strict)
end_of value (Some closed) (Some strict) = None

-- a range with both its ends, of which one is given
abbrev pub range_of : List ℕ → Option Value × Bool → Option Value × Bool → Option Query
range_of field (None, low_open) (None, high_open) = None
range_of field (Some low, low_open) high = Some (query.Range field (Some low) low_open high.0 high.1)
range_of field (None, low_open) (Some high, high_open) = Some (query.Range field None low_open (Some high) high_open)

-- a range of a field, by the values that its ends may have
abbrev pub range_by : List ℕ → (Tree → Option Value) → Tree → Option Query
range_by field value t =
    option_and_then (λ low. option_and_then (range_of field low) (end_of value (member_of t (codes "lte")) (member_of t (codes "lt"))))
    (end_of value (member_of t (codes "gte")) (member_of t (codes "gt")))

-- a range of a field, by its type
abbrev pub range_beside : Mapping → List ℕ × Tree → Option Query
range_beside fields m = range_by m.0 (value_by (type_of fields m.0)) m.1

-- a range, with one field
abbrev pub range_in : Mapping → Tree → Option Query
range_in fields t = option_and_then (range_beside fields) (only (members_in t))

-- a query that holds no other, by its kind
abbrev pub leaf_in : Mapping → List ℕ → Tree → Option Query
leaf_in fields kind t =
    if bytes_eq kind (codes "match_all") then match_all_in t
    else (if bytes_eq kind (codes "term") then term_in fields t
    else (if bytes_eq kind (codes "range") then range_in fields t
    else (if bytes_eq kind (codes "exists") then exists_in t
    else None)))

-- a tree, and what it is where a query stands, where a query or a list of them stands, and beside `bool`
pub record Part : Type 0 where
  pub itself : Tree
  pub query : Option Query
  pub queries : Option (List Query)
  pub clauses : Option Query

-- a tree that is no query
abbrev pub no_query : Tree → Part
no_query t = record { itself = t; query = None; queries = None; clauses = None }

-- a query of one kind
abbrev pub query_beside : Mapping → List ℕ × Part → Option Query
query_beside fields m = if bytes_eq m.0 (codes "bool") then m.1.clauses else leaf_in fields m.0 m.1.itself

-- the query that an object is: it has one member, its kind
abbrev pub query_from : Mapping → List (List ℕ × Part) → Option Query
query_from fields members = option_and_then (query_beside fields) (only (Some members))

-- the queries of a list, where each item is one
abbrev pub all_queries : List Part → Option (List Query)
all_queries [] = Some []
all_queries (item ∷ items) = option_and_then (λ q. option_map (λ qs. q ∷ qs) (all_queries items)) item.query

-- the queries beside a name, none where it is absent
abbrev pub clause : List ℕ → List (List ℕ × Part) → Option (List Query)
clause name [] = Some []
clause name (m ∷ members) = if bytes_eq m.0 name then m.1.queries else clause name members

-- `must` means the same as `filter`, and its queries come after
abbrev pub bool_of : List Query → List Query → List Query → Query
bool_of filter must must_not = query.Bool (filter ++ must) must_not

-- the query that the lists beside `bool` make, where each list is absent or has queries alone
abbrev pub clauses_from : List (List ℕ × Part) → Option Query
clauses_from members =
    option_and_then (λ filter. option_and_then (λ must. option_map (bool_of filter must) (clause (codes "must_not") members)) (clause (codes "must") members))
    (clause (codes "filter") members)

-- an array may be a list of queries
abbrev pub array_part : List Part → Part
array_part items = record { itself = tree.Arr (map (λ item. item.itself) items); query = None; queries = all_queries items; clauses = None }

-- an object may be a query, alone in place of a list too, and what stands beside `bool`
abbrev pub object_part : Mapping → List (List ℕ × Part) → Part
object_part fields members = record {
  itself = tree.Obj (map (λ m. (m.0, m.1.itself)) members);
  query = query_from fields members;
  queries = option_map (λ q. q ∷ []) (query_from fields members);
  clauses = clauses_from members;
}

-- one level of a tree, with what each tree inside is in its place
abbrev pub part_step : Mapping → Tree-F Part → Part
part_step fields Tree-F.Null = no_query tree.Null
part_step fields (Tree-F.Bool b) = no_query (tree.Bool b)
part_step fields (Tree-F.Num n) = no_query (tree.Num n)
part_step fields (Tree-F.Str s) = no_query (tree.Str s)
part_step fields (Tree-F.Arr items) = array_part items
part_step fields (Tree-F.Obj members) = object_part fields members

-- what a tree is in a query, by the types of fields
unfoldable pub part_of : Mapping → Tree → Part
part_of fields = fold-Tree Part (part_step fields)

-- the query that a tree is
abbrev pub query_in : Mapping → Tree → Option Query
query_in fields t = (part_of fields t).query

-- the same of the members of an object
abbrev pub parts_of : Mapping → List (List ℕ × Tree) → List (List ℕ × Part)
parts_of fields members = map (λ m. (m.0, part_of fields m.1)) members
