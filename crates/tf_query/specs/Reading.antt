-- What a tree reads as: a query, or the first refusal.
use Rattle.std.specs.Prelude.{◌≡◌, ℕ, ◌+◌, max, nat_le, not, Bool, List, [], ◌∷◌, ◌++◌, filter, codes, Option, Some, None, is_some, Result, Ok, Err, if◌then◌else◌}
use Rattle.std.specs.List.{flat_map}
use Rattle.tf_model.specs.declared.tree.Tree.{Tree}
use Rattle.tf_model.specs.declared.query.Query.{Query}
use Rattle.tf_model.specs.declared.query.Query.TheOpen.{Query-F}
use Rattle.tf_model.specs.declared.query.Query.TheFolds.{fold-Query}
use Rattle.tf_model.specs.declared.query.Mapping.{Mapping}
use Rattle.tf_query.specs.declared.error.QueryError.{QueryError}
use Rattle.tf_query.specs.declared.error.QueryError.TheVariants as error
use Rattle.tf_query.specs.declared.forms.Form.TheVariants as form
use Rattle.tf_query.specs.Unknown.{unknown_in, least_text}
use Rattle.tf_model.specs.Values.{type_of}
use Rattle.tf_query.specs.Queries.{query_in}

-- the greatest of numbers, 0 of none
abbrev pub greatest : List ℕ → ℕ
greatest [] = 0
greatest (n ∷ ns) = max n (greatest ns)

-- one level of a query, with the nesting of each query inside in its place
abbrev pub nesting_step : Query-F ℕ → ℕ
nesting_step Query-F.MatchAll = 1
nesting_step (Query-F.Term field value) = 1
nesting_step (Query-F.Exists field) = 1
nesting_step (Query-F.Range field low low_open high high_open) = 1
nesting_step (Query-F.Bool met unmet) = 1 + max (greatest met) (greatest unmet)

-- how deep queries nest; one without others inside counts as 1
unfoldable pub nesting : Query → ℕ
nesting = fold-Query ℕ nesting_step

-- one level of a query, with the fields of each query inside in its place
abbrev pub fields_step : Query-F (List (List ℕ)) → List (List ℕ)
fields_step Query-F.MatchAll = []
fields_step (Query-F.Term field value) = field ∷ []
fields_step (Query-F.Exists field) = field ∷ []
fields_step (Query-F.Range field low low_open high high_open) = field ∷ []
fields_step (Query-F.Bool met unmet) = flat_map (λ fields. fields) met ++ flat_map (λ fields. fields) unmet

-- the fields that a query names
unfoldable pub fields_in : Query → List (List ℕ)
fields_in = fold-Query (List (List ℕ)) fields_step

-- whether a field is not mapped
abbrev pub is_unmapped : Mapping → List ℕ → Bool
is_unmapped fields field = not (is_some (type_of fields field))

-- the least field that is not mapped
abbrev pub unmapped_in : Mapping → Query → Option (List ℕ)
unmapped_in fields q = least_text (filter (is_unmapped fields) (fields_in q))

-- the path of a query in a configuration
abbrev pub query_path : List ℕ
query_path = codes "source.query"

-- a field that is not mapped is refused
abbrev pub if_mapped : Query → Option (List ℕ) → Result Query QueryError
if_mapped q None = Ok q
if_mapped q (Some field) = Err (error.NoSuchField field)

-- queries nested more than 16 deep are refused, and then fields
abbrev pub if_nested : Mapping → Query → Result Query QueryError
if_nested fields q = if nat_le (nesting q) 16 then if_mapped q (unmapped_in fields q) else Err (error.TooDeep (codes "query"))

-- a tree that is no query is refused, and then nesting and fields
abbrev pub if_formed : Mapping → Option Query → Result Query QueryError
if_formed fields None = Err (error.WrongKind query_path)
if_formed fields (Some q) = if_nested fields q

-- an unknown member is refused, and then the form, nesting and fields
abbrev pub if_known : Mapping → Tree → Option (List ℕ) → Result Query QueryError
if_known fields t (Some path) = Err (error.Unknown path)
if_known fields t None = if_formed fields (query_in fields t)

-- unknown members first, then the form and the types of values, the nesting, and the fields
abbrev pub reading : Mapping → Tree → Result Query QueryError
reading fields t = if_known fields t (least_text (unknown_in t form.Query query_path))

-- an answer, or want of memory
abbrev pub Answers : Result Query QueryError → Result Query QueryError → Type 0
Answers wanted (Err error.Memory) = Unit {0}
Answers wanted answer = answer ≡ wanted
