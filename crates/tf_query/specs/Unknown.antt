-- The members of a query's tree that are outside the forms of queries.
use Rattle.std.specs.Prelude.{ℕ, ◌+◌, List, [], ◌∷◌, ◌++◌, map, filter, Bool, true, false, codes, Option, Some, None, if◌then◌else◌}
use Rattle.std.specs.Fmt.{decimal}
use Rattle.std.specs.List.{fold, list_any}
use Rattle.std.specs.Option.{option_to_list, option_map}
use Rattle.std.specs.Ordering.{nat_cmp, is_lt}
use Rattle.std.specs.Cmp.Lexicographic.{slice_cmp}
use Rattle.std.specs.Str.{bytes_eq}
use Rattle.tf_model.specs.declared.tree.Tree.{Tree}
use Rattle.tf_model.specs.declared.tree.Tree.TheOpen.{Tree-F}
use Rattle.tf_model.specs.declared.tree.Tree.TheFolds.{fold-Tree}
use Rattle.tf_query.specs.declared.forms.Form.{Form}
use Rattle.tf_query.specs.declared.forms.Form.TheVariants as form
use Rattle.tf_query.specs.declared.forms.Member.{Member}
use Rattle.tf_query.specs.declared.forms.Member.TheVariants as member

-- the lesser, in bytes, of a text and the least one before it
abbrev pub lesser_text : Option (List ℕ) → List ℕ → Option (List ℕ)
lesser_text None text = Some text
lesser_text (Some least) text = if is_lt (slice_cmp nat_cmp text least) then Some text else Some least

-- the least of texts in bytes, none of none
abbrev pub least_text : List (List ℕ) → Option (List ℕ)
least_text texts = fold lesser_text None texts

-- whether a name is one of these
abbrev pub is_one_of : List (List ℕ) → List ℕ → Bool
is_one_of names name = list_any (λ other. bytes_eq other name) names

-- a member that may stand only by one of these names
abbrev pub by_name : List (List ℕ) → Member → List ℕ → Member
by_name names found name = if is_one_of names name then found else member.Unknown

-- what stands beside a name in a query
abbrev pub in_query : List ℕ → Member
in_query name =
    if bytes_eq name (codes "match_all") then member.Part form.Nothing
    else (if bytes_eq name (codes "term") then member.Part form.Terms
    else (if bytes_eq name (codes "range") then member.Part form.Ranges
    else (if bytes_eq name (codes "exists") then member.Part form.Exists
    else (if bytes_eq name (codes "bool") then member.Part form.Clauses
    else member.Unknown))))

-- what stands beside a name, by the form of the object
abbrev pub member_in : Form → List ℕ → Member
member_in form.Query name = in_query name
member_in form.Queries name = in_query name
member_in form.Clauses name = by_name (codes "filter" ∷ codes "must" ∷ codes "must_not" ∷ []) (member.Part form.Queries) name
member_in form.Nothing name = member.Unknown
member_in form.Terms name = member.Part form.Term
member_in form.Term name = by_name (codes "value" ∷ []) member.Value name
member_in form.Ranges name = member.Part form.Ends
member_in form.Ends name = by_name (codes "gte" ∷ codes "gt" ∷ codes "lte" ∷ codes "lt" ∷ []) member.Value name
member_in form.Exists name = by_name (codes "field" ∷ []) member.Value name

-- whether a member is outside the forms
abbrev pub is_unknown : Member → Bool
is_unknown member.Unknown = true
is_unknown _ = false

-- a path and one piece more, behind a dot (46)
abbrev pub joined : List ℕ → List ℕ → List ℕ
joined path piece = path ++ 46 ∷ piece

-- the paths of unknown members in a tree, by the form that is to stand there and the tree's path
abbrev pub Paths : Type 0
Paths = Form → List ℕ → List (List ℕ)

-- what is unknown inside a member, which has a form of its own or none to look into
abbrev pub in_part : Member → Paths → List ℕ → List (List ℕ)
in_part (member.Part part) inner path = inner part path
in_part _ inner path = []

-- what is unknown inside the members of an object
abbrev pub in_members : Form → List ℕ → List (List ℕ × Paths) → List (List ℕ)
in_members form path [] = []
in_members form path (m ∷ members) = in_part (member_in form m.0) m.1 (joined path m.0) ++ in_members form path members

-- the least name in bytes that is unknown
abbrev pub first_unknown : Form → List (List ℕ) → Option (List ℕ)
first_unknown form names = least_text (filter (λ name. is_unknown (member_in form name)) names)

-- the first unknown member of an object, and what is unknown inside the others
abbrev pub in_object : Form → List ℕ → List (List ℕ × Paths) → List (List ℕ)
in_object form path members = option_to_list (option_map (joined path) (first_unknown form (map (λ m. m.0) members))) ++ in_members form path members

-- what is unknown inside the items of a list of queries, counted from a place
abbrev pub in_items : ℕ → List ℕ → List Paths → List (List ℕ)
in_items place path [] = []
in_items place path (item ∷ items) = item form.Query (joined path (decimal place)) ++ in_items (place + 1) path items

-- only where a list of queries may stand is there something unknown in an array
abbrev pub in_array : Form → List ℕ → List Paths → List (List ℕ)
in_array form.Queries path items = in_items 0 path items
in_array _ path items = []

-- one level of a tree, with what is unknown in each tree inside in its place
abbrev pub unknown_step : Tree-F Paths → Paths
unknown_step (Tree-F.Obj members) form path = in_object form path members
unknown_step (Tree-F.Arr items) form path = in_array form path items
unknown_step _ form path = []

-- the paths of the first unknown member of each object
unfoldable pub unknown_in : Tree → Paths
unknown_in = fold-Tree Paths unknown_step

-- the same of parts of a tree: inside one member
abbrev pub unknown_member : Form → List ℕ → List ℕ → Tree → List (List ℕ)
unknown_member form path name t = in_part (member_in form name) (unknown_in t) (joined path name)

-- inside the members of an object
abbrev pub unknown_members : Form → List ℕ → List (List ℕ × Tree) → List (List ℕ)
unknown_members form path members = in_members form path (map (λ m. (m.0, unknown_in m.1)) members)

-- of an object
abbrev pub unknown_object : Form → List ℕ → List (List ℕ × Tree) → List (List ℕ)
unknown_object form path members = option_to_list (option_map (joined path) (first_unknown form (map (λ m. m.0) members))) ++ unknown_members form path members

-- inside items, counted from a place
abbrev pub unknown_items : ℕ → List ℕ → List Tree → List (List ℕ)
unknown_items place path items = in_items place path (map unknown_in items)
