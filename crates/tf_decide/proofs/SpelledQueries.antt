-- The query that a tree says, where the tree was read from a line, has a spelling.
use Rattle.std.proofs.Common.{◌≡◌, ℕ, zero, suc, ◌≤◌, ℤ, Bool, true, false, cond, List, [], ◌∷◌, ◌++◌, length, map, Option, Some, None, FitsSigned, w64, refl, sym, ap, subst, ◌∙◌, length-append, arith}
use Rattle.std.specs.Int.{w128}
use Rattle.std.specs.Prelude.{codes, IfSome, nat_le, Ok, Err}
use Rattle.std.specs.List.{AllByRecursion}
use Rattle.std.specs.Option.{option_map, option_and_then, option_or}
use Rattle.std.specs.Result.{result_ok}
use Rattle.std.specs.Str.{bytes_eq}
use Rattle.std.proofs.lemmas.Int.{ints}
use Rattle.tf_model.specs.declared.tree.Tree.{Tree, fold-roll-Tree, map-Tree, out-Tree, roll-out-Tree}
use Rattle.tf_model.specs.declared.tree.Tree.TheOpen.{Tree-F}
use Rattle.tf_model.specs.declared.value.Value.{Value}
use Rattle.tf_model.specs.declared.value.Value.TheVariants as value
use Rattle.tf_model.specs.declared.query.FieldType.{FieldType}
use Rattle.tf_model.specs.declared.query.FieldType.TheVariants.{Keyword, Long, Boolean, Date}
use Rattle.tf_model.specs.declared.query.Mapping.{Mapping}
use Rattle.tf_model.specs.declared.query.Query.{Query, fold-roll-Query, map-Query, out-Query, out-roll-Query, roll-out-Query, roll-Query}
use Rattle.tf_model.specs.declared.query.Query.TheOpen.{Query-F}
use Rattle.tf_model.specs.declared.query.Query.TheVariants as query
use Rattle.tf_model.specs.Rows.{fits_i64}
use Rattle.tf_model.specs.Trees.{items_in, items_level, member_of, members_in, members_level, number_in, text_in, truth_in}
use Rattle.tf_model.specs.Values.{type_of}
use Rattle.tf_time.specs.declared.date.DateError.{DateError}
use Rattle.tf_time.specs.declared.date.DateError.TheVariants.{OutOfRange}
use Rattle.tf_time.specs.Dates.{date_of, date_of_moment, is_date, moment}
use Rattle.tf_query.specs.declared.error.QueryError.{QueryError}
use Rattle.tf_query.specs.declared.error.QueryError.TheVariants as error
use Rattle.tf_query.specs.Queries.{Part, all_queries, bool_of, clause, clauses_from, end_of, exists_in, leaf_in, match_all_in, only, part_of, part_step, parts_of, query_beside, query_from, query_in, range_beside, range_in, range_of, term_beside, term_in, term_tree, with_end}
use Rattle.tf_query.specs.Reading.{greatest, if_formed, if_known, if_mapped, nesting, nesting_step, reading, unmapped_in}
use Rattle.tf_query.specs.Values.{date_text_in, long_in, moment_in, value_by, value_of_type}
use Rattle.tf_query.proofs.NestingLaws.{nesting_bool}
use Rattle.tf_query.proofs.PartLaws.{part_itself}
use Rattle.tf_command.specs.Commands.{max_line}
use Rattle.tf_command.specs.Formed.{AreKept, IsKept}
use Rattle.tf_command.proofs.LineParts.{items_few, kept_at, kept_items, kept_members}
use Rattle.tf_command.proofs.Options.{inside, mapped, tested}
use Rattle.tf_event.specs.Queries.{FitsLevel, FitsLevels, FitsQuery}
use Rattle.tf_event.specs.Spelling.{FitsList, FitsText}
use Rattle.tf_event.specs.Values.{FitsValue}
use Rattle.tf_decide.proofs.Inside.{kept_member, member_kept, member_names_fit, text_fits}

-- ---- values

long_fits : (n : ℤ) → fits_i64 n ≡ true → FitsSigned w128 n
long_fits n h = grind (arith, ints)

date_fits : (ms : ℤ) → is_date ms ≡ true → FitsSigned w64 ms
date_fits ms h = grind (arith, ints)

long_in_fits : (t : Tree) (n : ℤ) → long_in t ≡ Some n → FitsSigned w128 n
long_in_fits t n is =
    let found = inside (λ n. cond (fits_i64 n) (Some n) None) (number_in t) n is in
    let fits = tested (fits_i64 found.0) (Some found.0) n found.2 in
    let same : found.0 ≡ n = cc in
    subst (FitsSigned w128) same (long_fits found.0 fits.0)

moment_fits : (t : Tree) (ms : ℤ) → moment_in t ≡ Some ms → FitsSigned w64 ms
moment_fits t ms is =
    let found = inside (λ n. cond (is_date n) (Some n) None) (number_in t) ms is in
    let fits = tested (is_date found.0) (Some found.0) ms found.2 in
    let same : found.0 ≡ ms = cc in
    subst (FitsSigned w64) same (date_fits found.0 fits.0)

in_either : (a b : Option ℤ) (ms : ℤ) → (a ≡ Some ms → FitsSigned w64 ms) → (b ≡ Some ms → FitsSigned w64 ms) → option_or a b ≡ Some ms → FitsSigned w64 ms
in_either None b ms from_a from_b is = from_b is
in_either (Some n) b ms from_a from_b is = from_a is

ok_kept : (b : Bool) (n ms : ℤ) → (b ≡ true → FitsSigned w64 n) → result_ok {E = DateError} (cond b (Ok n) (Err OutOfRange)) ≡ Some ms → FitsSigned w64 ms
ok_kept true n ms fits is = let same : n ≡ ms = cc in subst (FitsSigned w64) same (fits refl)
ok_kept false n ms fits is = absurd (cc)

ok_date : (o : Option ℤ) (ms : ℤ) → result_ok (date_of_moment o) ≡ Some ms → FitsSigned w64 ms
ok_date None ms is = absurd (cc)
ok_date (Some n) ms is = ok_kept (is_date n) n ms (date_fits n) is

date_text_fits : (t : Tree) (ms : ℤ) → date_text_in t ≡ Some ms → FitsSigned w64 ms
date_text_fits t ms is =
    let found = inside (λ text. result_ok (date_of text)) (text_in t) ms is in
    ok_date (moment found.0) ms found.2

typed_fits : (type : FieldType) (t : Tree) (v : Value) → IsKept t → value_of_type type t ≡ Some v → FitsValue v
typed_fits Keyword t v kept is = let found = mapped value.Str (text_in t) v is in subst FitsValue found.2 (text_fits t found.0 kept found.1)
typed_fits Long t v kept is = let found = mapped value.Int (long_in t) v is in subst FitsValue found.2 (long_in_fits t found.0 found.1)
typed_fits Boolean t v kept is = let found = mapped value.Bool (truth_in t) v is in subst FitsValue found.2 tt
typed_fits Date t v kept is =
    let found = mapped value.Date (option_or (moment_in t) (date_text_in t)) v is in
    subst FitsValue found.2 (in_either (moment_in t) (date_text_in t) found.0 (moment_fits t found.0) (date_text_fits t found.0) found.1)

value_fits : (found : Option FieldType) (t : Tree) (v : Value) → IsKept t → value_by found t ≡ Some v → FitsValue v
value_fits None t v kept is = let same : value.Null ≡ v = cc in subst FitsValue same tt
value_fits (Some type) t v kept is = typed_fits type t v kept is

-- ---- levels

level_fits : (levels : ℕ) (x : Query-F Query) → FitsLevel (FitsLevels levels) x → FitsLevels (suc levels) (roll-Query x)
unfolding FitsLevels
level_fits levels x fits = subst (FitsLevel (FitsLevels levels)) (sym (out-roll-Query x)) fits

pub all_fits : (levels : ℕ) → FitsLevels (suc levels) query.MatchAll
all_fits levels = subst (FitsLevels (suc levels)) query.rolls-MatchAll (level_fits levels Query-F.MatchAll tt)

term_fits : (levels : ℕ) (field : List ℕ) (v : Value) → FitsText field → FitsValue v → FitsLevels (suc levels) (query.Term field v)
term_fits levels field v text fits = subst (FitsLevels (suc levels)) (query.rolls-Term field v) (level_fits levels (Query-F.Term field v) (text, fits))

exists_fits : (levels : ℕ) (field : List ℕ) → FitsText field → FitsLevels (suc levels) (query.Exists field)
exists_fits levels field text = subst (FitsLevels (suc levels)) (query.rolls-Exists field) (level_fits levels (Query-F.Exists field) text)

range_fits : (levels : ℕ) (field : List ℕ) (low : Option Value) (low_open : Bool) (high : Option Value) (high_open : Bool) → FitsText field → IfSome low FitsValue → IfSome high FitsValue
    → FitsLevels (suc levels) (query.Range field low low_open high high_open)
range_fits levels field low low_open high high_open text from to =
    subst (FitsLevels (suc levels)) (query.rolls-Range field low low_open high high_open) (level_fits levels (Query-F.Range field low low_open high high_open) (text, from, to))

bool_fits : (levels : ℕ) (filter must_not : List Query) → FitsList (FitsLevels levels) filter → FitsList (FitsLevels levels) must_not → FitsLevels (suc levels) (query.Bool filter must_not)
bool_fits levels filter must_not met unmet = subst (FitsLevels (suc levels)) (query.rolls-Bool filter must_not) (level_fits levels (Query-F.Bool filter must_not) (met, unmet))

-- ---- queries that hold no other

pub only_is : {A : Type 0} (o : Option (List A)) (x : A) → only o ≡ Some x → o ≡ Some (x ∷ [])
only_is None x is = absurd (cc)
only_is (Some []) x is = absurd (cc)
only_is (Some (y ∷ [])) x is = cc
only_is (Some (y ∷ z ∷ ys)) x is = absurd (cc)

-- the one member of a kept tree: its name fits, and what stands beside it is kept
pub only_kept : (t : Tree) (m : List ℕ × Tree) → IsKept t → only (members_in t) ≡ Some m → FitsText m.0 × IsKept m.1
only_kept t m kept is =
    let one = only_is (members_in t) m is in
    ((member_names_fit t (m ∷ []) kept one).0, (kept_members t (m ∷ []) kept one).0)

term_tree_kept : (t : Tree) (o : Option (List (List ℕ × Tree))) (inner : Tree) → IsKept t → members_in t ≡ o → term_tree t o ≡ Some inner → IsKept inner
term_tree_kept t None inner kept members is = let same : t ≡ inner = cc in subst IsKept same kept
term_tree_kept t (Some ms) inner kept members is = kept_at (codes "value") ms inner (kept_members t ms kept members) is

term_in_fits : (levels : ℕ) (fields : Mapping) (t : Tree) (q : Query) → IsKept t → term_in fields t ≡ Some q → FitsLevels (suc levels) q
term_in_fits levels fields t q kept is =
    let one = inside (term_beside fields) (only (members_in t)) q is in
    let parts = only_kept t one.0 kept one.1 in
    let type = type_of fields one.0.0 in
    let inner = term_tree one.0.1 (members_in one.0.1) in
    let found = mapped (query.Term one.0.0) (option_and_then (value_by type) inner) q one.2 in
    let beside = inside (value_by type) inner found.0 found.1 in
    let inner_kept = term_tree_kept one.0.1 (members_in one.0.1) beside.0 parts.1 refl beside.1 in
    subst (FitsLevels (suc levels)) found.2 (term_fits levels one.0.0 found.0 parts.0 (value_fits type beside.0 found.0 inner_kept beside.2))

exists_in_fits : (levels : ℕ) (t : Tree) (q : Query) → IsKept t → exists_in t ≡ Some q → FitsLevels (suc levels) q
exists_in_fits levels t q kept is =
    let found = mapped query.Exists (option_and_then text_in (member_of t (codes "field"))) q is in
    let beside = inside text_in (member_of t (codes "field")) found.0 found.1 in
    let text = text_fits beside.0 found.0 (kept_member t (codes "field") beside.0 kept beside.1) beside.2 in
    subst (FitsLevels (suc levels)) found.2 (exists_fits levels found.0 text)

match_all_fits : (levels : ℕ) (t : Tree) (q : Query) → match_all_in t ≡ Some q → FitsLevels (suc levels) q
match_all_fits levels t q is = subst (FitsLevels (suc levels)) (mapped (λ members. query.MatchAll) (members_in t) q is).2 (all_fits levels)

-- ---- ranges

given_fits : (type : Option FieldType) (t : Tree) (is_open : Bool) (end : Option Value × Bool) → IsKept t → with_end is_open (value_by type t) ≡ Some end → IfSome end.0 FitsValue
given_fits type t is_open end kept is =
    let found = mapped (λ (v : Value). (Some v, is_open)) (value_by type t) end is in
    subst (λ (e : Option Value × Bool). IfSome e.0 FitsValue) found.2 (value_fits type t found.0 kept found.1)

none_given : (end : Option Value × Bool) → Some (None, false) ≡ Some end → IfSome end.0 FitsValue
none_given end is = let same : (None, false) ≡ end = cc in subst (λ (e : Option Value × Bool). IfSome e.0 FitsValue) same tt

end_fits : (type : Option FieldType) (closed strict : Option Tree) (end : Option Value × Bool) → IfSome closed IsKept → IfSome strict IsKept → end_of (value_by type) closed strict ≡ Some end
    → IfSome end.0 FitsValue
end_fits type None None end kept kept_strict is = none_given end is
end_fits type (Some t) None end kept kept_strict is = given_fits type t false end kept is
end_fits type None (Some t) end kept kept_strict is = given_fits type t true end kept_strict is
end_fits type (Some t) (Some u) end kept kept_strict is = absurd (cc)

ends_fit : (levels : ℕ) (field : List ℕ) (low high : Option Value × Bool) (q : Query) → FitsText field → IfSome low.0 FitsValue → IfSome high.0 FitsValue → range_of field low high ≡ Some q
    → FitsLevels (suc levels) q
ends_fit levels field (None, low_open) (None, high_open) q text from to is = absurd (cc)
ends_fit levels field (Some low, low_open) high q text from to is =
    let same : query.Range field (Some low) low_open high.0 high.1 ≡ q = cc in
    subst (FitsLevels (suc levels)) same (range_fits levels field (Some low) low_open high.0 high.1 text from to)
ends_fit levels field (None, low_open) (Some high, high_open) q text from to is =
    let same : query.Range field None low_open (Some high) high_open ≡ q = cc in
    subst (FitsLevels (suc levels)) same (range_fits levels field None low_open (Some high) high_open text tt to)

range_in_fits : (levels : ℕ) (fields : Mapping) (t : Tree) (q : Query) → IsKept t → range_in fields t ≡ Some q → FitsLevels (suc levels) q
range_in_fits levels fields t q kept is =
    let one = inside (range_beside fields) (only (members_in t)) q is in
    let parts = only_kept t one.0 kept one.1 in
    let type = type_of fields one.0.0 in
    let ends = λ (closed strict : List ℕ). end_of (value_by type) (member_of one.0.1 closed) (member_of one.0.1 strict) in
    let low = inside (λ low. option_and_then (range_of one.0.0 low) (ends (codes "lte") (codes "lt"))) (ends (codes "gte") (codes "gt")) q one.2 in
    let high = inside (range_of one.0.0 low.0) (ends (codes "lte") (codes "lt")) q low.2 in
    let end_fits_at = λ (closed strict : List ℕ). end_fits type (member_of one.0.1 closed) (member_of one.0.1 strict) in
    let kept_at_name = λ (name : List ℕ). member_kept one.0.1 name parts.1 in
    ends_fit levels one.0.0 low.0 high.0 q parts.0
    (end_fits_at (codes "gte") (codes "gt") low.0 (kept_at_name (codes "gte")) (kept_at_name (codes "gt")) low.1)
    (end_fits_at (codes "lte") (codes "lt") high.0 (kept_at_name (codes "lte")) (kept_at_name (codes "lt")) high.1)
    high.2

-- ---- leaves

by_test : {A P : Type 0} (b : Bool) (x y : Option A) (a : A) → (x ≡ Some a → P) → (y ≡ Some a → P) → cond b x y ≡ Some a → P
by_test true x y a from_x from_y is = from_x is
by_test false x y a from_x from_y is = from_y is

leaf_fits : (levels : ℕ) (fields : Mapping) (kind : List ℕ) (t : Tree) (q : Query) → IsKept t → leaf_in fields kind t ≡ Some q → FitsLevels (suc levels) q
leaf_fits levels fields kind t q kept is =
    let by_exists = cond (bytes_eq kind (codes "exists")) (exists_in t) None in
    let by_range = cond (bytes_eq kind (codes "range")) (range_in fields t) by_exists in
    let by_term = cond (bytes_eq kind (codes "term")) (term_in fields t) by_range in
    by_test (bytes_eq kind (codes "match_all")) (match_all_in t) by_term q (match_all_fits levels t q)
    (by_test (bytes_eq kind (codes "term")) (term_in fields t) by_range q (term_in_fits levels fields t q kept)
    (by_test (bytes_eq kind (codes "range")) (range_in fields t) by_exists q (range_in_fits levels fields t q kept)
    (λ last. exists_in_fits levels t q kept (tested (bytes_eq kind (codes "exists")) (exists_in t) q last).1)))
    is

-- ---- what a tree is in a query, by one level of it

part_level : (fields : Mapping) (t : Tree) → part_of fields t ≡ part_step fields (map-Tree Tree Part (part_of fields) (out-Tree t))
unfolding part_of
part_level fields t = ap (part_of fields) (sym (roll-out-Tree t)) ∙ fold-roll-Tree Part (part_step fields) (out-Tree t)

abbrev level_part : Mapping → Tree-F Tree → Part
level_part fields x = part_step fields (map-Tree Tree Part (part_of fields) x)

-- an object whose members make what is asked for
abbrev MadeOf : Mapping → Option (List (List ℕ × Tree)) → (List (List ℕ × Part) → Option Query) → Query → Type 0
MadeOf fields inside makes q = (members : List (List ℕ × Tree)) × (inside ≡ Some members) × (makes (parts_of fields members) ≡ Some q)

query_level : (fields : Mapping) (x : Tree-F Tree) (q : Query) → (level_part fields x).query ≡ Some q → MadeOf fields (members_level x) (query_from fields) q
query_level fields Tree-F.Null q is = absurd (cc)
query_level fields (Tree-F.Bool b) q is = absurd (cc)
query_level fields (Tree-F.Num n) q is = absurd (cc)
query_level fields (Tree-F.Str s) q is = absurd (cc)
query_level fields (Tree-F.Arr items) q is = absurd (cc)
query_level fields (Tree-F.Obj members) q is = (members, refl, is)

clauses_level : (fields : Mapping) (x : Tree-F Tree) (q : Query) → (level_part fields x).clauses ≡ Some q → MadeOf fields (members_level x) clauses_from q
clauses_level fields Tree-F.Null q is = absurd (cc)
clauses_level fields (Tree-F.Bool b) q is = absurd (cc)
clauses_level fields (Tree-F.Num n) q is = absurd (cc)
clauses_level fields (Tree-F.Str s) q is = absurd (cc)
clauses_level fields (Tree-F.Arr items) q is = absurd (cc)
clauses_level fields (Tree-F.Obj members) q is = (members, refl, is)

-- queries are those of an array, or a query alone
queries_level : {P : Type 0} (fields : Mapping) (x : Tree-F Tree) (qs : List Query)
    → ((items : List Tree) → items_level x ≡ Some items → all_queries (map (part_of fields) items) ≡ Some qs → P)
    → (option_map (λ q. q ∷ []) (level_part fields x).query ≡ Some qs → P)
    → (level_part fields x).queries ≡ Some qs → P
queries_level fields Tree-F.Null qs of_array alone is = absurd (cc)
queries_level fields (Tree-F.Bool b) qs of_array alone is = absurd (cc)
queries_level fields (Tree-F.Num n) qs of_array alone is = absurd (cc)
queries_level fields (Tree-F.Str s) qs of_array alone is = absurd (cc)
queries_level fields (Tree-F.Arr items) qs of_array alone is = of_array items refl is
queries_level fields (Tree-F.Obj members) qs of_array alone is = alone is

query_of_members : (fields : Mapping) (t : Tree) (q : Query) → query_in fields t ≡ Some q → MadeOf fields (members_in t) (query_from fields) q
unfolding members_in
query_of_members fields t q is = query_level fields (out-Tree t) q (ap (λ part. part.query) (sym (part_level fields t)) ∙ is)

clauses_of_members : (fields : Mapping) (t : Tree) (q : Query) → (part_of fields t).clauses ≡ Some q → MadeOf fields (members_in t) clauses_from q
unfolding members_in
clauses_of_members fields t q is = clauses_level fields (out-Tree t) q (ap (λ part. part.clauses) (sym (part_level fields t)) ∙ is)

queries_of : {P : Type 0} (fields : Mapping) (t : Tree) (qs : List Query) → ((items : List Tree) → items_in t ≡ Some items → all_queries (map (part_of fields) items) ≡ Some qs → P)
    → (option_map (λ q. q ∷ []) (query_in fields t) ≡ Some qs → P) → (part_of fields t).queries ≡ Some qs → P
unfolding items_in
queries_of fields t qs of_array alone is =
    queries_level fields (out-Tree t) qs of_array (λ one. alone (ap (λ part. option_map (λ q. q ∷ []) part.query) (part_level fields t) ∙ one))
    (ap (λ part. part.queries) (sym (part_level fields t)) ∙ is)

-- ---- how deep queries nest

abbrev AreWithin : ℕ → List Query → Type 0
AreWithin n qs = AllByRecursion (λ q. nesting q ≤ n) qs

all_within : (n : ℕ) (qs : List Query) → greatest (map nesting qs) ≤ n → AreWithin n qs
all_within n [] h = tt
all_within n (q ∷ qs) h = (omega arith, all_within n qs (omega arith))

within_parts : (n : ℕ) (xs ys : List Query) → AreWithin n (xs ++ ys) → AreWithin n xs × AreWithin n ys
within_parts n [] ys all = (tt, all)
within_parts n (x ∷ xs) ys all = let rest = within_parts n xs ys all.1 in ((all.0, rest.0), rest.1)

some_level : (x : Query-F Query) → 1 ≤ nesting_step (map-Query Query ℕ nesting x)
some_level Query-F.MatchAll = omega arith
some_level (Query-F.Term field v) = omega arith
some_level (Query-F.Exists field) = omega arith
some_level (Query-F.Range field low low_open high high_open) = omega arith
some_level (Query-F.Bool filter must_not) = omega arith

nesting_some : (q : Query) → 1 ≤ nesting q
unfolding nesting
nesting_some q = omega (arith, some_level (out-Query q), ap nesting (sym (roll-out-Query q)) ∙ fold-roll-Query ℕ nesting_step (out-Query q))

-- ---- queries of at most so many levels

-- each query of at most so many levels that a kept tree is has a spelling
abbrev AllFit : ℕ → Mapping → Type 0
AllFit n fields = (t : Tree) (q : Query) → IsKept t → query_in fields t ≡ Some q → nesting q ≤ n → FitsLevels n q

-- queries that fit, no more than a line has bytes
abbrev FewFit : ℕ → List Query → Type 0
FewFit n qs = (length qs ≤ max_line) × AllByRecursion (FitsLevels n) qs

-- queries that fit, one for each of some trees
abbrev FitEach : ℕ → List Tree → List Query → Type 0
FitEach n items qs = (length qs ≡ length items) × AllByRecursion (FitsLevels n) qs

items_fit : (n : ℕ) (fields : Mapping) (items : List Tree) (qs : List Query) → AllFit n fields → AllByRecursion IsKept items → all_queries (map (part_of fields) items) ≡ Some qs → AreWithin n qs
    → FitEach n items qs
items_fit n fields [] qs fit kept is within = let same : [] ≡ qs = cc in subst (FitEach n []) same (refl, tt)
items_fit n fields (t ∷ items) qs fit kept is within =
    let first = inside (λ q. option_map (λ qs. q ∷ qs) (all_queries (map (part_of fields) items))) (query_in fields t) qs is in
    let rest = mapped (λ (qs : List Query). first.0 ∷ qs) (all_queries (map (part_of fields) items)) qs first.2 in
    let all : AreWithin n (first.0 ∷ rest.0) = subst (AreWithin n) (sym rest.2) within in
    let others = items_fit n fields items rest.0 fit kept.1 rest.1 all.1 in
    subst (FitEach n (t ∷ items)) rest.2 (ap suc others.0, (fit t first.0 kept.0 first.1 all.0, others.1))

queries_fit : (n : ℕ) (fields : Mapping) (t : Tree) (qs : List Query) → AllFit n fields → IsKept t → (part_of fields t).queries ≡ Some qs → AreWithin n qs → FewFit n qs
queries_fit n fields t qs fit kept is within =
    queries_of fields t qs
    (λ items found all.
    let few = items_few max_line t items kept.1 found in
    let each = items_fit n fields items qs fit (kept_items t items kept found) all within in
    (omega (arith, few, each.0), each.1))
    (λ alone.
    let one = mapped (λ (q : Query). q ∷ []) (query_in fields t) qs alone in
    let all : AreWithin n (one.0 ∷ []) = subst (AreWithin n) (sym one.2) within in
    subst (FewFit n) one.2 (omega arith, (fit t one.0 kept one.1 all.0, tt)))
    is

clause_fits : (n : ℕ) (fields : Mapping) (name : List ℕ) (members : List (List ℕ × Tree)) (qs : List Query) → AllFit n fields → AreKept members → clause name (parts_of fields members) ≡ Some qs
    → AreWithin n qs → FewFit n qs
clause_fits n fields name [] qs fit kept is within = let same : [] ≡ qs = cc in subst (FewFit n) same (omega arith, tt)
clause_fits n fields name (m ∷ members) qs fit kept is within =
    by_test (bytes_eq m.0 name) (part_of fields m.1).queries (clause name (parts_of fields members)) qs
    (λ here. queries_fit n fields m.1 qs fit kept.0 here within)
    (λ later. clause_fits n fields name members qs fit kept.1 later within)
    is

both_fit : (n : ℕ) (xs ys : List Query) → AllByRecursion (FitsLevels n) xs → AllByRecursion (FitsLevels n) ys → AllByRecursion (FitsLevels n) (xs ++ ys)
both_fit n [] ys h k = k
both_fit n (x ∷ xs) ys h k = (h.0, both_fit n xs ys h.1 k)

clauses_fit : (n : ℕ) (fields : Mapping) (members : List (List ℕ × Tree)) (q : Query) → AllFit n fields → AreKept members → clauses_from (parts_of fields members) ≡ Some q → nesting q ≤ suc n
    → FitsLevels (suc n) q
clauses_fit n fields members q fit kept is within =
    let named = λ (name : List ℕ). clause name (parts_of fields members) in
    let filter = inside (λ filter. option_and_then (λ must. option_map (bool_of filter must) (named (codes "must_not"))) (named (codes "must"))) (named (codes "filter")) q is in
    let must = inside (λ must. option_map (bool_of filter.0 must) (named (codes "must_not"))) (named (codes "must")) q filter.2 in
    let must_not = mapped (bool_of filter.0 must.0) (named (codes "must_not")) q must.2 in
    let deep = nesting_bool (filter.0 ++ must.0) must_not.0 in
    let same : nesting (query.Bool (filter.0 ++ must.0) must_not.0) ≡ nesting q = ap nesting must_not.2 in
    let met = within_parts n filter.0 must.0 (all_within n (filter.0 ++ must.0) (omega (arith, deep, same, within))) in
    let unmet = all_within n must_not.0 (omega (arith, deep, same, within)) in
    let filter_fits = clause_fits n fields (codes "filter") members filter.0 fit kept filter.1 met.0 in
    let must_fits = clause_fits n fields (codes "must") members must.0 fit kept must.1 met.1 in
    let must_not_fits = clause_fits n fields (codes "must_not") members must_not.0 fit kept must_not.1 unmet in
    let long = length-append filter.0 must.0 in
    subst (FitsLevels (suc n)) must_not.2
    (bool_fits n (filter.0 ++ must.0) must_not.0
    (omega (arith, long, filter_fits.0, must_fits.0), both_fit n filter.0 must.0 filter_fits.1 must_fits.1)
    (omega (arith, must_not_fits.0), must_not_fits.1))

-- one member alone, with what its tree is in a query
one_part : (fields : Mapping) (members : List (List ℕ × Tree)) (p : List ℕ × Part) → only (Some (parts_of fields members)) ≡ Some p
    → (m : List ℕ × Tree) × (members ≡ m ∷ []) × ((m.0, part_of fields m.1) ≡ p)
one_part fields [] p is = absurd (cc)
one_part fields (m ∷ []) p is = (m, refl, cc)
one_part fields (m ∷ k ∷ members) p is = absurd (cc)

member_fits : (n : ℕ) (fields : Mapping) (m : List ℕ × Tree) (q : Query) → AllFit n fields → IsKept m.1 → query_beside fields (m.0, part_of fields m.1) ≡ Some q → nesting q ≤ suc n → FitsLevels (suc n) q
member_fits n fields m q fit kept is within =
    by_test (bytes_eq m.0 (codes "bool")) (part_of fields m.1).clauses (leaf_in fields m.0 (part_of fields m.1).itself) q
    (λ nested. let made = clauses_of_members fields m.1 q nested in clauses_fit n fields made.0 q fit (kept_members m.1 made.0 kept made.1) made.2 within)
    (λ leaf. leaf_fits n fields m.0 m.1 q kept (sym (ap (leaf_in fields m.0) (part_itself fields m.1)) ∙ leaf))
    is

level_more : (n : ℕ) (fields : Mapping) → AllFit n fields → AllFit (suc n) fields
level_more n fields fit t q kept is within =
    let made = query_of_members fields t q is in
    let found = inside (query_beside fields) (only (Some (parts_of fields made.0))) q made.2 in
    let one = one_part fields made.0 found.0 found.1 in
    let all : AreKept (one.0 ∷ []) = subst AreKept one.1 (kept_members t made.0 kept made.1) in
    member_fits n fields one.0 q fit all.0 (ap (query_beside fields) one.2 ∙ found.2) within

levels_fit : (n : ℕ) (fields : Mapping) → AllFit n fields
levels_fit zero fields t q kept is within = let some = nesting_some q in absurd (omega arith)
levels_fit (suc n) fields t q kept is within = level_more n fields (levels_fit n fields) t q kept is within

-- ---- what was read

pub query_fits : (fields : Mapping) (t : Tree) (q : Query) → IsKept t → query_in fields t ≡ Some q → nesting q ≤ 16 → FitsQuery q
query_fits fields t q kept is within = levels_fit 16 fields t q kept is within

mapped_is : (q other : Query) (o : Option (List ℕ)) → if_mapped q o ≡ Ok other → q ≡ other
mapped_is q other None is = cc
mapped_is q other (Some field) is = absurd (cc)

nested_is : (deep : Bool) (q other : Query) (o : Option (List ℕ)) (refusal : QueryError) → cond deep (if_mapped q o) (Err refusal) ≡ Ok other → q ≡ other
nested_is true q other o refusal is = mapped_is q other o is
nested_is false q other o refusal is = absurd (cc)

formed_is : (fields : Mapping) (o : Option Query) (q : Query) → if_formed fields o ≡ Ok q → o ≡ Some q
formed_is fields None q is = absurd (cc)
formed_is fields (Some other) q is = ap Some (nested_is (nat_le (nesting other) 16) other q (unmapped_in fields other) (error.TooDeep (codes "query")) is)

known_is : (fields : Mapping) (t : Tree) (unknown : Option (List ℕ)) (q : Query) → if_known fields t unknown ≡ Ok q → query_in fields t ≡ Some q
known_is fields t (Some path) q is = absurd (cc)
known_is fields t None q is = formed_is fields (query_in fields t) q is

pub spelled_query : (fields : Mapping) (t : Tree) (q : Query) → IsKept t → nesting q ≤ 16 → reading fields t ≡ Ok q → FitsQuery q
spelled_query fields t q kept within is = query_fits fields t q kept (known_is fields t _ q is) within
