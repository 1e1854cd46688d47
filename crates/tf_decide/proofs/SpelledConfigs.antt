-- The configuration that a tree stands for, where the tree was read from a line and nothing is refused, has a spelling.
use Rattle.std.proofs.Common.{◌≡◌, ℕ, ◌<◌, ◌≤◌, ◌^◌, ℤ, pos, negsuc, Bool, true, false, List, [], ◌∷◌, length, map, Option, Some, None, FitsSigned, w64, refl, sym, ap, subst, ◌∙◌, arith}
use Rattle.std.specs.Prelude.{codes, nat_le, nat_lt, not, unwrap_or, IfSome, Result, Ok, Err}
use Rattle.std.specs.Cmp.Derive.{both_true}
use Rattle.std.specs.Cmp.Lexicographic.{slice_cmp}
use Rattle.std.specs.List.{AllByRecursion, cons_option, filter_map}
use Rattle.std.specs.Option.{option_map, option_or}
use Rattle.std.specs.Ordering.{is_lt, nat_cmp}
use Rattle.std.specs.declared.cmp.Ordering.TheVariants.{Less}
use Rattle.std.proofs.lemmas.Bool.Decides.{nat_tests}
use Rattle.std.proofs.lemmas.Int.{ints}
use Rattle.std.proofs.lemmas.List.Elements.{recursion_from_All}
use Rattle.std.proofs.lemmas.Str.{IsUtf8-nil}
use Rattle.tf_model.specs.declared.config.Group.{Group}
use Rattle.tf_model.specs.declared.config.GroupKind.{GroupKind}
use Rattle.tf_model.specs.declared.config.GroupKind.TheVariants.{Terms, Histogram, DateHistogram}
use Rattle.tf_model.specs.declared.config.Config.{Config}
use Rattle.tf_model.specs.declared.query.Mapping.{Mapping}
use Rattle.tf_model.specs.declared.query.Query.{Query}
use Rattle.tf_model.specs.declared.tree.Tree.{Tree}
use Rattle.tf_model.specs.Conditions.{IsBetween, IsGroupInRange, IsSpan}
use Rattle.tf_model.specs.Keys.{groups_of}
use Rattle.tf_model.specs.Lines.{IsBelow, NamesAscend}
use Rattle.tf_model.specs.Trees.{items_in, member_of, members_in, text_in}
use Rattle.tf_query.specs.declared.error.QueryError.{QueryError}
use Rattle.tf_query.specs.Reading as query
use Rattle.tf_query.specs.Reading.{nesting}
use Rattle.tf_config.specs.Catalogue.{Indices, fields_of}
use Rattle.tf_config.specs.Checks.{told_if, too_long_in_shape}
use Rattle.tf_config.specs.Drafts.{agg_by, agg_of, aggs, beside, drafted, group_by, group_of, groups, latest, members_or_none, names_by, names_or_none, only, pivot, retention_time, shape, shape_by, sources, sync_time, text_or_none, texts_in, texts_or_none}
use Rattle.tf_config.specs.Reading.{kept, query_by, query_of, query_tree, reading}
use Rattle.tf_config.specs.Refusals.{passes}
use Rattle.tf_config.proofs.ClearLaws.{passes_clear, passing_is_in_range}
use Rattle.tf_config.proofs.EmptyLists.{all_two, none_of_both, not_told}
use Rattle.tf_config.proofs.ReadLaws.{read_is, read_passes}
use Rattle.tf_command.specs.Formed.{AreKept, IsKept}
use Rattle.tf_command.proofs.LineParts.{kept_items, kept_members, names_of_members}
use Rattle.tf_event.specs.Configs.{FitsAgg, FitsAggs, FitsConfig, FitsGroup, FitsGroupKind, FitsGroups, FitsRetention, FitsShape, FitsSync}
use Rattle.tf_event.specs.Queries.{FitsQuery}
use Rattle.tf_event.specs.Spelling.{FitsText}
use Rattle.tf_event.specs.Values.{ascends, ascends_above}
use Rattle.tf_event.specs.declared.grammar.Grammar.TheVariants.{First}
use Rattle.tf_decide.proofs.Inside.{member_kept, member_names_fit, text_fits}
use Rattle.tf_decide.proofs.SpelledQueries.{all_fits, only_kept, spelled_query}

-- ---- a tree that may be absent

-- it is kept, where it is there
abbrev MayBeKept : Option Tree → Type 0
MayBeKept o = IfSome o IsKept

beside_kept : (name : List ℕ) (o : Option Tree) → MayBeKept o → MayBeKept (beside name o)
beside_kept name None kept = tt
beside_kept name (Some t) kept = member_kept t name kept

either_kept : (a b : Option Tree) → MayBeKept a → MayBeKept b → MayBeKept (option_or a b)
either_kept None b kept_a kept_b = kept_b
either_kept (Some t) b kept_a kept_b = kept_a

-- ---- texts

empty_fits : FitsText []
empty_fits = (omega arith, IsUtf8-nil)

found_text_fits : (t : Tree) (o : Option (List ℕ)) → IsKept t → text_in t ≡ o → FitsText (unwrap_or o [])
found_text_fits t None kept is = empty_fits
found_text_fits t (Some text) kept is = text_fits t text kept is

text_or_none_fits : (o : Option Tree) → MayBeKept o → FitsText (text_or_none o)
text_or_none_fits None kept = empty_fits
text_or_none_fits (Some t) kept = found_text_fits t (text_in t) kept refl

-- the text of a member
member_text_fits : (t : Tree) (name : List ℕ) → IsKept t → FitsText (text_or_none (member_of t name))
member_text_fits t name kept = text_or_none_fits (member_of t name) (member_kept t name kept)

-- ---- lists

made_before : {B : Type 0} (Q : B → Type 0) (o : Option B) (ys : List B) → IfSome o Q → AllByRecursion Q ys → AllByRecursion Q (cons_option o ys)
made_before Q None ys first others = others
made_before Q (Some y) ys first others = (first, others)

-- what is made of those that have a property has another
all_made : {A B : Type 0} (P : A → Type 0) (Q : B → Type 0) (f : A → Option B) → ((x : A) → P x → IfSome (f x) Q) → (xs : List A) → AllByRecursion P xs → AllByRecursion Q (filter_map f xs)
all_made P Q f made [] all = tt
all_made P Q f made (x ∷ xs) all = made_before Q (f x) (filter_map f xs) (made x all.0) (all_made P Q f made xs all.1)

if_text : (t : Tree) (o : Option (List ℕ)) → IsKept t → text_in t ≡ o → IfSome o FitsText
if_text t None kept is = tt
if_text t (Some text) kept is = text_fits t text kept is

items_kept : (t : Tree) (o : Option (List Tree)) → IsKept t → items_in t ≡ o → AllByRecursion IsKept (unwrap_or o [])
items_kept t None kept is = tt
items_kept t (Some items) kept is = kept_items t items kept is

texts_in_fit : (t : Tree) → IsKept t → AllByRecursion FitsText (texts_in t)
texts_in_fit t kept = all_made IsKept FitsText text_in (λ item item_kept. if_text item (text_in item) item_kept refl) (unwrap_or (items_in t) []) (items_kept t (items_in t) kept refl)

texts_fit : (o : Option Tree) → MayBeKept o → AllByRecursion FitsText (texts_or_none o)
texts_fit None kept = tt
texts_fit (Some t) kept = texts_in_fit t kept

names_by_fit : (t : Tree) (o : Option (List ℕ)) → IsKept t → text_in t ≡ o → AllByRecursion FitsText (names_by o t)
names_by_fit t None kept is = texts_in_fit t kept
names_by_fit t (Some name) kept is = (text_fits t name kept is, tt)

names_fit : (o : Option Tree) → MayBeKept o → AllByRecursion FitsText (names_or_none o)
names_fit None kept = tt
names_fit (Some t) kept = names_by_fit t (text_in t) kept refl

-- no longer than it may be
few : {A : Type 0} (greatest : ℕ) (xs : List A) (what : List ℕ) → told_if (nat_lt greatest (length xs)) what ≡ [] → length xs ≤ greatest
few greatest xs what none = let none_more = not_told (nat_lt greatest (length xs)) what none in grind (arith, nat_tests)

-- ---- the members of an object

record FitMembers (members : List (List ℕ × Tree)) : Type 0 where
  pub kept : AreKept members
  pub names : AllByRecursion (λ m. FitsText m.0) members
  pub ascend : NamesAscend members

found_members_fit : (t : Tree) (o : Option (List (List ℕ × Tree))) → IsKept t → members_in t ≡ o → FitMembers (unwrap_or o [])
found_members_fit t None kept is = record { kept = tt; names = tt; ascend = tt }
found_members_fit t (Some members) kept is =
    record { kept = kept_members t members kept is; names = member_names_fit t members kept is; ascend = (names_of_members t members kept.0 is).ascend }

members_fit : (o : Option Tree) → MayBeKept o → FitMembers (members_or_none o)
members_fit None kept = record { kept = tt; names = tt; ascend = tt }
members_fit (Some t) kept = found_members_fit t (members_in t) kept refl

-- the name of a member fits, and its tree is kept
abbrev NamedAndKept : List ℕ × Tree → Type 0
NamedAndKept m = FitsText m.0 × IsKept m.1

named_and_kept : (members : List (List ℕ × Tree)) → FitMembers members → AllByRecursion NamedAndKept members
named_and_kept members fit = all_two (λ m. FitsText m.0) (λ m. IsKept m.1) NamedAndKept (λ m name kept. (name, kept)) members fit.names fit.kept

-- what is made of a member, if anything, has its name
abbrev KeepsName : {A : Type 0} → (List ℕ × Tree → Option A) → (A → List ℕ) → Type 0
KeepsName of_member name = (m : List ℕ × Tree) → IfSome (of_member m) (λ a. name a ≡ m.0)

above_more : {A : Type 0} (name : A → List ℕ) (o : Option A) (last own : List ℕ) (others : List A) → IfSome o (λ a. name a ≡ own) → slice_cmp nat_cmp last own ≡ Less
    → ascends_above last (map name others) ≡ true → ascends_above own (map name others) ≡ true → ascends_above last (map name (cons_option o others)) ≡ true
above_more name None last own others named less without after = without
above_more name (Some a) last own others named less without after =
    both_true (ap is_lt (ap (slice_cmp nat_cmp last) named ∙ less)) (ap (λ n. ascends_above n (map name others)) named ∙ after)

made_above : {A : Type 0} (of_member : List ℕ × Tree → Option A) (name : A → List ℕ) → KeepsName of_member name → (last : List ℕ) (members : List (List ℕ × Tree)) → IsBelow last members → NamesAscend members
    → ascends_above last (map name (filter_map of_member members)) ≡ true
made_above of_member name keeps last [] below ascend = refl
made_above of_member name keeps last (m ∷ members) below ascend =
    above_more name (of_member m) last m.0 (filter_map of_member members) (keeps m) below.0
    (made_above of_member name keeps last members below.1 ascend.1)
    (made_above of_member name keeps m.0 members ascend.0 ascend.1)

ascends_more : {A : Type 0} (name : A → List ℕ) (o : Option A) (own : List ℕ) (others : List A) → IfSome o (λ a. name a ≡ own) → ascends (map name others) ≡ true
    → ascends_above own (map name others) ≡ true → ascends (map name (cons_option o others)) ≡ true
ascends_more name None own others named without after = without
ascends_more name (Some a) own others named without after = ap (λ n. ascends_above n (map name others)) named ∙ after

-- what is made of members ascends as they do
made_ascend : {A : Type 0} (of_member : List ℕ × Tree → Option A) (name : A → List ℕ) → KeepsName of_member name → (members : List (List ℕ × Tree)) → NamesAscend members
    → ascends (map name (filter_map of_member members)) ≡ true
made_ascend of_member name keeps [] ascend = refl
made_ascend of_member name keeps (m ∷ members) ascend =
    ascends_more name (of_member m) m.0 (filter_map of_member members) (keeps m)
    (made_ascend of_member name keeps members ascend.1)
    (made_above of_member name keeps m.0 members ascend.0 ascend.1)

-- ---- groups

within_fits : (low greatest : ℕ) (z : ℤ) → IsBetween (pos low) (pos greatest) z → greatest < 2 ^ 63 → FitsSigned w64 z
within_fits low greatest (pos n) within small = record { sfits = omega (arith, ints, within.1) }
within_fits low greatest (negsuc n) within small = absurd (omega (arith, ints, within.0))

kind_fits : (kind : GroupKind) → IsGroupInRange kind → FitsGroupKind kind
kind_fits Terms range = tt
kind_fits (Histogram interval) range = omega (arith, range.1)
kind_fits (DateHistogram step) range = within_fits 1 253402300799999 step range (omega arith)

record FitsNames (g : Group) : Type 0 where
  pub name : FitsText g.name
  pub field : FitsText g.field

group_named : (m : List ℕ × Tree) (o : Option (List ℕ × Tree)) → FitsText m.0 → IsKept m.1 → only (members_in m.1) ≡ o → IfSome (option_map (group_by m.0) o) FitsNames
group_named m None text kept is = tt
group_named m (Some one) text kept is = record { name = text; field = member_text_fits one.1 (codes "field") (only_kept m.1 one kept is).1 }

group_keeps_name : (name : List ℕ) (o : Option (List ℕ × Tree)) → IfSome (option_map (group_by name) o) (λ g. g.name ≡ name)
group_keeps_name name None = tt
group_keeps_name name (Some one) = refl

groups_fit : (o : Option Tree) → MayBeKept o → length (groups o) ≤ 4 → AllByRecursion (λ g. IsGroupInRange g.kind) (groups o) → FitsGroups (groups o)
groups_fit o kept few ranges =
    let members = members_or_none o in
    let fit = members_fit o kept in
    let named = all_made NamedAndKept FitsNames group_of (λ m parts. group_named m (only (members_in m.1)) parts.0 parts.1 refl) members (named_and_kept members fit) in
    let fits = all_two FitsNames (λ g. IsGroupInRange g.kind) FitsGroup (λ g names range. record { name = names.name; field = names.field; kind = kind_fits g.kind range }) (groups o) named ranges in
    ((omega (arith, few), fits), made_ascend group_of (λ g. g.name) (λ m. group_keeps_name m.0 (only (members_in m.1))) members fit.ascend)

-- ---- aggregations

agg_named : (m : List ℕ × Tree) (o : Option (List ℕ × Tree)) → FitsText m.0 → IsKept m.1 → only (members_in m.1) ≡ o → IfSome (option_map (agg_by m.0) o) FitsAgg
agg_named m None text kept is = tt
agg_named m (Some one) text kept is = record { name = text; field = member_text_fits one.1 (codes "field") (only_kept m.1 one kept is).1 }

agg_keeps_name : (name : List ℕ) (o : Option (List ℕ × Tree)) → IfSome (option_map (agg_by name) o) (λ a. a.name ≡ name)
agg_keeps_name name None = tt
agg_keeps_name name (Some one) = refl

aggs_fit : (o : Option Tree) → MayBeKept o → length (aggs o) ≤ 16 → FitsAggs (aggs o)
aggs_fit o kept few =
    let members = members_or_none o in
    let fit = members_fit o kept in
    let fits = all_made NamedAndKept FitsAgg agg_of (λ m parts. agg_named m (only (members_in m.1)) parts.0 parts.1 refl) members (named_and_kept members fit) in
    ((omega (arith, few), fits), made_ascend agg_of (λ a. a.name) (λ m. agg_keeps_name m.0 (only (members_in m.1))) members fit.ascend)

-- ---- shapes

pivot_fits : (t : Tree) → IsKept t → too_long_in_shape (pivot t) ≡ [] → AllByRecursion (λ g. IsGroupInRange g.kind) (groups_of (pivot t)) → FitsShape (pivot t)
pivot_fits t kept short ranges =
    let group_in = member_of t (codes "group_by") in
    let agg_in = option_or (member_of t (codes "aggregations")) (member_of t (codes "aggs")) in
    let lists = none_of_both (told_if (nat_lt 4 (length (groups group_in))) (codes "group_by")) (told_if (nat_lt 16 (length (aggs agg_in))) (codes "aggregations")) short in (
      groups_fit group_in (member_kept t (codes "group_by") kept) (few 4 (groups group_in) (codes "group_by") lists.0) ranges,
      aggs_fit agg_in
          (either_kept (member_of t (codes "aggregations")) (member_of t (codes "aggs")) (member_kept t (codes "aggregations") kept) (member_kept t (codes "aggs") kept))
          (few 16 (aggs agg_in) (codes "aggregations") lists.1),
    )

latest_fits : (o : Option Tree) → MayBeKept o → too_long_in_shape (latest o) ≡ [] → FitsShape (latest o)
latest_fits o kept short =
    let keys = texts_or_none (beside (codes "unique_key") o) in
    let few_keys = few 4 keys (codes "unique_key") short in (
      (omega (arith, few_keys), texts_fit (beside (codes "unique_key") o) (beside_kept (codes "unique_key") o kept)),
      text_or_none_fits (beside (codes "sort") o) (beside_kept (codes "sort") o kept),
    )

shape_fits : (a b : Option Tree) → MayBeKept a → MayBeKept b → too_long_in_shape (shape_by a b) ≡ [] → AllByRecursion (λ g. IsGroupInRange g.kind) (groups_of (shape_by a b)) → FitsShape (shape_by a b)
shape_fits None b kept_a kept_b short ranges = latest_fits b kept_b short
shape_fits (Some t) b kept_a kept_b short ranges = pivot_fits t kept_a short ranges

-- ---- sync and retention

sync_fits : (o : Option Tree) → MayBeKept o → IfSome (option_map sync_time o) (λ s. IsSpan s.delay_ms) → IfSome (option_map sync_time o) (FitsSync First)
sync_fits None kept span = tt
sync_fits (Some t) kept span = record { field = member_text_fits t (codes "field") kept; delay_ms = within_fits 0 253402300799999 _ span (omega arith) }

retention_fits : (o : Option Tree) → MayBeKept o → IfSome (option_map retention_time o) (λ r. IsSpan r.max_age_ms) → IfSome (option_map retention_time o) FitsRetention
retention_fits None kept span = tt
retention_fits (Some t) kept span = record { field = member_text_fits t (codes "field") kept; max_age_ms = within_fits 0 253402300799999 _ span (omega arith) }

-- ---- configurations

-- a member of a member
inner_kept : (t : Tree) (outer name : List ℕ) → IsKept t → MayBeKept (beside name (member_of t outer))
inner_kept t outer name kept = beside_kept name (member_of t outer) (member_kept t outer kept)

pub spelled_config : (indices : Indices) (q : Query) (t : Tree) → IsKept t → passes indices (drafted q t) ≡ true → FitsQuery q → FitsConfig First (drafted q t)
unfolding drafted
spelled_config indices q t kept passing query =
    let clear = passes_clear indices (drafted q t) passing in
    let range = passing_is_in_range indices (drafted q t) passing in
    let lists = none_of_both (told_if (nat_lt 8 (length (sources t))) (codes "index")) (too_long_in_shape (shape t)) clear.too_long in
    let few_sources = few 8 (sources t) (codes "index") lists.0 in
    let in_range = recursion_from_All (λ (g : Group). IsGroupInRange g.kind) (groups_of (shape t)) range.groups in
    record {
      sources = (omega (arith, few_sources), names_fit (beside (codes "index") (member_of t (codes "source"))) (inner_kept t (codes "source") (codes "index") kept));
      query = query;
      dest = text_or_none_fits (beside (codes "index") (member_of t (codes "dest"))) (inner_kept t (codes "dest") (codes "index") kept);
      shape = shape_fits (member_of t (codes "pivot")) (member_of t (codes "latest")) (member_kept t (codes "pivot") kept) (member_kept t (codes "latest") kept) lists.1 in_range;
      sync = sync_fits (beside (codes "time") (member_of t (codes "sync"))) (inner_kept t (codes "sync") (codes "time") kept) range.delay;
      retention = retention_fits (beside (codes "time") (member_of t (codes "retention_policy"))) (inner_kept t (codes "retention_policy") (codes "time") kept) range.max_age;
      frequency_ms = within_fits 1000 3600000 _ range.frequency (omega arith);
      page_size = omega (arith, range.page_size.1);
      description = member_text_fits t (codes "description") kept;
    }

-- ---- a configuration that is read
within_levels : (q : Query) → told_if (not (nat_le (nesting q) 16)) (codes "query") ≡ [] → nesting q ≤ 16
within_levels q none = by (nat_le (nesting q) 16) refl (not_told (not (nat_le (nesting q) 16)) (codes "query") none)
  where
    by : (b : Bool) → nat_le (nesting q) 16 ≡ b → not b ≡ false → nesting q ≤ 16
    by true few h = grind (arith, nat_tests)
    by false few h = absurd (cc)

-- the query that is kept
read_query_fits : (fields : Mapping) (o : Option Tree) → MayBeKept o → nesting (kept (query_by fields o)) ≤ 16 → FitsQuery (kept (query_by fields o))
read_query_fits fields None is_kept few = all_fits 15
read_query_fits fields (Some t) is_kept few = by (query.reading fields t) refl few
  where
    by : (r : Result Query QueryError) → query.reading fields t ≡ r → nesting (kept r) ≤ 16 → FitsQuery (kept r)
    by (Ok q) is few = spelled_query fields t q is_kept few is
    by (Err e) is few = all_fits 15

-- a configuration that is read from a tree of a line has a spelling
pub read_config_fits : (indices : Indices) (t : Tree) (c : Config) → IsKept t → Ok c ≡ reading indices true t → FitsConfig First c
unfolding drafted
read_config_fits indices t c is_kept is =
    let read = read_is indices t c is in
    let q = kept (query_of indices t) in
    let passing : passes indices (drafted q t) ≡ true = subst (λ c. passes indices c ≡ true) read (read_passes indices t c is) in
    let few = within_levels q (passes_clear indices (drafted q t) passing).too_deep in
    subst (FitsConfig First) (sym read) (spelled_config indices q t is_kept passing (read_query_fits (fields_of indices (sources t)) (query_tree t) (inner_kept t (codes "source") (codes "query") is_kept) few))
