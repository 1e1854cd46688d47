-- A tree whose form has no fault stands for a configuration with no empty list, and with a query whose values have the
-- types of their fields.
use Rattle.std.proofs.Common.{◌≡◌, ℕ, ◌+◌, Bool, true, false, cond, ◌||◌, List, [], ◌∷◌, ◌++◌, Option, Some, None, refl, sym, ap, ap₂, subst, ◌∙◌}
use Rattle.std.specs.Prelude.{codes, not, is_some, unwrap_or, IfSome, if◌then◌else◌}
use Rattle.std.specs.Fmt.{decimal}
use Rattle.std.specs.List.{filter_map, cons_option}
use Rattle.std.specs.Option.{option_map, option_to_list, option_and_then}
use Rattle.std.specs.Str.{bytes_eq}
use Rattle.std.proofs.lemmas.Slice.Eq.{bytes_eq-Decides}
use Rattle.tf_model.specs.declared.config.Group.{Group}
use Rattle.tf_model.specs.declared.query.Query.{Query}
use Rattle.tf_model.specs.declared.tree.Tree.{Tree, out-Tree, map-Tree, roll-out-Tree, fold-roll-Tree}
use Rattle.tf_model.specs.declared.tree.Tree.TheOpen.{Tree-F}
use Rattle.tf_model.specs.Trees.{text_in, items_in, members_in, text_level, items_level, members_level, member_at, member_of}
use Rattle.tf_mapping.specs.Least.{is_one_of}
use Rattle.tf_mapping.specs.Scalars.{Place, path_in}
use Rattle.tf_config.specs.declared.forms.FormFault.TheVariants as fault
use Rattle.tf_config.specs.declared.table.Form.{Form}
use Rattle.tf_config.specs.declared.table.Form.TheVariants as form
use Rattle.tf_config.specs.declared.table.Object.{Object}
use Rattle.tf_config.specs.declared.table.Object.TheVariants as object
use Rattle.tf_config.specs.Catalogue.{Indices, fields_of}
use Rattle.tf_config.specs.Checks.{told_if, is_empty, empty_in_shape, unfit_query, empty_lists}
use Rattle.tf_config.specs.Drafts.{beside, texts_in, texts_or_none, names_by, names_or_none, only, group_by, group_of, groups, shape_by, sources, drafted}
use Rattle.tf_config.specs.Forms.{Found, Faults, faults_step, faults_of, faults_beside, faults_each, form_faults, paths, is_unknown_fault, is_missing_fault, is_wrong_kind_fault, unknown_member, missing_members, miscounted, absent_of, missing_aggs, absent, in_member, in_members, in_names, in_object, in_items, in_list, if_empty}
use Rattle.tf_config.specs.Members.{names_of}
use Rattle.tf_config.specs.Reading.{query_tree, query_of, kept, query_faults, has_both_or_neither, faults_of_tree}
use Rattle.tf_config.specs.Laws.{FormSuffices}
use Rattle.tf_config.specs.Table.{Member, required, form_of}
use Rattle.tf_config.proofs.ClearLaws.{all_clear}
use Rattle.tf_config.proofs.EmptyLists.{none_of_both, none_mapped, not_told}
use Rattle.tf_config.proofs.TypedQueries.{kept_typed}

-- ---- no fault of any kind is no fault
none_found : (found : List Found) → paths is_unknown_fault found ≡ [] → paths is_missing_fault found ≡ [] → paths is_wrong_kind_fault found ≡ [] → found ≡ []
none_found [] unknown missing wrong = refl
none_found ((fault.Unknown, path) ∷ found) unknown missing wrong = absurd (cc)
none_found ((fault.Missing, path) ∷ found) unknown missing wrong = absurd (cc)
none_found ((fault.WrongKind, path) ∷ found) unknown missing wrong = absurd (cc)

-- ---- trees without faults
faults_level : (t : Tree) → faults_of t ≡ faults_step (map-Tree Tree Faults faults_of (out-Tree t))
unfolding faults_of
faults_level t = ap faults_of (sym (roll-out-Tree t)) ∙ fold-roll-Tree Faults faults_step (out-Tree t)

abbrev Members : Type 0
Members = List (List ℕ × Tree)

object_at : (parent : Object) (place : Place) (y : Tree-F Tree) → faults_step (map-Tree Tree Faults faults_of y) (form.Object parent) place ≡ []
    → (members : Members) × (members_level y ≡ Some members) × (in_object parent place (faults_beside members) ≡ [])
object_at parent place (Tree-F.Obj members) h = (members, refl, h)
object_at parent place y h = absurd (cc)

-- where an object is to stand, one stands
clean_object : (t : Tree) (parent : Object) (place : Place) → faults_of t (form.Object parent) place ≡ []
    → (members : Members) × (members_in t ≡ Some members) × (in_object parent place (faults_beside members) ≡ [])
unfolding members_in
clean_object t parent place h = object_at parent place (out-Tree t) (sym (ap (λ f. f (form.Object parent) place) (faults_level t)) ∙ h)

same_names : (members : Members) → names_of (faults_beside members) ≡ names_of members
same_names [] = refl
same_names (m ∷ members) = ap (λ names. m.0 ∷ names) (same_names members)

-- the parts of an object without faults
pub record IsClean (parent : Object) (place : Place) (members : Members) : Type 0 where
  pub absent : absent parent (names_of members) ≡ []
  pub counted : miscounted parent place (names_of members) ≡ []
  pub inside : in_members parent place (faults_beside members) ≡ []

clean_parts : (parent : Object) (place : Place) (members : Members) → in_object parent place (faults_beside members) ≡ [] → IsClean parent place members
clean_parts parent place members h =
    let whole : in_names parent place (names_of members) ++ in_members parent place (faults_beside members) ≡ [] =
    ap (λ names. in_names parent place names ++ in_members parent place (faults_beside members)) (sym (same_names members)) ∙ h in
    let both = none_of_both (in_names parent place (names_of members)) (in_members parent place (faults_beside members)) whole in
    let names = none_of_both (unknown_member parent place (names_of members) ++ missing_members parent place (names_of members)) (miscounted parent place (names_of members)) both.0 in
    let missing = none_of_both (unknown_member parent place (names_of members)) (missing_members parent place (names_of members)) names.0 in
    record {
      absent = none_mapped (λ name. (fault.Missing, path_in place name)) (absent parent (names_of members)) missing.1;
      counted = names.1;
      inside = both.1;
    }

-- ---- a needed member stands there
has_member : (members : Members) (name : List ℕ) → is_one_of (names_of members) name ≡ is_some (member_at members name)
has_member [] name = refl
has_member (m ∷ members) name = by (bytes_eq m.0 name) (is_one_of (names_of members) name) (member_at members name) (has_member members name)
  where
    by : (b rest : Bool) (o : Option Tree) → rest ≡ is_some o → (b || rest) ≡ is_some (cond b (Some m.1) o)
    by true rest o same = refl
    by false rest o same = same

is_there : (b : Bool) (name : List ℕ) (rest : List (List ℕ)) → cond (not b) (name ∷ rest) rest ≡ [] → (b ≡ true) × (rest ≡ [])
is_there true name rest none = (refl, none)
is_there false name rest none = absurd (cc)

none_absent : (names : List (List ℕ)) (before after : List Member) (member : Member) → absent_of names (before ++ member ∷ after) ≡ [] → is_one_of names member.0 ≡ true
none_absent names [] after member none = (is_there (is_one_of names member.0) member.0 (absent_of names after) none).0
none_absent names (first ∷ before) after member none =
    none_absent names before after member (is_there (is_one_of names first.0) first.0 (absent_of names (before ++ member ∷ after)) none).1

-- ---- what stands inside has no fault either
abbrev IsFaultless : Form → Place → Tree → Type 0
IsFaultless kind place t = faults_of t kind place ≡ []

inside_clean : (parent : Object) (place : Place) (member : Member) → form_of parent member.0 ≡ Some member.1 → (members : Members) → in_members parent place (faults_beside members) ≡ []
    → IfSome (member_at members member.0) (IsFaultless member.1 (Some (path_in place member.0)))
inside_clean parent place member typed [] none = tt
inside_clean parent place member typed (m ∷ members) none =
    let both = none_of_both (in_member (form_of parent m.0) (faults_of m.1) (path_in place m.0)) (in_members parent place (faults_beside members)) none in
    by (bytes_eq m.0 member.0) refl both.0 (inside_clean parent place member typed members both.1)
  where
    by : (b : Bool) → bytes_eq m.0 member.0 ≡ b → in_member (form_of parent m.0) (faults_of m.1) (path_in place m.0) ≡ [] → IfSome (member_at members member.0) (IsFaultless member.1 (Some (path_in place member.0)))
        → IfSome (cond b (Some m.1) (member_at members member.0)) (IsFaultless member.1 (Some (path_in place member.0)))
    by true same first rest =
        let is : m.0 ≡ member.0 = (bytes_eq-Decides m.0 member.0).0 same in
        sym (ap₂ (λ o n. in_member o (faults_of m.1) (path_in place n)) (ap (form_of parent) is ∙ typed) is) ∙ first
    by false same first rest = rest

member_is : (t : Tree) (members : Members) (name : List ℕ) → members_in t ≡ Some members → member_of t name ≡ member_at members name
member_is t members name is = ap (λ o. option_and_then (λ ms. member_at ms name) o) is

-- what stands in an object without faults has none
member_clean : (t : Tree) (parent : Object) (place : Place) (member : Member) → form_of parent member.0 ≡ Some member.1 → faults_of t (form.Object parent) place ≡ []
    → IfSome (member_of t member.0) (IsFaultless member.1 (Some (path_in place member.0)))
member_clean t parent place member typed none =
    let found = clean_object t parent place none in
    subst (λ o. IfSome o (IsFaultless member.1 (Some (path_in place member.0)))) (sym (member_is t found.0 member.0 found.1))
    (inside_clean parent place member typed found.0 (clean_parts parent place found.0 found.2).inside)

abbrev IsThere : (Tree → Type 0) → Option Tree → Type 0
IsThere P o = (t : Tree) × (o ≡ Some t) × P t

there : (P : Tree → Type 0) (o : Option Tree) → is_some o ≡ true → IfSome o P → IsThere P o
there P None some known = absurd (cc)
there P (Some t) some known = (t, refl, known)

-- and what it needs stands there
needed : (t : Tree) (parent : Object) (place : Place) (before after : List Member) (member : Member) → required parent ≡ before ++ member ∷ after → form_of parent member.0 ≡ Some member.1
    → faults_of t (form.Object parent) place ≡ [] → IsThere (IsFaultless member.1 (Some (path_in place member.0))) (member_of t member.0)
needed t parent place before after member among typed none =
    let found = clean_object t parent place none in
    let names = names_of found.0 in
    let absent = (none_of_both (absent_of names (required parent)) (missing_aggs parent names) (clean_parts parent place found.0 found.2).absent).0 in
    let stands = none_absent names before after member (sym (ap (absent_of names) among) ∙ absent) in
    there (IsFaultless member.1 (Some (path_in place member.0))) (member_of t member.0) (ap is_some (member_is t found.0 member.0 found.1) ∙ sym (has_member found.0 member.0) ∙ stands)
    (member_clean t parent place member typed none)

-- ---- lists of texts
text_at : (place : Place) (y : Tree-F Tree) → faults_step (map-Tree Tree Faults faults_of y) form.Text place ≡ [] → (s : List ℕ) × (text_level y ≡ Some s)
text_at place (Tree-F.Str s) h = (s, refl)
text_at place y h = absurd (cc)

clean_text : (t : Tree) (place : Place) → faults_of t form.Text place ≡ [] → (s : List ℕ) × (text_in t ≡ Some s)
unfolding text_in
clean_text t place h = text_at place (out-Tree t) (sym (ap (λ f. f form.Text place) (faults_level t)) ∙ h)

abbrev HasSome : {A : Type 0} → List A → Type 0
HasSome xs = is_empty xs ≡ false

clean_items : (items : List Tree) (place : Place) → in_list place (faults_each items) ≡ [] → HasSome (filter_map text_in items)
clean_items [] place h = absurd (cc)
clean_items (t ∷ items) place h =
    let rest = in_items (0 + 1) place (faults_each items) in
    let path = Some (path_in place (decimal 0)) in
    let all = none_of_both (if_empty (faults_each (t ∷ items)) place) (faults_of t form.Text path ++ rest) h in
    let first = none_of_both (faults_of t form.Text path) rest all.1 in
    let text = clean_text t path first.0 in
    ap (λ o. is_empty (cons_option o (filter_map text_in items))) text.1

texts_at : (place : Place) (y : Tree-F Tree) → faults_step (map-Tree Tree Faults faults_of y) form.Texts place ≡ [] → HasSome (filter_map text_in (unwrap_or (items_level y) []))
texts_at place (Tree-F.Arr items) h = clean_items items place h
texts_at place y h = absurd (cc)

clean_texts : (t : Tree) (place : Place) → faults_of t form.Texts place ≡ [] → HasSome (texts_in t)
unfolding items_in
clean_texts t place h = texts_at place (out-Tree t) (sym (ap (λ f. f form.Texts place) (faults_level t)) ∙ h)

names_at : (place : Place) (t : Tree) (y : Tree-F Tree) → items_in t ≡ items_level y → faults_step (map-Tree Tree Faults faults_of y) form.Names place ≡ [] → HasSome (names_by (text_level y) t)
names_at place t (Tree-F.Str s) is h = refl
names_at place t (Tree-F.Arr items) is h = ap (λ o. is_empty (filter_map text_in (unwrap_or o []))) is ∙ clean_items items place h
names_at place t y is h = absurd (cc)

clean_names : (t : Tree) (place : Place) → faults_of t form.Names place ≡ [] → HasSome (names_or_none (Some t))
unfolding text_in items_in
clean_names t place h = names_at place t (out-Tree t) refl (sym (ap (λ f. f form.Names place) (faults_level t)) ∙ h)

-- ---- the sources
source_there : (need_dest : Bool) (t : Tree) → form_faults need_dest t ≡ [] → IsThere (IsFaultless (form.Object object.Source) (Some (codes "source"))) (member_of t (codes "source"))
source_there true t none = needed t object.Config None ((codes "dest", form.Object object.Dest) ∷ []) [] (codes "source", form.Object object.Source) refl refl none
source_there false t none = needed t object.Preview None [] [] (codes "source", form.Object object.Source) refl refl none

source_names : (t : Tree) (place : Place) → faults_of t (form.Object object.Source) place ≡ [] → HasSome (names_or_none (member_of t (codes "index")))
source_names t place none =
    let index = needed t object.Source place [] [] (codes "index", form.Names) refl refl none in
    ap (λ o. is_empty (names_or_none o)) index.1 ∙ clean_names index.0 (Some (path_in place (codes "index"))) index.2

-- ---- the groups
one_name : (members : Members) (place : Place) → miscounted object.Group place (names_of members) ≡ [] → (m : List ℕ × Tree) × (members ≡ m ∷ [])
one_name [] place h = absurd (cc)
one_name (m ∷ []) place h = (m, refl)
one_name (m ∷ n ∷ members) place h = absurd (cc)

group_made : (name : List ℕ) (t : Tree) (place : Place) → faults_of t (form.Object object.Group) place ≡ [] → (g : Group) × (group_of (name, t) ≡ Some g)
group_made name t place none =
    let found = clean_object t object.Group place none in
    let clean = clean_parts object.Group place found.0 found.2 in
    let one = one_name found.0 place clean.counted in
    (group_by name one.0, ap (λ o. option_map (group_by name) (only o)) (found.1 ∙ ap Some one.1))

some_groups : (members : Members) (place : Place) → IsClean object.Groups place members → HasSome (filter_map group_of members)
some_groups [] place clean = absurd (let none : ◌≡◌ {A = List Found} (miscounted object.Groups place []) [] = clean.counted in cc)
some_groups (m ∷ members) place clean =
    let path = Some (path_in place m.0) in
    let first = none_of_both (faults_of m.1 (form.Object object.Group) path) (in_members object.Groups place (faults_beside members)) clean.inside in
    let group = group_made m.0 m.1 path first.0 in
    ap (λ o. is_empty (cons_option o (filter_map group_of members))) group.1

clean_groups : (t : Tree) (place : Place) → faults_of t (form.Object object.Groups) place ≡ [] → HasSome (groups (Some t))
clean_groups t place none =
    let found = clean_object t object.Groups place none in
    ap (λ o. is_empty (filter_map group_of (unwrap_or o []))) found.1 ∙ some_groups found.0 place (clean_parts object.Groups place found.0 found.2)

clean_pivot : (t : Tree) (place : Place) → faults_of t (form.Object object.Pivot) place ≡ [] → HasSome (groups (member_of t (codes "group_by")))
clean_pivot t place none =
    let by = needed t object.Pivot place [] [] (codes "group_by", form.Object object.Groups) refl refl none in
    ap (λ o. is_empty (groups o)) by.1 ∙ clean_groups by.0 (Some (path_in place (codes "group_by"))) by.2

-- ---- the unique key
clean_latest : (t : Tree) (place : Place) → faults_of t (form.Object object.Latest) place ≡ [] → HasSome (texts_or_none (member_of t (codes "unique_key")))
clean_latest t place none =
    let key = needed t object.Latest place ((codes "sort", form.Text) ∷ []) [] (codes "unique_key", form.Texts) refl refl none in
    ap (λ o. is_empty (texts_or_none o)) key.1 ∙ clean_texts key.0 (Some (path_in place (codes "unique_key"))) key.2

-- ---- the shape
abbrev IsPartClean : List ℕ → Object → Option Tree → Type 0
IsPartClean name parent o = IfSome o (IsFaultless (form.Object parent) (Some name))

part_clean : (need_dest : Bool) (t : Tree) (name : List ℕ) (parent : Object) → form_of object.Config name ≡ Some (form.Object parent) → form_of object.Preview name ≡ Some (form.Object parent)
    → form_faults need_dest t ≡ [] → IsPartClean name parent (member_of t name)
part_clean true t name parent typed preview none = member_clean t object.Config None (name, form.Object parent) typed none
part_clean false t name parent typed preview none = member_clean t object.Preview None (name, form.Object parent) preview none

none_told : (b : Bool) (what : List ℕ) → b ≡ false → told_if b what ≡ []
none_told b what is_not = ap (λ x. told_if x what) is_not

shape_clean : (pivots latests : Option Tree) → (if is_some pivots then is_some latests else not (is_some latests)) ≡ false → IsPartClean (codes "pivot") object.Pivot pivots
    → IsPartClean (codes "latest") object.Latest latests → empty_in_shape (shape_by pivots latests) ≡ []
shape_clean (Some t) (Some u) one here there = absurd (cc)
shape_clean (Some t) None one here there = none_told (is_empty (groups (member_of t (codes "group_by")))) (codes "pivot.group_by") (clean_pivot t (Some (codes "pivot")) here)
shape_clean None (Some u) one here there = none_told (is_empty (texts_or_none (member_of u (codes "unique_key")))) (codes "latest.unique_key") (clean_latest u (Some (codes "latest")) there)
shape_clean None None one here there = absurd (cc)

lists_clean : (need_dest : Bool) (t : Tree) (q : Query) → form_faults need_dest t ≡ [] → has_both_or_neither t ≡ false → empty_lists (drafted q t) ≡ []
unfolding drafted
lists_clean need_dest t q none one =
    let source = source_there need_dest t none in
    let names = ap (λ o. is_empty (names_or_none (beside (codes "index") o))) source.1 ∙ source_names source.0 (Some (codes "source")) source.2 in
    let shape = shape_clean (member_of t (codes "pivot")) (member_of t (codes "latest")) one
    (part_clean need_dest t (codes "pivot") object.Pivot refl refl none) (part_clean need_dest t (codes "latest") object.Latest refl refl none) in
    ap₂ (λ xs ys. xs ++ ys) (none_told (is_empty (sources t)) (codes "source.index") names) shape

-- ---- the query
typed_draft : (indices : Indices) (t : Tree) → unfit_query indices (drafted (kept (query_of indices t)) t) ≡ []
unfolding drafted
typed_draft indices t = ap (λ b. told_if (not b) (codes "source.query")) (kept_typed (fields_of indices (sources t)) (query_tree t))

-- what is told of a tree's form is told by its form alone
pub form_suffices : FormSuffices
form_suffices indices need_dest t none =
    let read = query_of indices t in
    let all = all_clear (faults_of_tree need_dest t (query_faults read)) none in
    let found = form_faults need_dest t in
    let unknown = none_of_both (paths is_unknown_fault found) (option_to_list (query_faults read).unknown) all.0 in
    let wrong = none_of_both (paths is_wrong_kind_fault found) (option_to_list (query_faults read).wrong_kind) all.1.1.0 in
    (lists_clean need_dest t (kept read) (none_found found unknown.0 all.1.0 wrong.0) (not_told (has_both_or_neither t) (codes "pivot") all.1.1.1.0), typed_draft indices t)
