-- A command whose members passed their forms keeps to them.
use Rattle.std.proofs.Common.{◌≡◌, ℕ, ◌≤◌, ℤ, pos, negsuc, Bool, true, false, cond, List, [], ◌∷◌, length, Option, Some, None, refl, sym, ap, subst, ◌∙◌, suc, arith, rules, is_some, IsSome, IfSome}
use Rattle.std.specs.Prelude.{codes, unwrap_or, int_le, ◌&&◌}
use Rattle.std.specs.List.{AllByRecursion}
use Rattle.std.specs.Option.{option_map, option_and_then}
use Rattle.std.specs.Str.{bytes_eq}
use Rattle.std.proofs.lemmas.Int.{ints}
use Rattle.std.proofs.lemmas.List.Elements.{All-from_recursion}
use Rattle.std.proofs.lemmas.Slice.Eq.{bytes_eq-Decides}
use Rattle.tf_model.specs.declared.tree.Tree.{Tree, out-Tree}
use Rattle.tf_model.specs.declared.tree.Tree.TheOpen.{Tree-F}
use Rattle.tf_model.specs.declared.tree.Tree.TheVariants as tree
use Rattle.tf_model.specs.Lines.{IsLevel, IsLine, IsLineWithin, IsWhole}
use Rattle.tf_model.specs.Names.{is_between}
use Rattle.tf_model.specs.Trees.{text_in, number_in, number_level, items_in, members_in, member_at}
use Rattle.tf_command.specs.declared.table.Name.{Name}
use Rattle.tf_command.specs.declared.table.Name.TheVariants as name
use Rattle.tf_command.specs.declared.table.Form.{Form}
use Rattle.tf_command.specs.declared.table.Form.TheVariants as form
use Rattle.tf_command.specs.Commands.{max_line, or_else, members_of, op_of, parts_from, first_absent, first_bad, fits}
use Rattle.tf_command.specs.Forms.{kept_if, object_in, array_in, natural, natural_between, Document, identified, document_id_in, is_document_id, doc_and_id, document_of, document_in, all_documents, counted, documents_in, has_form}
use Rattle.tf_command.specs.Formed.{AreKept, IsKept, IsShort, IsObject, IsArray, IsDocumentId, IsDocument, AreDocuments, IsFormedOp, IsFormed}
use Rattle.tf_command.specs.Table.{Member, form_of, required}
use Rattle.tf_command.proofs.LineParts.{kept_at, kept_items, kept_members, text_short}
use Rattle.tf_command.proofs.Options.{by_either, inside, mapped, some_is, tested}

both : {A : Type 0} (b : Bool) (o : Option A) (x : A) → cond b o (Some x) ≡ None → (b ≡ true) × (o ≡ None)
both true o x e = (refl, e)
both false o x e = absurd (cc)

-- the form of a member that is there
held : (op : Name) (n : List ℕ) (f : Form) (ms : List (List ℕ × Tree)) (t : Tree) → first_bad op ms ≡ None → form_of op n ≡ Some f → member_at ms n ≡ Some t
    → has_form f t ≡ true
held op n f [] t good is e = absurd (cc)
held op n f (m ∷ ms) t good is e =
    let here = both (fits (form_of op m.0) m.1) (first_bad op ms) m.0 good in
    by_either (bytes_eq m.0 n)
    (λ same.
    let name_is : m.0 ≡ n = (bytes_eq-Decides m.0 n).0 same in
    let found : Some m.1 ≡ Some t = sym (ap (λ b. cond b (Some m.1) (member_at ms n)) same) ∙ e in
    let tree_is : m.1 ≡ t = cc in
    subst (λ x. has_form f x ≡ true) tree_is (sym (ap (λ o. fits o m.1) (ap (form_of op) name_is ∙ is)) ∙ here.0))
    (λ other. held op n f ms t here.1 is (sym (ap (λ b. cond b (Some m.1) (member_at ms n)) other) ∙ e))

-- ---- objects and arrays

object_is : (t : Tree) → has_form form.Object t ≡ true → IsKept t → IsObject (unwrap_or (object_in t) tree.Null)
object_is t has line =
    let found = some_is (members_in t) has in
    let same : unwrap_or (object_in t) tree.Null ≡ t = ap (λ o. unwrap_or (option_map (λ members. t) o) tree.Null) found.1 in
    subst IsObject (sym same) (subst IsSome (sym found.1) refl, line)

-- a member that must be an object
object_held : (op : Name) (n : List ℕ) (ms : List (List ℕ × Tree)) → form_of op n ≡ Some form.Object → first_bad op ms ≡ None → AreKept ms
    → is_some (member_at ms n) ≡ true → IsObject (or_else tree.Null object_in ms n)
object_held op n ms is good lines there =
    let found = some_is (member_at ms n) there in
    subst (λ o. IsObject (unwrap_or (option_and_then object_in o) tree.Null)) (sym found.1)
    (object_is found.0 (held op n form.Object ms found.0 good is found.1) (kept_at n ms found.0 lines found.1))

array_is : (t : Tree) → has_form form.Array t ≡ true → IsKept t → IfSome (array_in t) IsArray
array_is t has line =
    let found = some_is (items_in t) has in
    subst (λ o. IfSome (option_map (λ items. t) o) IsArray) (sym found.1) (subst IsSome (sym found.1) refl, line)

-- a member that may be an array
array_held : (op : Name) (n : List ℕ) (ms : List (List ℕ × Tree)) (o : Option Tree) → member_at ms n ≡ o → form_of op n ≡ Some form.Array → first_bad op ms ≡ None
    → AreKept ms → IfSome (option_and_then array_in o) IsArray
array_held op n ms None at is good lines = tt
array_held op n ms (Some t) at is good lines = array_is t (held op n form.Array ms t good is at) (kept_at n ms t lines at)

-- ---- numbers

between : (low high n : ℕ) → (int_le (pos low) (pos n) && int_le (pos n) (pos high)) ≡ true → (low ≤ n) × (n ≤ high)
between low high n e = (grind (arith, ints), grind (arith, ints))

below_zero : (low n : ℕ) (high : ℤ) → (int_le (pos low) (negsuc n) && int_le (negsuc n) high) ≡ false
below_zero low n high = refl

in_range : (b : Bool) (low high n : ℕ) → (b ≡ true → (low ≤ n) × (n ≤ high)) → IfSome (option_map natural (cond b (Some (pos n)) None)) (λ m. (low ≤ m) × (m ≤ high))
in_range true low high n h = h refl
in_range false low high n h = tt

natural_is : (low high : ℕ) (o : Option ℤ) → IfSome (option_map natural (kept_if (λ n. int_le (pos low) n && int_le n (pos high)) o)) (λ n. (low ≤ n) × (n ≤ high))
natural_is low high None = tt
natural_is low high (Some (negsuc n)) =
    subst (λ b. IfSome (option_map natural (cond b (Some (negsuc n)) None)) (λ n. (low ≤ n) × (n ≤ high))) (sym (below_zero low n (pos high))) tt
natural_is low high (Some (pos n)) = in_range (int_le (pos low) (pos n) && int_le (pos n) (pos high)) low high n (between low high n)

chosen : (low high other : ℕ) (o : Option ℕ) → low ≤ other → other ≤ high → IfSome o (λ n. (low ≤ n) × (n ≤ high)) → (low ≤ unwrap_or o other) × (unwrap_or o other ≤ high)
chosen low high other None least most h = (least, most)
chosen low high other (Some n) least most h = h

-- a number of a range, or another one of it
pub ranged : (low high other : ℕ) (o : Option Tree) → low ≤ other → other ≤ high
    → (low ≤ unwrap_or (option_and_then (natural_between low high) o) other) × (unwrap_or (option_and_then (natural_between low high) o) other ≤ high)
ranged low high other None least most = (least, most)
ranged low high other (Some t) least most =
    chosen low high other (natural_between low high t) least most (natural_is low high (number_in t))

-- a whole number, or 1
whole_level : (x : Tree-F Tree) (Inner : Tree → Type 0) → IsLevel Inner x → IsWhole (unwrap_or (number_level x) (pos 1))
whole_level Tree-F.Null Inner h = omega arith
whole_level (Tree-F.Bool b) Inner h = omega arith
whole_level (Tree-F.Num z) Inner h = h
whole_level (Tree-F.Str s) Inner h = omega arith
whole_level (Tree-F.Arr items) Inner h = omega arith
whole_level (Tree-F.Obj members) Inner h = omega arith

whole_is : (t : Tree) → IsLine t → IsWhole (unwrap_or (number_in t) (pos 1))
unfolding IsLine IsLineWithin number_in
whole_is t h = whole_level (out-Tree t) (IsLineWithin 126) h

number_is : (o : Option Tree) → ((t : Tree) → o ≡ Some t → IsLine t) → IsWhole (unwrap_or (option_and_then number_in o) (pos 1))
number_is None lines = omega arith
number_is (Some t) lines = whole_is t (lines t refl)

-- ---- documents

lengths : (n : ℕ) → is_between 1 512 n ≡ true → (1 ≤ n) × (n ≤ 512)
lengths n e = (grind (arith, rules), grind (arith, rules))

id_is : (o : Option (List ℕ)) (id : List ℕ) → kept_if is_document_id o ≡ Some id → IsDocumentId id
id_is None id e = absurd (cc)
id_is (Some text) id e =
    let p = tested (is_document_id text) (Some text) id e in
    let same : text ≡ id = cc in
    subst IsDocumentId same (lengths (length text) p.0)

doc_is : (first second : List ℕ × Tree) (doc : Document) → IsKept first.1 → doc_and_id first second ≡ Some doc → IsDocument doc
doc_is first second doc line e =
    let p = tested (bytes_eq first.0 (codes "doc") && bytes_eq second.0 (codes "id")) (option_and_then (λ d. option_map (identified d) (document_id_in second.1)) (object_in first.1)) doc e in
    let object = inside (λ d. option_map (identified d) (document_id_in second.1)) (object_in first.1) doc p.1 in
    let id = mapped (identified object.0) (document_id_in second.1) doc object.2 in
    let members = mapped (λ ms. first.1) (members_in first.1) object.0 object.1 in
    let same : (id.0, first.1) ≡ doc = ap (λ t. identified t id.0) members.2 ∙ id.2 in
    subst IsDocument same (id_is (text_in second.1) id.0 id.1, (subst IsSome (sym members.1) refl, line))

members_are : (ms : List (List ℕ × Tree)) (doc : Document) → AreKept ms → document_of ms ≡ Some doc → IsDocument doc
members_are [] doc lines e = absurd (cc)
members_are (first ∷ []) doc lines e = absurd (cc)
members_are (first ∷ (second ∷ [])) doc lines e = doc_is first second doc lines.0 e
members_are (first ∷ (second ∷ (third ∷ others))) doc lines e = absurd (cc)

document_is : (t : Tree) (doc : Document) → IsKept t → document_in t ≡ Some doc → IsDocument doc
document_is t doc line e =
    let p = inside document_of (members_in t) doc e in
    members_are p.0 doc (kept_members t p.0 line p.1) p.2

record Documents (items : List Tree) (docs : List Document) : Type 0 where
  pub count : length docs ≡ length items
  pub each : AllByRecursion IsDocument docs

documents_are : (items : List Tree) (docs : List Document) → AllByRecursion IsKept items → all_documents items ≡ Some docs → Documents items docs
documents_are [] docs lines e =
    let none : [] ≡ docs = cc in
    subst (Documents []) none (record { count = refl; each = tt })
documents_are (t ∷ ts) docs lines e =
    let first = inside (λ doc. option_map (λ more. doc ∷ more) (all_documents ts)) (document_in t) docs e in
    let others = mapped (λ more. first.0 ∷ more) (all_documents ts) docs first.2 in
    let rest = documents_are ts others.0 lines.1 others.1 in
    subst (Documents (t ∷ ts)) others.2 (record { count = ap suc rest.count; each = (document_is t first.0 lines.0 first.1, rest.each) })

counts : (n : ℕ) → is_between 1 10000 n ≡ true → (1 ≤ n) × (n ≤ 10000)
counts n e = (grind (arith, rules), grind (arith, rules))

bulk_is : (t : Tree) → has_form form.Documents t ≡ true → IsKept t → AreDocuments (unwrap_or (documents_in t) [])
bulk_is t has line =
    let found = some_is (documents_in t) has in
    let items = inside counted (items_in t) found.0 found.1 in
    let all = tested (is_between 1 10000 (length items.0)) (all_documents items.0) found.0 items.2 in
    let docs = documents_are items.0 found.0 (kept_items t items.0 line items.1) all.1 in
    let count = counts (length items.0) all.0 in
    subst (λ o. AreDocuments (unwrap_or o [])) (sym found.1)
    (subst (λ n. 1 ≤ n) (sym docs.count) count.0, subst (λ n. n ≤ 10000) (sym docs.count) count.1, All-from_recursion IsDocument found.0 docs.each)

bulk_held : (n : List ℕ) (ms : List (List ℕ × Tree)) → form_of name.Bulk n ≡ Some form.Documents → first_bad name.Bulk ms ≡ None → AreKept ms
    → is_some (member_at ms n) ≡ true → AreDocuments (or_else [] documents_in ms n)
bulk_held n ms is good lines there =
    let found = some_is (member_at ms n) there in
    subst (λ o. AreDocuments (unwrap_or (option_and_then documents_in o) [])) (sym found.1)
    (bulk_is found.0 (held name.Bulk n form.Documents ms found.0 good is found.1) (kept_at n ms found.0 lines found.1))

kept_id : (text : List ℕ) (b : Bool) → is_some (cond b (Some text) None) ≡ true → (b ≡ true → IsDocumentId text) → IsDocumentId text
kept_id text true e h = h refl
kept_id text false e h = absurd (cc)

text_is : (o : Option (List ℕ)) → is_some (kept_if is_document_id o) ≡ true → IsDocumentId (unwrap_or o [])
text_is None e = absurd (cc)
text_is (Some text) e = kept_id text (is_document_id text) e (lengths (length text))

-- ---- the id of a document that is indexed

id_held : (ms : List (List ℕ × Tree)) → first_bad name.Index ms ≡ None → is_some (member_at ms (codes "id")) ≡ true → IsDocumentId (or_else [] text_in ms (codes "id"))
id_held ms good there =
    let found = some_is (member_at ms (codes "id")) there in
    subst (λ o. IsDocumentId (unwrap_or (option_and_then text_in o) [])) (sym found.1)
    (text_is (text_in found.0) (held name.Index (codes "id") form.DocumentId ms found.0 good refl found.1))

-- ---- texts

short_text : (t : Tree) (o : Option (List ℕ)) → text_in t ≡ o → IsKept t → IsShort (unwrap_or o [])
short_text t None is kept = omega arith
short_text t (Some text) is kept = text_short max_line t text kept.1 is

if_short : (t : Tree) (o : Option (List ℕ)) → text_in t ≡ o → IsKept t → IfSome o IsShort
if_short t None is kept = tt
if_short t (Some text) is kept = text_short max_line t text kept.1 is

text_held : (n : List ℕ) (ms : List (List ℕ × Tree)) (o : Option Tree) → member_at ms n ≡ o → AreKept ms → IsShort (unwrap_or (option_and_then text_in o) [])
text_held n ms None at lines = omega arith
text_held n ms (Some t) at lines = short_text t (text_in t) refl (kept_at n ms t lines at)

text_optional : (n : List ℕ) (ms : List (List ℕ × Tree)) (o : Option Tree) → member_at ms n ≡ o → AreKept ms → IfSome (option_and_then text_in o) IsShort
text_optional n ms None at lines = tt
text_optional n ms (Some t) at lines = if_short t (text_in t) refl (kept_at n ms t lines at)

index_short : (ms : List (List ℕ × Tree)) → AreKept ms → IsShort (or_else [] text_in ms (codes "index"))
index_short ms lines = text_held (codes "index") ms (member_at ms (codes "index")) refl lines

id_short : (ms : List (List ℕ × Tree)) → AreKept ms → IsShort (or_else [] text_in ms (codes "id"))
id_short ms lines = text_held (codes "id") ms (member_at ms (codes "id")) refl lines

-- ---- commands

all_there : (ms : List (List ℕ × Tree)) (ws : List Member) → first_absent ms ws ≡ None → AllByRecursion (λ w. is_some (member_at ms w.0) ≡ true) ws
all_there ms [] e = tt
all_there ms (w ∷ ws) e = let here = both (is_some (member_at ms w.0)) (first_absent ms ws) w.0 e in (here.0, all_there ms ws here.1)

abbrev Complete : Name → List (List ℕ × Tree) → Type 0
Complete op ms = first_absent ms (required op) ≡ None

op_formed : (op : Name) (ms : List (List ℕ × Tree)) → Complete op ms → first_bad op ms ≡ None → AreKept ms → IsFormedOp (op_of op (members_of ms))
op_formed name.CreateIndex ms complete good lines =
    let there = all_there ms (required name.CreateIndex) complete in
    (index_short ms lines, object_held name.CreateIndex (codes "mappings") ms refl good lines there.1.0, number_is (member_at ms (codes "shards")) (λ t e. (kept_at (codes "shards") ms t lines e).0), text_optional (codes "stamp") ms (member_at ms (codes "stamp")) refl lines)
op_formed name.Index ms complete good lines =
    let there = all_there ms (required name.Index) complete in
    (index_short ms lines, id_held ms good there.1.0, object_held name.Index (codes "doc") ms refl good lines there.0)
op_formed name.Bulk ms complete good lines =
    (index_short ms lines, bulk_held (codes "docs") ms refl good lines (all_there ms (required name.Bulk) complete).0)
op_formed name.PutTransform ms complete good lines =
    (id_short ms lines, object_held name.PutTransform (codes "config") ms refl good lines (all_there ms (required name.PutTransform) complete).0)
op_formed name.Delete ms complete good lines = id_short ms lines
op_formed name.Start ms complete good lines = id_short ms lines
op_formed name.Stop ms complete good lines = id_short ms lines
op_formed name.Reset ms complete good lines = id_short ms lines
op_formed name.ScheduleNow ms complete good lines = id_short ms lines
op_formed name.Step ms complete good lines = id_short ms lines
op_formed name.Await ms complete good lines =
    let range = ranged 0 9223372036854775807 0 (member_at ms (codes "checkpoint")) (omega arith) (omega arith) in (id_short ms lines, omega (arith, range.1))
op_formed name.Settle ms complete good lines = tt
op_formed name.Search ms complete good lines =
    let range = ranged 1 1000 10 (member_at ms (codes "size")) (omega arith) (omega arith) in
    (index_short ms lines, range.0, range.1, array_held name.Search (codes "after") ms (member_at ms (codes "after")) refl refl good lines)
op_formed name.Stats ms complete good lines = id_short ms lines
op_formed name.Preview ms complete good lines =
    object_held name.Preview (codes "config") ms refl good lines (all_there ms (required name.Preview) complete).0

pub formed : (line : ℕ) (op : Name) (ms : List (List ℕ × Tree)) → Complete op ms → first_bad op ms ≡ None → AreKept ms
    → IsFormed (parts_from line op (members_of ms))
formed line op ms complete good lines =
    ((ranged 0 7 0 (member_at ms (codes "lane")) (omega arith) (omega arith)).1, op_formed op ms complete good lines)
