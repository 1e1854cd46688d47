-- The mapping that gathered fields make.
use Rattle.std.proofs.Common.{◌≡◌, ℕ, Bool, true, false, cond, ◌||◌, List, [], ◌∷◌, ◌++◌, Option, Some, None, sym, ap, ap₂, ◌∙◌, refl, append_assoc}
use Rattle.std.specs.Prelude.{not, is_some}
use Rattle.std.specs.BTreeMap.{is_at}
use Rattle.std.specs.Cmp.Lexicographic.{slice_cmp, nat_list_eq_equiv}
use Rattle.std.specs.declared.cmp.Ordering.{Ordering}
use Rattle.std.specs.declared.cmp.Ordering.TheVariants.{Less, Equal, Greater}
use Rattle.std.specs.List.{fold}
use Rattle.std.specs.Map.{lookup}
use Rattle.std.specs.Ordering.{nat_cmp, is_eq, match_ordering}
use Rattle.std.specs.Str.{bytes_eq}
use Rattle.std.proofs.lemmas.List.{append-nil}
use Rattle.std.proofs.lemmas.Map.Lookups.{exact_bytes}
use Rattle.std.proofs.lemmas.Map.Text.{is_eq-slice_cmp}
use Rattle.tf_model.specs.declared.query.FieldType.{FieldType}
use Rattle.tf_model.specs.Names.{is_field_path}
use Rattle.tf_mapping.specs.declared.gathered.Gathered.{Gathered}
use Rattle.tf_mapping.specs.Least.{lesser_text, least_text, is_one_of}
use Rattle.tf_mapping.specs.Leaves.{Leaf}
use Rattle.tf_mapping.specs.Settings.{has}
use Rattle.tf_mapping.specs.Mappings.{Field, names, ill_named, ill_typed, put, again, if_named, if_typed}
use Rattle.tf_mapping.proofs.LeastLaws.{least_there, not_none}
use Rattle.tf_mapping.specs.Gathering.{gather, nothing_gathered, reading_named, reading_gathered, name_if, again_among}

-- ---- gathering
abbrev kept : Gathered → Leaf → Gathered
kept g leaf = record { ill_named = g.ill_named; fields = g.fields ++ leaf ∷ [] }

abbrev left_out : Gathered → Leaf → Gathered
left_out g leaf = record { ill_named = lesser_text g.ill_named leaf.0; fields = g.fields }

ill_by : (b : Bool) (g : Gathered) (leaf : Leaf) (leaves : List Leaf) → ((h : Gathered) → (fold gather h leaves).ill_named ≡ fold lesser_text h.ill_named (ill_named leaves))
    → (fold gather (cond b (kept g leaf) (left_out g leaf)) leaves).ill_named ≡ fold lesser_text g.ill_named (cond (not b) (leaf.0 ∷ ill_named leaves) (ill_named leaves))
ill_by true g leaf leaves later = later (kept g leaf)
ill_by false g leaf leaves later = later (left_out g leaf)

ill_gathered : (g : Gathered) (leaves : List Leaf) → (fold gather g leaves).ill_named ≡ fold lesser_text g.ill_named (ill_named leaves)
ill_gathered g [] = refl
ill_gathered g (leaf ∷ leaves) = ill_by (is_field_path leaf.0) g leaf leaves (λ h. ill_gathered h leaves)

kept_by : (b : Bool) (g : Gathered) (leaf : Leaf) (leaves : List Leaf) → ((h : Gathered) → (fold gather h leaves).ill_named ≡ None → (fold gather h leaves).fields ≡ h.fields ++ leaves)
    → (fold gather (cond b (kept g leaf) (left_out g leaf)) leaves).ill_named ≡ None → (fold gather (cond b (kept g leaf) (left_out g leaf)) leaves).fields ≡ g.fields ++ leaf ∷ leaves
kept_by true g leaf leaves later none = later (kept g leaf) none ∙ append_assoc g.fields (leaf ∷ []) leaves
kept_by false g leaf leaves later none =
    absurd (not_none (fold lesser_text (lesser_text g.ill_named leaf.0) (ill_named leaves)) (least_there g.ill_named leaf.0 (ill_named leaves)) (sym (ill_gathered (left_out g leaf) leaves) ∙ none))

all_kept : (g : Gathered) (leaves : List Leaf) → (fold gather g leaves).ill_named ≡ None → (fold gather g leaves).fields ≡ g.fields ++ leaves
all_kept g [] none = sym (append-nil g.fields)
all_kept g (leaf ∷ leaves) none = kept_by (is_field_path leaf.0) g leaf leaves (λ h. all_kept h leaves) none

read_by : (stamp : Option (List ℕ)) (leaves : List Leaf) (o : Option (List ℕ)) → (fold gather nothing_gathered leaves).ill_named ≡ o
    → reading_named stamp (fold gather nothing_gathered leaves).fields o ≡ if_named stamp leaves o
read_by stamp leaves (Some name) is = refl
read_by stamp leaves None is = ap (λ fields. if_typed stamp fields (least_text (ill_typed fields))) (all_kept nothing_gathered leaves is)

pub gathered_reads : (stamp : Option (List ℕ)) (leaves : List Leaf) → reading_gathered stamp (fold gather nothing_gathered leaves) ≡ if_named stamp leaves (least_text (ill_named leaves))
gathered_reads stamp leaves =
    let is : (fold gather nothing_gathered leaves).ill_named ≡ least_text (ill_named leaves) = ill_gathered nothing_gathered leaves in
    ap (reading_named stamp (fold gather nothing_gathered leaves).fields) is ∙ read_by stamp leaves (least_text (ill_named leaves)) is

-- ---- names that come again
same_or : (a b : Bool) → (a || b) ≡ (a || (a || b))
same_or true b = refl
same_or false b = refl

swap_or : (a b c : Bool) → (a || (b || c)) ≡ (b || (a || c))
swap_or true true c = refl
swap_or true false c = refl
swap_or false true c = refl
swap_or false false c = refl

-- the fields with one put where the order says
abbrev placed : Ordering → Field → List Field → Field → List Field
placed o f fields field = match_ordering o ((field.0, field.1) ∷ f ∷ fields) ((f.0, field.1) ∷ fields) (f ∷ put fields field)

has_placed : (o : Ordering) (name : List ℕ) (f : Field) (fields : List Field) (field : Field) → slice_cmp nat_cmp field.0 f.0 ≡ o
    → has name (put fields field) ≡ (bytes_eq field.0 name || has name fields) → has name (placed o f fields field) ≡ (bytes_eq field.0 name || has name (f ∷ fields))
has_placed Less name f fields field is later = refl
has_placed Equal name f fields field is later =
    same_or (bytes_eq f.0 name) (has name fields) ∙ ap (λ (n : List ℕ). bytes_eq n name || (bytes_eq f.0 name || has name fields)) (sym (exact_bytes field.0 f.0 is))
has_placed Greater name f fields field is later = ap (λ rest. bytes_eq f.0 name || rest) later ∙ swap_or (bytes_eq f.0 name) (bytes_eq field.0 name) (has name fields)

pub has_put : (name : List ℕ) (fields : List Field) (field : Field) → has name (put fields field) ≡ (bytes_eq field.0 name || has name fields)
has_put name [] field = refl
has_put name (f ∷ fields) field = has_placed (slice_cmp nat_cmp field.0 f.0) name f fields field refl (has_put name fields field)

told : (b : Bool) (name : List ℕ) (rest : List (List ℕ)) → (name_if b name ++ rest) ≡ cond b (name ∷ rest) rest
told true name rest = refl
told false name rest = refl

again_by_names : (before : List Field) (names_before : List (List ℕ)) → ((name : List ℕ) → has name before ≡ is_one_of names_before name)
    → (fields : List Field) → again_among before fields ≡ again names_before (names fields)
again_by_names before names_before same [] = refl
again_by_names before names_before same (field ∷ fields) =
    let later = again_by_names (put before field) (field.0 ∷ names_before) (λ name. has_put name before field ∙ ap (λ rest. bytes_eq field.0 name || rest) (same name)) fields in
    ap₂ (λ (b : Bool) (rest : List (List ℕ)). name_if b field.0 ++ rest) (same field.0) later
    ∙ told (is_one_of names_before field.0) field.0 (again (field.0 ∷ names_before) (names fields))

pub again_reads : (fields : List Field) → least_text (again_among [] fields) ≡ least_text (again [] (names fields))
again_reads fields = ap least_text (again_by_names [] [] (λ name. refl) fields)

-- ---- a name among fields
found_if : (b : Bool) (kind : FieldType) (rest : Option FieldType) → is_some (cond b (Some kind) rest) ≡ (b || is_some rest)
found_if true kind rest = refl
found_if false kind rest = refl

pub found_by_name : (name : List ℕ) (fields : List Field) → is_some (lookup (is_at (slice_cmp nat_cmp name)) fields) ≡ has name fields
found_by_name name [] = refl
found_by_name name (f ∷ fields) =
    found_if (is_eq (slice_cmp nat_cmp name f.0)) f.1 (lookup (is_at (slice_cmp nat_cmp name)) fields)
    ∙ ap₂ (λ a b. a || b) (is_eq-slice_cmp name f.0 ∙ nat_list_eq_equiv.symm name f.0) (found_by_name name fields)
