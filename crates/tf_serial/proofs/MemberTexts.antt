-- A text that a mapping finds in a tree with a spelling has a spelling itself.
use Rattle.std.proofs.Common.{◌≡◌, ℕ, ℤ, ◌<◌, ◌^◌, Bool, true, false, cond, List, [], ◌∷◌, ◌++◌, map, filter, flat_map, length, Option, Some, None, Ok, Err, IsUtf8, refl, sym, ap, ◌∙◌, subst, arith, append_assoc, append-nil, length-append}
use Rattle.std.specs.Prelude.{Result, filter_map}
use Rattle.std.specs.List.{AllByRecursion, cons_option}
use Rattle.std.specs.Option.{option_and_then, option_map}
use Rattle.std.specs.Result.{result_ok}
use Rattle.std.specs.Str.{bytes_eq, is_utf8}
use Rattle.std.proofs.lemmas.Str.{IsUtf8-from_is_utf8}
use Rattle.serde_json.specs.Data.{Data}
use Rattle.serde_json.specs.Read.{read}
use Rattle.tf_json.specs.Reading.{not_json, tree as read_as, reading_of}
use Rattle.tf_model.specs.declared.query.FieldType.{FieldType}
use Rattle.tf_model.specs.declared.query.FieldType.TheVariants as type
use Rattle.tf_model.specs.declared.tree.Tree.{Tree, out-Tree, map-Tree, roll-Tree, roll-out-Tree, fold-roll-Tree}
use Rattle.tf_model.specs.declared.tree.Tree.TheFolds.{ind-Tree}
use Rattle.tf_model.specs.declared.tree.Tree.TheOpen.{Tree-F}
use Rattle.tf_model.specs.declared.tree.Tree.TheVariants as t
use Rattle.tf_model.specs.declared.value.Value.{Value}
use Rattle.tf_model.specs.declared.value.Value.TheVariants as value
use Rattle.tf_model.specs.Print.{comma_if, escaped, listed, quoted, paired, text_step, printed, printed_member}
use Rattle.tf_model.specs.Trees.{number_in, text_in, text_level, truth_in}
use Rattle.tf_model.specs.Values.{value_at}
use Rattle.tf_time.specs.Dates.{date_of, is_date}
use Rattle.tf_time.specs.declared.date.DateError.{DateError}
use Rattle.tf_time.specs.declared.date.DateError.TheVariants as fault
use Rattle.tf_event.specs.Trees.{FitsTree}
use Rattle.tf_history.specs.Catalogue.{SourceIndex, values_in}
use Rattle.tf_mapping.specs.declared.error.DocError.{DocError}
use Rattle.tf_mapping.specs.declared.error.DocError.TheVariants as error
use Rattle.tf_mapping.specs.Documents.{date_by, date_text, long_in, ok_map, typed, value_beside, value_by, value_found, value_from, value_in, values_of}
use Rattle.tf_mapping.specs.Scalars.{Place, Seen, at_path, many, nothing, one, path_in, scalar_at, scalars_at, scalars_in, seen_in}
use Rattle.tf_mapping.proofs.ScalarLaws.{scalars_arr, scalars_bool, scalars_null, scalars_num, scalars_obj, scalars_str}
use Rattle.tf_core.specs.Texts.{IsShort}
use Rattle.tf_serial.proofs.SplitTexts.{before_ascii, behind_ascii, escapes_longer, text_of_escapes}

by_either : {A : Type 0} (b : Bool) → (b ≡ true → A) → (b ≡ false → A) → A
by_either true f g = f refl
by_either false f g = g refl

-- ---- one level of a printed tree
printed_level : (t : Tree) → printed t ≡ text_step (map-Tree Tree (List ℕ) printed (out-Tree t))
printed_level t = ap printed (sym (roll-out-Tree t)) ∙ fold-roll-Tree (List ℕ) text_step (out-Tree t)

quoted_text : (x : Tree-F Tree) (text : List ℕ) → text_level x ≡ Some text → text_step (map-Tree Tree (List ℕ) printed x) ≡ quoted text
quoted_text Tree-F.Null text e = absurd (cc)
quoted_text (Tree-F.Bool b) text e = absurd (cc)
quoted_text (Tree-F.Num z) text e = absurd (cc)
quoted_text (Tree-F.Str s) text e = let same : s ≡ text = cc in ap quoted same
quoted_text (Tree-F.Arr items) text e = absurd (cc)
quoted_text (Tree-F.Obj members) text e = absurd (cc)

printed_text : (t : Tree) (text : List ℕ) → text_in t ≡ Some text → printed t ≡ quoted text
unfolding text_in
printed_text t text e = printed_level t ∙ quoted_text (out-Tree t) text e

printed_arr : (items : List Tree) → printed (t.Arr items) ≡ 91 ∷ listed false (map printed items)
printed_arr items = ap printed (sym (t.rolls-Arr items)) ∙ fold-roll-Tree (List ℕ) text_step (Tree-F.Arr items)

printed_obj : (members : List (List ℕ × Tree)) → printed (t.Obj members) ≡ 123 ∷ paired false (map printed_member members)
printed_obj members = ap printed (sym (t.rolls-Obj members)) ∙ fold-roll-Tree (List ℕ) text_step (Tree-F.Obj members)

-- ---- where a scalar is printed
record IsWithin (part whole : List ℕ) : Type 0 where
  pub before : List ℕ
  pub later : List ℕ
  pub is : whole ≡ before ++ (part ++ later)

itself : (whole : List ℕ) → IsWithin whole whole
itself whole = record { before = []; later = []; is = sym (append-nil whole) }

-- both parts of a part are within the whole
split : (a b whole : List ℕ) → IsWithin (a ++ b) whole → IsWithin a whole × IsWithin b whole
split a b whole w = (
  record { before = w.before; later = b ++ w.later; is = w.is ∙ ap (λ l. w.before ++ l) (append_assoc a b w.later) },
  record { before = w.before ++ a; later = w.later; is = w.is ∙ (ap (λ l. w.before ++ l) (append_assoc a b w.later) ∙ sym (append_assoc w.before a (b ++ w.later))) },
)

all_append : {X : Type 0} (P : X → Type 0) (xs ys : List X) → AllByRecursion P xs → AllByRecursion P ys → AllByRecursion P (xs ++ ys)
all_append P [] ys a b = b
all_append P (x ∷ xs) ys a b = (a.0, all_append P xs ys a.1 b)

-- a scalar whose text is within a whole one
abbrev InWhole : List ℕ → List ℕ × Tree → Type 0
InWhole whole s = IsWithin (printed s.1) whole

-- so are the scalars of a tree whose text is
abbrev AllWithin : Tree → Type 0
AllWithin tree = (whole : List ℕ) → IsWithin (printed tree) whole → (place : Place) → AllByRecursion (InWhole whole) (scalars_in tree place)

abbrev Known : Type 0
Known = (tree : Tree) × AllWithin tree

abbrev known_member : List ℕ × Known → List ℕ × Tree
known_member m = (m.0, m.1.0)

leaf_within : (tree : Tree) (whole : List ℕ) → IsWithin (printed tree) whole → (place : Place) → AllByRecursion (InWhole whole) (scalar_at tree place)
leaf_within tree whole w None = tt
leaf_within tree whole w (Some path) = (w, tt)

items_within : (whole : List ℕ) (place : Place) (later : Bool) (items : List Known) → IsWithin (listed later (map printed (map (λ (e : Known). e.0) items))) whole
    → AllByRecursion (InWhole whole) (flat_map (λ item. scalars_in item place) (map (λ (e : Known). e.0) items))
items_within whole place later [] w = tt
items_within whole place later (e ∷ items) w =
    let rest = listed true (map printed (map (λ (e : Known). e.0) items)) in
    let parts = split (printed e.0) rest whole (split (comma_if later) (printed e.0 ++ rest) whole w).1 in
    all_append (InWhole whole) (scalars_in e.0 place) (flat_map (λ item. scalars_in item place) (map (λ (e : Known). e.0) items)) (e.1 whole parts.0 place) (items_within whole place true items parts.1)

members_within : (whole : List ℕ) (place : Place) (later : Bool) (members : List (List ℕ × Known)) → IsWithin (paired later (map printed_member (map known_member members))) whole
    → AllByRecursion (InWhole whole) (flat_map (λ m. scalars_in m.1 (Some (path_in place m.0))) (map known_member members))
members_within whole place later [] w = tt
members_within whole place later (m ∷ members) w =
    let rest = paired true (map printed_member (map known_member members)) in
    let named = split (quoted m.0) (58 ∷ (printed m.1.0 ++ rest)) whole (split (comma_if later) (quoted m.0 ++ 58 ∷ (printed m.1.0 ++ rest)) whole w).1 in
    let parts = split (printed m.1.0) rest whole (split (58 ∷ []) (printed m.1.0 ++ rest) whole named.1).1 in
    all_append (InWhole whole) (scalars_in m.1.0 (Some (path_in place m.0))) (flat_map (λ m. scalars_in m.1 (Some (path_in place m.0))) (map known_member members))
    (m.1.1 whole parts.0 (Some (path_in place m.0))) (members_within whole place true members parts.1)

within_step : (y : Tree-F Known) → AllWithin (roll-Tree (map-Tree Known Tree (λ (e : Known). e.0) y))
within_step Tree-F.Null = subst AllWithin (sym t.rolls-Null) (λ whole w place. subst (AllByRecursion (InWhole whole)) (sym (scalars_null place)) tt)
within_step (Tree-F.Bool b) = subst AllWithin (sym (t.rolls-Bool b)) (λ whole w place. subst (AllByRecursion (InWhole whole)) (sym (scalars_bool b place)) (leaf_within (t.Bool b) whole w place))
within_step (Tree-F.Num n) = subst AllWithin (sym (t.rolls-Num n)) (λ whole w place. subst (AllByRecursion (InWhole whole)) (sym (scalars_num n place)) (leaf_within (t.Num n) whole w place))
within_step (Tree-F.Str s) = subst AllWithin (sym (t.rolls-Str s)) (λ whole w place. subst (AllByRecursion (InWhole whole)) (sym (scalars_str s place)) (leaf_within (t.Str s) whole w place))
within_step (Tree-F.Arr items) =
    let trees : List Tree = map (λ (e : Known). e.0) items in
    subst AllWithin (sym (t.rolls-Arr trees)) (λ whole w place.
    subst (AllByRecursion (InWhole whole)) (sym (scalars_arr trees place))
    (items_within whole place false items (split (91 ∷ []) (listed false (map printed trees)) whole (subst (λ l. IsWithin l whole) (printed_arr trees) w)).1))
within_step (Tree-F.Obj members) =
    let trees : List (List ℕ × Tree) = map known_member members in
    subst AllWithin (sym (t.rolls-Obj trees)) (λ whole w place.
    subst (AllByRecursion (InWhole whole)) (sym (scalars_obj trees place))
    (members_within whole place false members (split (123 ∷ []) (paired false (map printed_member trees)) whole (subst (λ l. IsWithin l whole) (printed_obj trees) w)).1))

all_within : (tree : Tree) → AllWithin tree
all_within = ind-Tree AllWithin (λ x y is. subst (λ z. AllWithin (roll-Tree z)) is (within_step y))

-- the scalars at a path
at_within : (whole path : List ℕ) (scalars : List (List ℕ × Tree)) → AllByRecursion (InWhole whole) scalars → AllByRecursion (λ s. IsWithin (printed s) whole) (at_path path scalars)
at_within whole path [] all = tt
at_within whole path (s ∷ scalars) all =
    elim (bytes_eq path s.0) as (λ b. AllByRecursion (λ s. IsWithin (printed s) whole) (map (λ (s : List ℕ × Tree). s.1) (cond b (s ∷ filter (λ (s : List ℕ × Tree). bytes_eq path s.0) scalars) (filter (λ (s : List ℕ × Tree). bytes_eq path s.0) scalars)))) [
      | true ↦ (all.0, at_within whole path scalars all.1)
      | false ↦ at_within whole path scalars all.1
    ]

seen_within : (whole : List ℕ) (scalars : List Tree) (scalar : Tree) → AllByRecursion (λ s. IsWithin (printed s) whole) scalars → seen_in scalars ≡ one scalar → IsWithin (printed scalar) whole
seen_within whole [] scalar all e = absurd (let z : nothing ≡ one scalar = e in cc)
seen_within whole (s ∷ []) scalar all e = let same : s ≡ scalar = cc in subst (λ x. IsWithin (printed x) whole) same all.0
seen_within whole (s ∷ other ∷ more) scalar all e = absurd (let z : many ≡ one scalar = e in cc)

-- ---- the printed tree is a text
text_if : (b : Bool) (o : Option Data) (t : Tree) → reading_of (cond b o None) ≡ read_as t → b ≡ true
text_if true o t e = refl
text_if false o t e = absurd (let wrong : not_json ≡ read_as t = e in cc)

printed_utf8 : (t : Tree) → FitsTree t → IsUtf8 (printed t)
printed_utf8 t fits = IsUtf8-from_is_utf8 (printed t) (text_if (is_utf8 (printed t)) (read (printed t)) t fits.read)

quoted_is_short : (text whole : List ℕ) → length whole < 2 ^ 32 → IsUtf8 whole → IsWithin (quoted text) whole → IsShort text
quoted_is_short text whole short u w =
    let escapes = flat_map escaped text in
    let cut : whole ≡ w.before ++ 34 ∷ (escapes ++ 34 ∷ w.later) = w.is ∙ ap (λ l. w.before ++ 34 ∷ l) (append_assoc escapes (34 ∷ []) w.later) in
    let behind : IsUtf8 (escapes ++ 34 ∷ w.later) = behind_ascii w.before (escapes ++ 34 ∷ w.later) 34 (omega arith) (subst IsUtf8 cut u) in (
      omega (arith, short, escapes_longer text, ap length cut, length-append w.before (34 ∷ (escapes ++ 34 ∷ w.later)), length-append escapes (34 ∷ w.later)),
      text_of_escapes text (before_ascii escapes w.later 34 (omega arith) behind),
    )

-- ---- a text that is the value of a field
record IsTextAt (tree : Tree) (text : List ℕ) (seen : Seen) : Type 0 where
  pub scalar : Tree
  pub seen_is : seen ≡ one scalar
  pub text_is : text_in scalar ≡ Some text

typed_text : (field text : List ℕ) (o : Option (List ℕ)) → typed field (option_map value.Str o) ≡ Ok (value.Str text) → o ≡ Some text
typed_text field text None e = absurd (cc)
typed_text field text (Some s) e = let same : s ≡ text = cc in ap Some same

no_number : (field text : List ℕ) (o : Option ℤ) → typed field (option_map value.Int o) ≡ Ok (value.Str text) → ⊥
no_number field text None e = absurd (cc)
no_number field text (Some n) e = absurd (cc)

no_truth : (field text : List ℕ) (o : Option Bool) → typed field (option_map value.Bool o) ≡ Ok (value.Str text) → ⊥
no_truth field text None e = absurd (cc)
no_truth field text (Some b) e = absurd (cc)

no_moment : (field text : List ℕ) (ms : ℤ) (b : Bool) → cond b (Ok (value.Date ms)) (Err (error.OutOfRange field)) ≡ Ok (value.Str text) → ⊥
no_moment field text ms true e = absurd (cc)
no_moment field text ms false e = absurd (cc)

no_date_text : (field text : List ℕ) (r : Result ℤ DateError) → date_text field r ≡ Ok (value.Str text) → ⊥
no_date_text field text (Ok ms) e = absurd (cc)
no_date_text field text (Err fault.NotADate) e = absurd (cc)
no_date_text field text (Err fault.OutOfRange) e = absurd (cc)

no_date : (field text : List ℕ) (n : Option ℤ) (s : Option (List ℕ)) → date_by field n s ≡ Ok (value.Str text) → ⊥
no_date field text (Some ms) s e = no_moment field text ms (is_date ms) e
no_date field text None (Some s) e = no_date_text field text (date_of s) e
no_date field text None None e = absurd (cc)

by_kind : (kind : FieldType) (field text : List ℕ) (s : Tree) → value_by kind field s ≡ Ok (value.Str text) → text_in s ≡ Some text
by_kind type.Keyword field text s e = typed_text field text (text_in s) e
by_kind type.Long field text s e = absurd (no_number field text (long_in s) e)
by_kind type.Boolean field text s e = absurd (no_truth field text (truth_in s) e)
by_kind type.Date field text s e = absurd (no_date field text (number_in s) (text_in s) e)

unwrapped : (text : List ℕ) (r : Result Value DocError) → ok_map Some r ≡ Ok (Some (value.Str text)) → r ≡ Ok (value.Str text)
unwrapped text (Ok v) e = let same : v ≡ value.Str text = cc in ap Ok same
unwrapped text (Err refusal) e = absurd (cc)

text_at : (tree : Tree) (kind : FieldType) (field text : List ℕ) (seen : Seen) → value_from kind field seen ≡ Ok (Some (value.Str text)) → IsTextAt tree text seen
text_at tree kind field text nothing e = absurd (cc)
text_at tree kind field text (one s) e = record { scalar = s; seen_is = refl; text_is = by_kind kind field text s (unwrapped text (value_by kind field s) e) }
text_at tree kind field text many e = absurd (cc)

found_ok : (text : List ℕ) (r : Result (Option Value) DocError) → option_and_then (λ v. v) (result_ok r) ≡ Some (value.Str text) → r ≡ Ok (Some (value.Str text))
found_ok text (Ok None) e = absurd (cc)
found_ok text (Ok (Some v)) e = let same : v ≡ value.Str text = cc in ap (λ v. Ok (Some v)) same
found_ok text (Err refusal) e = absurd (cc)

-- a text that a mapping finds in a tree is short
found_is_short : (tree : Tree) → FitsTree tree → (field : List ℕ × FieldType) (text : List ℕ) → value_found tree field ≡ Some (value.Str text) → IsShort text
found_is_short tree fits field text e =
    let at = text_at tree field.1 field.0 text (seen_in (scalars_at field.0 tree)) (found_ok text (value_in tree field) e) in
    let w = seen_within (printed tree) (scalars_at field.0 tree) at.scalar (at_within (printed tree) field.0 (scalars_in tree None) (all_within tree (printed tree) (itself (printed tree)) None)) at.seen_is in
    quoted_is_short text (printed tree) fits.text (printed_utf8 tree fits) (subst (λ l. IsWithin l (printed tree)) (printed_text at.scalar text at.text_is) w)

by_value : (P : Type 0) (tree : Tree) (field : List ℕ × FieldType) (rest : List (List ℕ × Value)) (name text : List ℕ) (o : Option Value) → value_found tree field ≡ o
    → value_at (cons_option (option_map (λ v. (field.0, v)) o) rest) name ≡ Some (value.Str text) → (value_found tree field ≡ Some (value.Str text) → P) → (value_at rest name ≡ Some (value.Str text) → P) → P
by_value P tree field rest name text None is e here later = later e
by_value P tree field rest name text (Some v) is e here later =
    by_either (bytes_eq field.0 name)
    (λ same_name. let found : Some v ≡ Some (value.Str text) = sym (ap (λ b. cond b (Some v) (value_at rest name)) same_name) ∙ e in here (is ∙ found))
    (λ other. later (sym (ap (λ b. cond b (Some v) (value_at rest name)) other) ∙ e))

values_short : (tree : Tree) → FitsTree tree → (fields : List (List ℕ × FieldType)) (name text : List ℕ) → value_at (filter_map (value_beside tree) fields) name ≡ Some (value.Str text) → IsShort text
values_short tree fits [] name text e = absurd (let z : ◌≡◌ {A = Option Value} None (Some (value.Str text)) = e in cc)
values_short tree fits (field ∷ fields) name text e =
    by_value (IsShort text) tree field (filter_map (value_beside tree) fields) name text (value_found tree field) refl e (λ found. found_is_short tree fits field text found) (λ rest. values_short tree fits fields name text rest)

-- so are the texts of a document that an index reads from a tree
pub read_is_short : (tree : Tree) → FitsTree tree → (o : Option SourceIndex) (name text : List ℕ) → value_at (values_in values_of o tree) name ≡ Some (value.Str text) → IsShort text
unfolding values_of
read_is_short tree fits None name text e = absurd (let z : ◌≡◌ {A = Option Value} None (Some (value.Str text)) = e in cc)
read_is_short tree fits (Some s) name text e = values_short tree fits s.mapping.fields name text e
