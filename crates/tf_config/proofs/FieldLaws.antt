-- The fields of sources ascend by name, and each has the type that the first source with it gives.
use Rattle.std.proofs.Common.{◌≡◌, ℕ, Bool, true, false, cond, ◌||◌, List, [], ◌∷◌, ◌++◌, Option, Some, None, refl, sym, ap, subst, ◌∙◌}
use Rattle.std.specs.Prelude.{is_some, ⊤, IfSome, IsSomeAnd}
use Rattle.std.specs.Cmp.Lexicographic.{slice_cmp, nat_list_eq_equiv}
use Rattle.std.specs.declared.cmp.Ordering.{Ordering}
use Rattle.std.specs.declared.cmp.Ordering.TheVariants.{Less, Equal, Greater}
use Rattle.std.specs.List.{AllByRecursion, fold, flat_map, cons_option}
use Rattle.std.specs.List.Sorted.{IsStrictlySortedBy}
use Rattle.std.specs.Option.{option_or}
use Rattle.std.specs.Ordering.{nat_cmp, is_eq, match_ordering}
use Rattle.std.specs.Str.{bytes_eq}
use Rattle.std.proofs.lemmas.Map.Text.{is_eq-slice_cmp}
use Rattle.std.proofs.lemmas.Slice.Eq.{bytes_eq-Decides}
use Rattle.tf_model.specs.declared.config.Config.{Config}
use Rattle.tf_model.specs.declared.doc.Doc.{Doc}
use Rattle.tf_model.specs.declared.query.FieldType.{FieldType}
use Rattle.tf_model.specs.declared.query.Mapping.{Mapping}
use Rattle.tf_model.specs.declared.value.Value.{Value}
use Rattle.tf_model.specs.Values.{type_at, type_of, value_of}
use Rattle.tf_mapping.specs.Documents.{AreValues, FitsType}
use Rattle.tf_mapping.specs.Least.{is_one_of}
use Rattle.tf_mapping.specs.Mappings.{Field, names, put}
use Rattle.tf_mapping.specs.Settings.{has}
use Rattle.tf_mapping.proofs.MappingLaws.{sorted_put}
use Rattle.tf_config.specs.Catalogue.{Indices, mapping_named, mappings_of, types_in, first, type_in, put_new, fields_of}
use Rattle.tf_config.specs.Checks.{named_fields}
use Rattle.tf_config.specs.Laws.{HasOneType, HasNoOtherType, FieldsAreTyped}
use Rattle.tf_config.specs.Refusals.{passes}
use Rattle.tf_config.proofs.ClearLaws.{passes_clear}
use Rattle.tf_config.proofs.TypeLaws.{named_typed, of_one_type}

-- ---- a field more
abbrev one_field : Field → List ℕ → Option FieldType
one_field field q = cond (bytes_eq field.0 q) (Some field.1) None

same_name : (a b : List ℕ) → slice_cmp nat_cmp a b ≡ Equal → a ≡ b
same_name a b same = (bytes_eq-Decides a b).0 (sym (is_eq-slice_cmp a b) ∙ ap is_eq same)

apart : (a b : List ℕ) → slice_cmp nat_cmp a b ≡ Greater → bytes_eq a b ≡ false
apart a b other = sym (is_eq-slice_cmp a b) ∙ ap is_eq other

equal_put : (b : Bool) (t u : FieldType) (rest : Option FieldType) → cond b (Some t) rest ≡ cond b (Some t) (cond b (Some u) rest)
equal_put true t u rest = refl
equal_put false t u rest = refl

greater_put : (b c : Bool) (t u : FieldType) (rest : Option FieldType) → (b ≡ true → c ≡ true → ◌≡◌ {A = Option FieldType} (Some u) (Some t))
    → cond c (Some u) (cond b (Some t) rest) ≡ cond b (Some t) (cond c (Some u) rest)
greater_put true true t u rest same = same refl refl
greater_put true false t u rest same = refl
greater_put false c t u rest same = refl

never : (a b q : List ℕ) (A : Type 0) → slice_cmp nat_cmp a b ≡ Greater → bytes_eq a q ≡ true → bytes_eq b q ≡ true → A
never a b q A other first second =
    let same : a ≡ b = (bytes_eq-Decides a q).0 first ∙ sym ((bytes_eq-Decides b q).0 second) in
    let no : bytes_eq a b ≡ false = apart a b other in
    let yes : bytes_eq a b ≡ true = subst (λ x. bytes_eq a x ≡ true) same (nat_list_eq_equiv.refl a) in
    absurd (cc)

put_by : (o : Ordering) (f : Field) (fields : List Field) (field : Field) (q : List ℕ) → slice_cmp nat_cmp field.0 f.0 ≡ o
    → type_at (put fields field) q ≡ cond (bytes_eq field.0 q) (Some field.1) (type_at fields q)
    → type_at (match_ordering o ((field.0, field.1) ∷ f ∷ fields) ((f.0, field.1) ∷ fields) (f ∷ put fields field)) q ≡ cond (bytes_eq field.0 q) (Some field.1) (type_at (f ∷ fields) q)
put_by Less f fields field q is later = refl
put_by Equal f fields field q is later =
    equal_put (bytes_eq f.0 q) field.1 f.1 (type_at fields q)
    ∙ ap (λ name. cond (bytes_eq name q) (Some field.1) (type_at (f ∷ fields) q)) (sym (same_name field.0 f.0 is))
put_by Greater f fields field q is later =
    ap (λ rest. cond (bytes_eq f.0 q) (Some f.1) rest) later
    ∙ greater_put (bytes_eq field.0 q) (bytes_eq f.0 q) field.1 f.1 (type_at fields q) (λ here there. never field.0 f.0 q _ is here there)

put_types : (fields : List Field) (field : Field) (q : List ℕ) → type_at (put fields field) q ≡ cond (bytes_eq field.0 q) (Some field.1) (type_at fields q)
put_types [] field q = refl
put_types (f ∷ fields) field q = put_by (slice_cmp nat_cmp field.0 f.0) f fields field q refl (put_types fields field q)

-- ---- a field more, where none has its name
is_there : (b rest : Bool) (t : FieldType) (later : Option FieldType) → rest ≡ is_some later → (b || rest) ≡ is_some (cond b (Some t) later)
is_there true rest t later same = refl
is_there false rest t later same = same

has_type : (name : List ℕ) (fields : List Field) → has name fields ≡ is_some (type_at fields name)
has_type name [] = refl
has_type name (f ∷ fields) = is_there (bytes_eq f.0 name) (has name fields) f.1 (type_at fields name) (has_type name fields)

kept_before : (found : Option FieldType) (b : Bool) (t : FieldType) → (b ≡ true → is_some found ≡ true) → found ≡ option_or found (cond b (Some t) None)
kept_before (Some u) b t there = refl
kept_before None false t there = refl
kept_before None true t there = absurd (let no : false ≡ true = there refl in cc)

put_behind : (found : Option FieldType) (b : Bool) (t : FieldType) → (b ≡ true → is_some found ≡ false) → cond b (Some t) found ≡ option_or found (cond b (Some t) None)
put_behind None b t none = refl
put_behind (Some u) false t none = refl
put_behind (Some u) true t none = absurd (let no : true ≡ false = none refl in cc)

at_name : (fields : List Field) (field : Field) (q : List ℕ) (b : Bool) → has field.0 fields ≡ b → bytes_eq field.0 q ≡ true → is_some (type_at fields q) ≡ b
at_name fields field q b has_it same = subst (λ name. is_some (type_at fields name) ≡ b) ((bytes_eq-Decides field.0 q).0 same) (sym (has_type field.0 fields) ∙ has_it)

new_by : (b : Bool) (fields : List Field) (field : Field) (q : List ℕ) → has field.0 fields ≡ b → type_at (cond b fields (put fields field)) q ≡ option_or (type_at fields q) (one_field field q)
new_by true fields field q is = kept_before (type_at fields q) (bytes_eq field.0 q) field.1 (at_name fields field q true is)
new_by false fields field q is = put_types fields field q ∙ put_behind (type_at fields q) (bytes_eq field.0 q) field.1 (at_name fields field q false is)

new_types : (fields : List Field) (field : Field) (q : List ℕ) → type_at (put_new fields field) q ≡ option_or (type_at fields q) (one_field field q)
new_types fields field q = new_by (has field.0 fields) fields field q refl

-- ---- the fields of mappings
or_assoc : (a b c : Option FieldType) → option_or (option_or a b) c ≡ option_or a (option_or b c)
or_assoc None b c = refl
or_assoc (Some t) b c = refl

one_more : (b : Bool) (t : FieldType) (rest : Option FieldType) → option_or (cond b (Some t) None) rest ≡ cond b (Some t) rest
one_more true t rest = refl
one_more false t rest = refl

fold_types : (before fields : List Field) (q : List ℕ) → type_at (fold put_new before fields) q ≡ option_or (type_at before q) (type_at fields q)
fold_types before [] q = or_none (type_at before q)
  where
    or_none : (a : Option FieldType) → a ≡ option_or a None
    or_none None = refl
    or_none (Some t) = refl
fold_types before (field ∷ fields) q =
    fold_types (put_new before field) fields q ∙ ap (λ a. option_or a (type_at fields q)) (new_types before field q)
    ∙ or_assoc (type_at before q) (one_field field q) (type_at fields q) ∙ ap (option_or (type_at before q)) (one_more (bytes_eq field.0 q) field.1 (type_at fields q))

append_types : (xs ys : List Field) (q : List ℕ) → type_at (xs ++ ys) q ≡ option_or (type_at xs q) (type_at ys q)
append_types [] ys q = refl
append_types (x ∷ xs) ys q = ap (λ rest. cond (bytes_eq x.0 q) (Some x.1) rest) (append_types xs ys q) ∙ by (bytes_eq x.0 q) (type_at xs q)
  where
    by : (b : Bool) (o : Option FieldType) → cond b (Some x.1) (option_or o (type_at ys q)) ≡ option_or (cond b (Some x.1) o) (type_at ys q)
    by true o = refl
    by false o = refl

first_type : (o : Option FieldType) (rest : List FieldType) → option_or o (first rest) ≡ first (cons_option o rest)
first_type None rest = refl
first_type (Some t) rest = refl

all_types : (mappings : List Mapping) (q : List ℕ) → type_at (flat_map (λ (mapping : Mapping). mapping.fields) mappings) q ≡ type_in mappings q
unfolding type_of
all_types [] q = refl
all_types (mapping ∷ mappings) q =
    append_types mapping.fields (flat_map (λ (m : Mapping). m.fields) mappings) q ∙ ap (option_or (type_at mapping.fields q)) (all_types mappings q)
    ∙ first_type (type_at mapping.fields q) (types_in mappings q)

pub typed_fields : (indices : Indices) (sources : List (List ℕ)) (field : List ℕ) → type_of (fields_of indices sources) field ≡ type_in (mappings_of indices sources) field
unfolding fields_of type_of
typed_fields indices sources field =
    fold_types [] (flat_map (λ (mapping : Mapping). mapping.fields) (mappings_of indices sources)) field ∙ all_types (mappings_of indices sources) field

-- ---- they ascend
abbrev Ascend : List Field → Type 0
Ascend fields = IsStrictlySortedBy (slice_cmp nat_cmp) (names fields)

new_ascends : (b : Bool) (fields : List Field) (field : Field) → Ascend fields → Ascend (cond b fields (put fields field))
new_ascends true fields field ascend = ascend
new_ascends false fields field ascend = sorted_put fields field ascend

fold_ascends : (before fields : List Field) → Ascend before → Ascend (fold put_new before fields)
fold_ascends before [] ascend = ascend
fold_ascends before (field ∷ fields) ascend = fold_ascends (put_new before field) fields (new_ascends (has field.0 before) before field ascend)

none_ascend : Ascend []
unfolding IsStrictlySortedBy
none_ascend = tt

pub ascending_fields : (indices : Indices) (sources : List (List ℕ)) → Ascend (fields_of indices sources).fields
unfolding fields_of
ascending_fields indices sources = fold_ascends [] (flat_map (λ (mapping : Mapping). mapping.fields) (mappings_of indices sources)) none_ascend

pub fields_are_typed : FieldsAreTyped
fields_are_typed indices sources = (ascending_fields indices sources, typed_fields indices sources)

-- ---- the values of named fields
named_by : (b : Bool) (P : List ℕ → Type 0) (named field : List ℕ) (others : List (List ℕ)) → (b ≡ true → named ≡ field) → (b || is_one_of others field) ≡ true → P named
    → (is_one_of others field ≡ true → P field) → P field
named_by true P named field others same one here later = subst P (same refl) here
named_by false P named field others same one here later = later one

among_named : (P : List ℕ → Type 0) (fields : List (List ℕ)) (field : List ℕ) → is_one_of fields field ≡ true → AllByRecursion P fields → P field
among_named P [] field one all = absurd (cc)
among_named P (named ∷ fields) field one all =
    named_by (bytes_eq named field) P named field fields ((bytes_eq-Decides named field).0) one all.0 (λ later. among_named P fields field later all.1)

some_typed : (o : Option FieldType) (found : Option Value) (type : FieldType) → o ≡ Some type → IfSome found (FitsType type) → IfSome found (λ v. IsSomeAnd o (λ t. FitsType t v))
some_typed o None type is fits = tt
some_typed o (Some v) type is fits = subst (λ (t : Option FieldType). IsSomeAnd t (λ k. FitsType k v)) (sym is) fits

type_by : (indices : Indices) (sources : List (List ℕ)) (field : List ℕ) (o : Option FieldType) (A : FieldType → Type 0) → type_in (mappings_of indices sources) field ≡ o
    → IsSomeAnd o (λ type. ⊤ × A type) → IsSomeAnd (type_in (mappings_of indices sources) field) (λ type. (type_of (fields_of indices sources) field ≡ Some type) × A type)
type_by indices sources field None A is has = absurd has
type_by indices sources field (Some type) A is has =
    subst (λ (o : Option FieldType). IsSomeAnd o (λ t. (type_of (fields_of indices sources) field ≡ Some t) × A t)) (sym is) (typed_fields indices sources field ∙ is, has.1)

pub passing_has_types : (indices : Indices) (c : Config) (name : List ℕ) (mapping : Mapping) (d : Doc) (field : List ℕ) → passes indices c ≡ true
    → is_one_of c.sources name ≡ true → mapping_named indices name ≡ Some mapping → AreValues mapping d.values → is_one_of (named_fields c) field ≡ true
    → IfSome (value_of d field) (λ v. IsSomeAnd (type_of (fields_of indices c.sources) field) (λ type. FitsType type v))
unfolding value_of
passing_has_types indices c name mapping d field h one is good named =
    let over = mappings_of indices c.sources in
    let has = among_named (λ f. HasOneType over f (λ type. ⊤)) (named_fields c) field named (named_typed indices true c (passes_clear indices c h)) in
    let typed = type_by indices c.sources field (type_in over field) (λ type. AllByRecursion (HasNoOtherType field type) over) refl has in
    of_one_type indices c.sources name mapping d.values one is good.fit field (λ type. type_of (fields_of indices c.sources) field ≡ Some type)
    (λ o. IfSome o (λ v. IsSomeAnd (type_of (fields_of indices c.sources) field) (λ type. FitsType type v))) typed
    (λ type same o v. some_typed (type_of (fields_of indices c.sources) field) o type same v)
