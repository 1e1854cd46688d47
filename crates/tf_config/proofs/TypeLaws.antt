-- The fields that a passing configuration names have one type over its sources, and documents of the sources fit it.
use Rattle.std.proofs.Common.{◌≡◌, ℕ, ◌⊎◌, inl, inr, Bool, true, false, cond, ◌||◌, List, [], ◌∷◌, ◌++◌, map, Option, Some, None, refl, sym, ap, subst, ◌∙◌, arith}
use Rattle.std.specs.Prelude.{pos, negsuc, not, filter, ⊤, IfSome, IsSomeAnd}
use Rattle.std.specs.List.{AllByRecursion, list_all, cons_option, filter_map}
use Rattle.std.specs.Option.{option_map, option_to_list, option_and_then}
use Rattle.std.specs.Str.{bytes_eq}
use Rattle.std.proofs.lemmas.Int.{ints}
use Rattle.std.proofs.lemmas.Slice.Eq.{bytes_eq-Decides}
use Rattle.std.proofs.lemmas.List.Elements.{All-from_recursion}
use Rattle.tf_model.specs.declared.config.Agg.{Agg}
use Rattle.tf_model.specs.declared.config.AggKind.{AggKind}
use Rattle.tf_model.specs.declared.config.AggKind.TheVariants.{Sum, Min, Max, ValueCount}
use Rattle.tf_model.specs.declared.config.Config.{Config}
use Rattle.tf_model.specs.declared.config.Group.{Group}
use Rattle.tf_model.specs.declared.config.GroupKind.{GroupKind}
use Rattle.tf_model.specs.declared.config.GroupKind.TheVariants.{Terms, Histogram, DateHistogram}
use Rattle.tf_model.specs.declared.config.Shape.{Shape}
use Rattle.tf_model.specs.declared.config.Shape.TheVariants.{Pivot, Latest}
use Rattle.tf_model.specs.declared.config.SyncTime.{SyncTime}
use Rattle.tf_model.specs.declared.doc.Doc.{Doc}
use Rattle.tf_model.specs.declared.query.FieldType.{FieldType}
use Rattle.tf_model.specs.declared.query.FieldType.TheVariants.{Keyword, Long, Boolean, Date}
use Rattle.tf_model.specs.declared.query.Mapping.{Mapping}
use Rattle.tf_model.specs.declared.value.Value.{Value}
use Rattle.tf_model.specs.declared.value.Value.TheVariants as value
use Rattle.tf_model.specs.Conditions.{IsBetween, IsNumber, IsMoment, IsNoText, FitsGroup, FitsAgg, Fits}
use Rattle.tf_model.specs.Keys.{groups_of}
use Rattle.tf_model.specs.Rows.{aggs_of}
use Rattle.tf_model.specs.Values.{type_of, value_at, value_of}
use Rattle.tf_mapping.specs.Documents.{AreValues, FitsField, FitsType}
use Rattle.tf_mapping.specs.Least.{is_one_of}
use Rattle.tf_query.specs.Reading.{fields_in}
use Rattle.tf_config.specs.Catalogue.{Indices, mapping_named, mappings_of, types_in, first, type_in}
use Rattle.tf_config.specs.Checks.{is_empty, is_same_type, differ, is_unmapped, is_mixed, is_date_type, is_undated, is_date_histogram, groups_type, aggregates_type, groups_field, aggregates_field, named_fields, fields_of_shape, sync_fields, retention_fields, retained_from_sources, date_fields_of_shape, date_fields, is_partly_unmapped, is_no_column, is_undated_column}
use Rattle.tf_config.specs.Clear.{IsClear}
use Rattle.tf_config.specs.Laws.{HasNoOtherType, HasOneType, GroupTakes, AggTakes, HasPivotTypes}
use Rattle.tf_config.specs.Refusals.{passes}
use Rattle.tf_config.proofs.EmptyLists.{none_of_both, none_mapped, is_true, none_pass, all_pass, all_weaker, all_two, all_append, all_mapped, all_kept}
use Rattle.tf_config.proofs.ClearLaws.{passes_clear, within}

-- ---- one type
abbrev Known : FieldType → Type 0
Known type = ⊤

abbrev IsTyped : List Mapping → List ℕ → Type 0
IsTyped mappings field = HasOneType mappings field Known

same_type : (a b : FieldType) → is_same_type a b ≡ true → b ≡ a
same_type Keyword Keyword h = refl
same_type Long Long h = refl
same_type Boolean Boolean h = refl
same_type Date Date h = refl
same_type a b h = absurd (cc)

abbrev AreAll : FieldType → List FieldType → Type 0
AreAll type types = AllByRecursion (λ other. other ≡ type) types

no_other : (f : Mapping → Option FieldType) (type : FieldType) (mapping : Mapping) (o : Option FieldType) (rest : List FieldType) → f mapping ≡ o → AreAll type (cons_option o rest)
    → IfSome (f mapping) (λ found. found ≡ type) × AreAll type rest
no_other f type mapping None rest is all = (subst (λ (o : Option FieldType). IfSome o (λ found. found ≡ type)) (sym is) tt, all)
no_other f type mapping (Some found) rest is all = (subst (λ (o : Option FieldType). IfSome o (λ found. found ≡ type)) (sym is) all.0, all.1)

no_others : (f : Mapping → Option FieldType) (type : FieldType) (mappings : List Mapping) → AreAll type (filter_map f mappings) → AllByRecursion (λ mapping. IfSome (f mapping) (λ found. found ≡ type)) mappings
no_others f type [] all = tt
no_others f type (mapping ∷ mappings) all =
    let here = no_other f type mapping (f mapping) (filter_map f mappings) refl all in
    (here.0, no_others f type mappings here.1)

first_of_all : (types : List FieldType) → is_empty types ≡ false → differ types ≡ false → IsSomeAnd (first types) (λ type. AreAll type types)
first_of_all [] there same = absurd (cc)
first_of_all (type ∷ types) there same = (
  refl,
  all_weaker (λ other. is_same_type type other ≡ true) (λ other. other ≡ type) (λ other h. same_type type other h) types
      (all_pass (is_same_type type) types (is_true (list_all (is_same_type type) types) same)),
)

typed_by : (mappings : List Mapping) (field : List ℕ) (o : Option FieldType) → IsSomeAnd o (λ type. AreAll type (types_in mappings field))
    → IsSomeAnd o (λ type. Known type × AllByRecursion (HasNoOtherType field type) mappings)
typed_by mappings field None h = h
typed_by mappings field (Some type) h = (tt, no_others (λ mapping. type_of mapping field) type mappings h)

has_one_type : (mappings : List Mapping) (field : List ℕ) → is_unmapped mappings field ≡ false → is_mixed mappings field ≡ false → IsTyped mappings field
has_one_type mappings field there same = typed_by mappings field (type_in mappings field) (first_of_all (types_in mappings field) there same)

-- all named fields of a configuration at which nothing is at fault
pub named_typed : (indices : Indices) (need_dest : Bool) (c : Config) → IsClear indices need_dest c → AllByRecursion (IsTyped (mappings_of indices c.sources)) (named_fields c)
named_typed indices need_dest c clear =
    let mappings = mappings_of indices c.sources in
    let there = none_of_both (filter (is_unmapped mappings) (named_fields c) ++ filter (is_partly_unmapped mappings) (sync_fields c)) (filter (is_no_column c.shape) (retention_fields c)) clear.unmapped_fields in
    let mapped = none_of_both (filter (is_unmapped mappings) (named_fields c)) (filter (is_partly_unmapped mappings) (sync_fields c)) there.0 in
    all_two (λ field. is_unmapped mappings field ≡ false) (λ field. is_mixed mappings field ≡ false) (IsTyped mappings) (has_one_type mappings) (named_fields c)
    (none_pass (is_unmapped mappings) (named_fields c) mapped.0) (none_pass (is_mixed mappings) (named_fields c) clear.mixed_fields)

-- ---- what groups and aggregations take
group_takes : (kind : GroupKind) (o : Option FieldType) (A : FieldType → Type 0) → groups_type kind o ≡ true → (is_date_histogram kind ≡ true → is_date_type o ≡ true)
    → IsSomeAnd o (λ type. Known type × A type) → IsSomeAnd o (λ type. GroupTakes kind type × A type)
group_takes kind None A numbers dates h = h
group_takes Terms (Some type) A numbers dates h = (tt, h.1)
group_takes (Histogram interval) (Some Long) A numbers dates h = (refl, h.1)
group_takes (Histogram interval) (Some type) A numbers dates h = absurd (cc)
group_takes (DateHistogram step) (Some Date) A numbers dates h = (refl, h.1)
group_takes (DateHistogram step) (Some type) A numbers dates h = let date = dates refl in absurd (cc)

agg_takes : (kind : AggKind) (o : Option FieldType) (A : FieldType → Type 0) → aggregates_type kind o ≡ true → IsSomeAnd o (λ type. Known type × A type) → IsSomeAnd o (λ type. AggTakes kind type × A type)
agg_takes kind None A numbers h = h
agg_takes ValueCount (Some type) A numbers h = (tt, h.1)
agg_takes Sum (Some Long) A numbers h = (refl, h.1)
agg_takes Sum (Some type) A numbers h = absurd (cc)
agg_takes Min (Some Long) A numbers h = (inl refl, h.1)
agg_takes Min (Some Date) A numbers h = (inr refl, h.1)
agg_takes Min (Some type) A numbers h = absurd (cc)
agg_takes Max (Some Long) A numbers h = (inl refl, h.1)
agg_takes Max (Some Date) A numbers h = (inr refl, h.1)
agg_takes Max (Some type) A numbers h = absurd (cc)

-- ---- shapes
groups_typed : (mappings : List Mapping) (shape : Shape) → AllByRecursion (IsTyped mappings) (fields_of_shape shape)
    → AllByRecursion (λ (group : Group). IsTyped mappings group.field) (groups_of shape) × AllByRecursion (λ (agg : Agg). IsTyped mappings agg.field) (aggs_of shape)
groups_typed mappings (Pivot groups aggs) all =
    let both = all_append (IsTyped mappings) (map (λ (group : Group). group.field) groups) (map (λ (agg : Agg). agg.field) aggs) all in
    (all_mapped (IsTyped mappings) (λ (group : Group). group.field) groups both.0, all_mapped (IsTyped mappings) (λ (agg : Agg). agg.field) aggs both.1)
groups_typed mappings (Latest unique_key sort) all = (tt, tt)

abbrev HasDate : List Mapping → List ℕ → Type 0
HasDate mappings field = is_undated mappings field ≡ false

abbrev IsOverDates : List Mapping → Group → Type 0
IsOverDates mappings group = is_date_histogram group.kind ≡ true → is_date_type (type_in mappings group.field) ≡ true

groups_dated : (mappings : List Mapping) (shape : Shape) → AllByRecursion (HasDate mappings) (date_fields_of_shape shape) → AllByRecursion (IsOverDates mappings) (groups_of shape)
groups_dated mappings (Pivot groups aggs) all =
    all_weaker (λ (group : Group). is_date_histogram group.kind ≡ true → HasDate mappings group.field) (IsOverDates mappings)
    (λ group h by_dates. is_true (is_date_type (type_in mappings group.field)) (h by_dates)) groups
    (all_kept (λ (group : Group). HasDate mappings group.field) (λ (group : Group). is_date_histogram group.kind) groups
    (all_mapped (HasDate mappings) (λ (group : Group). group.field) (filter (λ (group : Group). is_date_histogram group.kind) groups) all))
groups_dated mappings (Latest unique_key sort) all = tt

module _ (indices : Indices) (need_dest : Bool) (c : Config) (clear : IsClear indices need_dest c) where
  abbrev over : List Mapping
  over = mappings_of indices c.sources

  abbrev retained : List (List ℕ)
  retained = retained_from_sources c.shape (retention_fields c)

  named_parts : AllByRecursion (IsTyped over) (fields_of_shape c.shape) × AllByRecursion (IsTyped over) (sync_fields c)
  named_parts =
      let front = all_append (IsTyped over) (fields_in c.query ++ fields_of_shape c.shape ++ sync_fields c) retained (named_typed indices need_dest c clear) in
      let fields = all_append (IsTyped over) (fields_in c.query ++ fields_of_shape c.shape) (sync_fields c) front.0 in
      let shape = all_append (IsTyped over) (fields_in c.query) (fields_of_shape c.shape) fields.0 in
      (shape.1, fields.1)

  dated_parts : AllByRecursion (HasDate over) (date_fields_of_shape c.shape) × AllByRecursion (HasDate over) (sync_fields c)
  dated_parts =
      let none = none_of_both (filter (is_undated over) (date_fields c)) (filter (is_undated_column over c.shape) (retention_fields c)) clear.undated_fields in
      let front = all_append (HasDate over) (date_fields_of_shape c.shape ++ sync_fields c) retained (none_pass (is_undated over) (date_fields c) none.0) in
      all_append (HasDate over) (date_fields_of_shape c.shape) (sync_fields c) front.0

  groups_numbered : AllByRecursion (λ (group : Group). groups_field over group ≡ true) (groups_of c.shape)
  groups_numbered =
      let bad = filter (λ (group : Group). not (groups_field over group)) (groups_of c.shape) in
      let none = none_of_both (map (λ (group : Group). group.field) bad) (map (λ (agg : Agg). agg.field) (filter (λ (agg : Agg). not (aggregates_field over agg)) (aggs_of c.shape))) clear.unnumbered_fields in
      all_weaker (λ (group : Group). not (groups_field over group) ≡ false) (λ (group : Group). groups_field over group ≡ true) (λ group h. is_true (groups_field over group) h) (groups_of c.shape)
      (none_pass (λ (group : Group). not (groups_field over group)) (groups_of c.shape) (none_mapped (λ (group : Group). group.field) bad none.0))

  aggs_numbered : AllByRecursion (λ (agg : Agg). aggregates_field over agg ≡ true) (aggs_of c.shape)
  aggs_numbered =
      let bad = filter (λ (agg : Agg). not (aggregates_field over agg)) (aggs_of c.shape) in
      let none = none_of_both (map (λ (group : Group). group.field) (filter (λ (group : Group). not (groups_field over group)) (groups_of c.shape))) (map (λ (agg : Agg). agg.field) bad) clear.unnumbered_fields in
      all_weaker (λ (agg : Agg). not (aggregates_field over agg) ≡ false) (λ (agg : Agg). aggregates_field over agg ≡ true) (λ agg h. is_true (aggregates_field over agg) h) (aggs_of c.shape)
      (none_pass (λ (agg : Agg). not (aggregates_field over agg)) (aggs_of c.shape) (none_mapped (λ (agg : Agg). agg.field) bad none.1))

  pub clear_pivot_types : HasPivotTypes (mappings_of indices c.sources) c
  clear_pivot_types =
      let typed = groups_typed over c.shape named_parts.0 in
      let numbers = all_two (λ (group : Group). groups_field over group ≡ true) (IsOverDates over) (λ (group : Group). (groups_field over group ≡ true) × IsOverDates over group)
      (λ group a b. (a, b)) (groups_of c.shape) groups_numbered (groups_dated over c.shape dated_parts.0) in
      record {
        groups = all_two (λ (group : Group). (groups_field over group ≡ true) × IsOverDates over group) (λ (group : Group). IsTyped over group.field)
            (λ (group : Group). HasOneType over group.field (GroupTakes group.kind))
            (λ group h t. group_takes group.kind (type_in over group.field) (λ type. AllByRecursion (HasNoOtherType group.field type) over) h.0 h.1 t) (groups_of c.shape) numbers typed.0;
        aggs = all_two (λ (agg : Agg). aggregates_field over agg ≡ true) (λ (agg : Agg). IsTyped over agg.field)
            (λ (agg : Agg). HasOneType over agg.field (AggTakes agg.kind))
            (λ agg h t. agg_takes agg.kind (type_in over agg.field) (λ type. AllByRecursion (HasNoOtherType agg.field type) over) h t) (aggs_of c.shape) aggs_numbered typed.1;
      }

  sync_takes : (o : Option SyncTime) → AllByRecursion (IsTyped over) (option_to_list (option_map (λ (sync : SyncTime). sync.field) o))
      → AllByRecursion (HasDate over) (option_to_list (option_map (λ (sync : SyncTime). sync.field) o)) → IfSome o (λ sync. HasOneType over sync.field (λ type. type ≡ Date))
  sync_takes None typed dated = tt
  sync_takes (Some sync) typed dated =
      group_takes (DateHistogram (pos 1)) (type_in over sync.field) (λ type. AllByRecursion (HasNoOtherType sync.field type) over) refl (λ h. is_true (is_date_type (type_in over sync.field)) dated.0) typed.0

  pub clear_sync_type : IfSome c.sync (λ sync. HasOneType (mappings_of indices c.sources) sync.field (λ type. type ≡ Date))
  clear_sync_type = sync_takes c.sync named_parts.1 dated_parts.1

pub passing_has_pivot_types : (indices : Indices) (c : Config) → passes indices c ≡ true → HasPivotTypes (mappings_of indices c.sources) c
passing_has_pivot_types indices c h = clear_pivot_types indices true c (passes_clear indices c h)

-- ---- documents
same_field : (b : Bool) (mapping : Mapping) (v : List ℕ × Value) (rest : Option Value) (field : List ℕ) → (b ≡ true → v.0 ≡ field) → FitsField mapping v
    → IfSome rest (λ w. IsSomeAnd (type_of mapping field) (λ type. FitsType type w))
    → IfSome (cond b (Some v.1) rest) (λ w. IsSomeAnd (type_of mapping field) (λ type. FitsType type w))
same_field true mapping v rest field same fits later = subst (λ f. IsSomeAnd (type_of mapping f) (λ type. FitsType type v.1)) (same refl) fits
same_field false mapping v rest field same fits later = later

-- a value that is there has the type that the mapping gives its field
pub value_fits : (mapping : Mapping) (values : List (List ℕ × Value)) (field : List ℕ) → AllByRecursion (FitsField mapping) values
    → IfSome (value_at values field) (λ v. IsSomeAnd (type_of mapping field) (λ type. FitsType type v))
value_fits mapping [] field fits = tt
value_fits mapping (v ∷ values) field fits =
    same_field (bytes_eq v.0 field) mapping v (value_at values field) field ((bytes_eq-Decides v.0 field).0) fits.0 (value_fits mapping values field fits.1)

in_one : (mapping : Mapping) (type : FieldType) (v : Value) (o : Option FieldType) → IfSome o (λ found. found ≡ type) → IsSomeAnd o (λ found. FitsType found v) → FitsType type v
in_one mapping type v None same fits = absurd fits
in_one mapping type v (Some found) same fits = subst (λ t. FitsType t v) same fits

of_type : (mapping : Mapping) (field : List ℕ) (type : FieldType) (o : Option Value) → HasNoOtherType field type mapping → IfSome o (λ v. IsSomeAnd (type_of mapping field) (λ found. FitsType found v)) → IfSome o (FitsType type)
of_type mapping field type None same fits = tt
of_type mapping field type (Some v) same fits = in_one mapping type v (type_of mapping field) same fits

-- ---- the mappings of sources
among_first : (P : Mapping → Type 0) (o : Option Mapping) (rest : List Mapping) (mapping : Mapping) → o ≡ Some mapping → AllByRecursion P (cons_option o rest) → P mapping
among_first P None rest mapping is all = absurd (cc)
among_first P (Some found) rest mapping is all = let same : found ≡ mapping = cc in subst P same all.0

among_rest : (P : Mapping → Type 0) (o : Option Mapping) (rest : List Mapping) → AllByRecursion P (cons_option o rest) → AllByRecursion P rest
among_rest P None rest all = all
among_rest P (Some found) rest all = all.1

found_by : (b : Bool) (indices : Indices) (source name : List ℕ) (mapping : Mapping) (P : Mapping → Type 0) (sources : List (List ℕ)) → (b ≡ true → source ≡ name)
    → (b || is_one_of sources name) ≡ true → mapping_named indices name ≡ Some mapping → AllByRecursion P (mappings_of indices (source ∷ sources))
    → (is_one_of sources name ≡ true → P mapping) → P mapping
found_by true indices source name mapping P sources same one is all later =
    among_first P (mapping_named indices source) (mappings_of indices sources) mapping (ap (mapping_named indices) (same refl) ∙ is) all
found_by false indices source name mapping P sources same one is all later = later one

-- what is known of all mappings of sources is known of the one of a name
pub among_sources : (indices : Indices) (sources : List (List ℕ)) (name : List ℕ) (mapping : Mapping) (P : Mapping → Type 0) → is_one_of sources name ≡ true
    → mapping_named indices name ≡ Some mapping → AllByRecursion P (mappings_of indices sources) → P mapping
among_sources indices [] name mapping P one is all = absurd (cc)
among_sources indices (source ∷ sources) name mapping P one is all =
    found_by (bytes_eq source name) indices source name mapping P sources ((bytes_eq-Decides source name).0) one is all
    (λ later. among_sources indices sources name mapping P later is (among_rest P (mapping_named indices source) (mappings_of indices sources) all))

-- ---- documents fit
number_fits : (v : Value) → FitsType Long v → IsNumber (Some v)
number_fits (value.Int n) fits =
    let range : IsBetween (negsuc 9223372036854775807) (pos 9223372036854775807) n = within (negsuc 9223372036854775807) (pos 9223372036854775807) n fits in
    (omega (arith, ints, range.0), range.1)
number_fits value.Null fits = absurd fits
number_fits (value.Bool b) fits = absurd fits
number_fits (value.Date ms) fits = absurd fits
number_fits (value.Str text) fits = absurd fits

moment_fits : (v : Value) → FitsType Date v → IsMoment (Some v)
moment_fits (value.Date ms) fits = within (negsuc 62167219199999) (pos 253402300799999) ms fits
moment_fits value.Null fits = absurd fits
moment_fits (value.Bool b) fits = absurd fits
moment_fits (value.Int n) fits = absurd fits
moment_fits (value.Str text) fits = absurd fits

no_text : (type : FieldType) (v : Value) → (type ≡ Long) ⊎ (type ≡ Date) → FitsType type v → IsNoText (Some v)
no_text Keyword v takes fits = absurd (elim takes [ inl e ↦ cc | inr e ↦ cc ])
no_text Boolean v takes fits = absurd (elim takes [ inl e ↦ cc | inr e ↦ cc ])
no_text Long (value.Str text) takes fits = absurd fits
no_text Date (value.Str text) takes fits = absurd fits
no_text type value.Null takes fits = tt
no_text type (value.Bool b) takes fits = tt
no_text type (value.Int n) takes fits = tt
no_text type (value.Date ms) takes fits = tt

group_fits : (kind : GroupKind) (type : FieldType) (o : Option Value) → GroupTakes kind type → IfSome o (FitsType type) → FitsGroup kind o
group_fits Terms type o takes fits = tt
group_fits (Histogram interval) type None takes fits = tt
group_fits (Histogram interval) type (Some v) takes fits = number_fits v (subst (λ t. FitsType t v) takes fits)
group_fits (DateHistogram step) type None takes fits = tt
group_fits (DateHistogram step) type (Some v) takes fits = moment_fits v (subst (λ t. FitsType t v) takes fits)

agg_fits : (kind : AggKind) (type : FieldType) (o : Option Value) → AggTakes kind type → IfSome o (FitsType type) → FitsAgg kind o
agg_fits ValueCount type o takes fits = tt
agg_fits Sum type None takes fits = tt
agg_fits Sum type (Some v) takes fits = number_fits v (subst (λ t. FitsType t v) takes fits)
agg_fits Min type None takes fits = tt
agg_fits Min type (Some v) takes fits = no_text type v takes fits
agg_fits Max type None takes fits = tt
agg_fits Max type (Some v) takes fits = no_text type v takes fits

module _ (indices : Indices) (sources : List (List ℕ)) (name : List ℕ) (mapping : Mapping) (values : List (List ℕ × Value))
    (one : is_one_of sources name ≡ true) (is : mapping_named indices name ≡ Some mapping) (fits : AllByRecursion (FitsField mapping) values) where
  typed_value : (field : List ℕ) (P : FieldType → Type 0) (R : Option Value → Type 0) (o : Option FieldType)
      → IsSomeAnd o (λ type. P type × AllByRecursion (HasNoOtherType field type) (mappings_of indices sources))
      → ((type : FieldType) → P type → IfSome (value_at values field) (FitsType type) → R (value_at values field)) → R (value_at values field)
  typed_value field P R None has then = absurd has
  typed_value field P R (Some type) has then =
      then type has.0 (of_type mapping field type (value_at values field) (among_sources indices sources name mapping (HasNoOtherType field type) one is has.1) (value_fits mapping values field fits))

  -- a value has a type where its field has it over all sources
  pub of_one_type : (field : List ℕ) (P : FieldType → Type 0) (R : Option Value → Type 0) → HasOneType (mappings_of indices sources) field P
      → ((type : FieldType) → P type → (o : Option Value) → IfSome o (FitsType type) → R o) → R (value_at values field)
  of_one_type field P R has then = typed_value field P R (type_in (mappings_of indices sources) field) has (λ type p v. then type p (value_at values field) v)

moment_of : (d : Doc) (o : Option SyncTime) → IfSome o (λ sync. IsMoment (value_of d sync.field)) → IsMoment (option_and_then (λ (sync : SyncTime). value_of d sync.field) o)
moment_of d None h = tt
moment_of d (Some sync) h = h

sync_fits : (indices : Indices) (sources : List (List ℕ)) (name : List ℕ) (mapping : Mapping) (d : Doc) → is_one_of sources name ≡ true → mapping_named indices name ≡ Some mapping
    → AllByRecursion (FitsField mapping) d.values → (o : Option SyncTime) → IfSome o (λ sync. HasOneType (mappings_of indices sources) sync.field (λ type. type ≡ Date))
    → IfSome o (λ sync. IsMoment (value_of d sync.field))
unfolding value_of
sync_fits indices sources name mapping d one is fits None has = tt
sync_fits indices sources name mapping d one is fits (Some sync) has =
    of_one_type indices sources name mapping d.values one is fits sync.field (λ type. type ≡ Date) IsMoment has (λ type same o v. group_fits (DateHistogram (pos 1)) type o same v)

pub clear_fits : (indices : Indices) (need_dest : Bool) (c : Config) (name : List ℕ) (mapping : Mapping) (d : Doc) → IsClear indices need_dest c
    → is_one_of c.sources name ≡ true → mapping_named indices name ≡ Some mapping → AreValues mapping d.values → Fits c d
unfolding value_of
clear_fits indices need_dest c name mapping d clear one is good =
    let types = clear_pivot_types indices need_dest c clear in
    let over = mappings_of indices c.sources in
    record {
      groups = All-from_recursion (λ (group : Group). FitsGroup group.kind (value_at d.values group.field)) (groups_of c.shape)
          (all_weaker (λ (group : Group). HasOneType over group.field (GroupTakes group.kind)) (λ (group : Group). FitsGroup group.kind (value_at d.values group.field))
          (λ group has. of_one_type indices c.sources name mapping d.values one is good.fit group.field (GroupTakes group.kind) (FitsGroup group.kind) has (λ type takes o v. group_fits group.kind type o takes v))
          (groups_of c.shape) types.groups);
      aggs = All-from_recursion (λ (agg : Agg). FitsAgg agg.kind (value_at d.values agg.field)) (aggs_of c.shape)
          (all_weaker (λ (agg : Agg). HasOneType over agg.field (AggTakes agg.kind)) (λ (agg : Agg). FitsAgg agg.kind (value_at d.values agg.field))
          (λ agg has. of_one_type indices c.sources name mapping d.values one is good.fit agg.field (AggTakes agg.kind) (FitsAgg agg.kind) has (λ type takes o v. agg_fits agg.kind type o takes v))
          (aggs_of c.shape) types.aggs);
      sync = moment_of d c.sync (sync_fits indices c.sources name mapping d one is good.fit c.sync (clear_sync_type indices need_dest c clear));
    }

pub passing_fits : (indices : Indices) (c : Config) (name : List ℕ) (mapping : Mapping) (d : Doc) → passes indices c ≡ true
    → is_one_of c.sources name ≡ true → mapping_named indices name ≡ Some mapping → AreValues mapping d.values → Fits c d
passing_fits indices c name mapping d h one is good = clear_fits indices true c name mapping d (passes_clear indices c h) one is good
