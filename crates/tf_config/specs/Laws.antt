-- What is known of a configuration that passes, and of one whose tree has no fault in its form.
use Rattle.std.specs.Prelude.{◌≡◌, ℕ, ◌⊎◌, ⊤, Bool, true, List, [], None, Some, IfSome, IsSomeAnd}
use Rattle.std.specs.Cmp.Lexicographic.{slice_cmp}
use Rattle.std.specs.List.{AllByRecursion}
use Rattle.std.specs.List.Sorted.{IsStrictlySortedBy}
use Rattle.std.specs.Ordering.{nat_cmp}
use Rattle.tf_model.specs.declared.config.AggKind.{AggKind}
use Rattle.tf_model.specs.declared.config.AggKind.TheVariants.{Sum, Min, Max, ValueCount}
use Rattle.tf_model.specs.declared.config.Config.{Config}
use Rattle.tf_model.specs.declared.config.GroupKind.{GroupKind}
use Rattle.tf_model.specs.declared.config.GroupKind.TheVariants.{Terms, Histogram, DateHistogram}
use Rattle.tf_model.specs.declared.doc.Doc.{Doc}
use Rattle.tf_model.specs.declared.query.FieldType.{FieldType}
use Rattle.tf_model.specs.declared.query.FieldType.TheVariants.{Long, Date}
use Rattle.tf_model.specs.declared.query.Mapping.{Mapping}
use Rattle.tf_model.specs.declared.tree.Tree.{Tree}
use Rattle.tf_model.specs.Conditions.{IsInRange, Fits}
use Rattle.tf_model.specs.Keys.{groups_of}
use Rattle.tf_model.specs.Rows.{aggs_of}
use Rattle.tf_model.specs.Values.{type_of, value_of}
use Rattle.tf_mapping.specs.Documents.{AreValues, FitsType}
use Rattle.tf_mapping.specs.Least.{is_one_of}
use Rattle.tf_mapping.specs.Mappings.{names}
use Rattle.tf_config.specs.Catalogue.{Indices, mapping_named, mappings_of, type_in, fields_of}
use Rattle.tf_config.specs.Checks.{empty_lists, unfit_query, named_fields}
use Rattle.tf_config.specs.Drafts.{drafted}
use Rattle.tf_config.specs.Reading.{query_of, kept, query_faults, faults_of_tree}
use Rattle.tf_config.specs.Refusals.{first_refusal, passes}

-- The fields of sources ascend by name, and each has the type that the first source with it gives.
abbrev pub FieldsAreTyped : Type 0
FieldsAreTyped = (indices : Indices) (sources : List (List ℕ))
    → IsStrictlySortedBy (slice_cmp nat_cmp) (names (fields_of indices sources).fields)
    × ((field : List ℕ) → type_of (fields_of indices sources) field ≡ type_in (mappings_of indices sources) field)

-- A configuration that passes is in range.
abbrev pub PassingIsInRange : Type 0
PassingIsInRange = (indices : Indices) (c : Config) → passes indices c ≡ true → IsInRange c

-- Documents of a source fit a configuration that passes.
abbrev pub PassingFits : Type 0
PassingFits = (indices : Indices) (c : Config) (name : List ℕ) (mapping : Mapping) (d : Doc) → passes indices c ≡ true
    → is_one_of c.sources name ≡ true → mapping_named indices name ≡ Some mapping → AreValues mapping d.values → Fits c d

-- where a mapping has a field, the field has this type
abbrev pub HasNoOtherType : List ℕ → FieldType → Mapping → Type 0
HasNoOtherType field type mapping = IfSome (type_of mapping field) (λ found. found ≡ type)

-- a field has one type over mappings, of which this is known
abbrev pub HasOneType : List Mapping → List ℕ → (FieldType → Type 0) → Type 0
HasOneType mappings field P = IsSomeAnd (type_in mappings field) (λ type. P type × AllByRecursion (HasNoOtherType field type) mappings)

-- what a group takes: a histogram numbers, a date_histogram dates
abbrev pub GroupTakes : GroupKind → FieldType → Type 0
GroupTakes Terms type = ⊤
GroupTakes (Histogram interval) type = type ≡ Long
GroupTakes (DateHistogram step) type = type ≡ Date

-- what an aggregation takes: a sum numbers, the least and the greatest value numbers or dates
abbrev pub AggTakes : AggKind → FieldType → Type 0
AggTakes Sum type = type ≡ Long
AggTakes Min type = (type ≡ Long) ⊎ (type ≡ Date)
AggTakes Max type = (type ≡ Long) ⊎ (type ≡ Date)
AggTakes ValueCount type = ⊤

-- the field of each group and of each aggregation has one type, one that the group or the aggregation takes
pub record HasPivotTypes (mappings : List Mapping) (c : Config) : Type 0 where
  pub groups : AllByRecursion (λ group. HasOneType mappings group.field (GroupTakes group.kind)) (groups_of c.shape)
  pub aggs : AllByRecursion (λ agg. HasOneType mappings agg.field (AggTakes agg.kind)) (aggs_of c.shape)

-- The fields of a pivot that passes have one type over the sources, which suits their use.
abbrev pub PassingHasPivotTypes : Type 0
PassingHasPivotTypes = (indices : Indices) (c : Config) → passes indices c ≡ true → HasPivotTypes (mappings_of indices c.sources) c

-- The value of a named field in a document of a source has the type that the sources give the field.
abbrev pub PassingHasTypes : Type 0
PassingHasTypes = (indices : Indices) (c : Config) (name : List ℕ) (mapping : Mapping) (d : Doc) (field : List ℕ) → passes indices c ≡ true
    → is_one_of c.sources name ≡ true → mapping_named indices name ≡ Some mapping → AreValues mapping d.values → is_one_of (named_fields c) field ≡ true
    → IfSome (value_of d field) (λ v. IsSomeAnd (type_of (fields_of indices c.sources) field) (λ type. FitsType type v))

-- A tree whose form has no fault stands for a configuration without an empty list, and with a query whose values have the
-- types of their fields. So these two kinds of refusal are told by the form alone, and in their place in the order.
abbrev pub FormSuffices : Type 0
FormSuffices = (indices : Indices) (need_dest : Bool) (t : Tree) → first_refusal (faults_of_tree need_dest t (query_faults (query_of indices t))) ≡ None
    → (empty_lists (drafted (kept (query_of indices t)) t) ≡ []) × (unfit_query indices (drafted (kept (query_of indices t)) t) ≡ [])
