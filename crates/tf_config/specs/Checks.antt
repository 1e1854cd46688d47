-- What is at fault in a configuration over the indices that there are, for each kind of refusal. Each definition lists
-- what the refusals of its kind would tell.
use Rattle.std.specs.Prelude.{ℕ, ℤ, pos, nat_le, nat_lt, int_le, ◌^◌, Bool, true, false, not, ◌&&◌, List, [], ◌∷◌, ◌++◌, map, filter, length, codes, Option, Some, None, is_some, is_none, if◌then◌else◌}
use Rattle.std.specs.List.{find, list_all, list_any}
use Rattle.std.specs.Option.{option_map, option_or, option_to_list, option_and_then}
use Rattle.std.specs.Str.{bytes_eq}
use Rattle.tf_model.specs.declared.config.Agg.{Agg}
use Rattle.tf_model.specs.declared.config.AggKind.{AggKind}
use Rattle.tf_model.specs.declared.config.AggKind.TheVariants.{Sum, Min, Max, ValueCount}
use Rattle.tf_model.specs.declared.config.Config.{Config}
use Rattle.tf_model.specs.declared.config.Group.{Group}
use Rattle.tf_model.specs.declared.config.GroupKind.{GroupKind}
use Rattle.tf_model.specs.declared.config.GroupKind.TheVariants.{Terms, Histogram, DateHistogram}
use Rattle.tf_model.specs.declared.config.Retention.{Retention}
use Rattle.tf_model.specs.declared.config.Shape.{Shape}
use Rattle.tf_model.specs.declared.config.Shape.TheVariants.{Pivot, Latest}
use Rattle.tf_model.specs.declared.config.SyncTime.{SyncTime}
use Rattle.tf_model.specs.declared.query.FieldType.{FieldType}
use Rattle.tf_model.specs.declared.query.FieldType.TheVariants.{Keyword, Long, Boolean, Date}
use Rattle.tf_model.specs.declared.query.Mapping.{Mapping}
use Rattle.tf_model.specs.Conditions.{greatest_date}
use Rattle.tf_model.specs.Keys.{groups_of}
use Rattle.tf_model.specs.Names.{is_index_name}
use Rattle.tf_model.specs.Rows.{aggs_of}
use Rattle.tf_model.specs.Values.{type_of}
use Rattle.tf_mapping.specs.Least.{is_one_of}
use Rattle.tf_query.specs.Reading.{nesting, fields_in}
use Rattle.tf_query.specs.Types.{suits_fields}
use Rattle.tf_config.specs.Catalogue.{Indices, mapping_named, types_in, type_in, fields_of}

-- a text, where something is so
abbrev pub told_if : Bool → List ℕ → List (List ℕ)
told_if is_so what = if is_so then what ∷ [] else []

abbrev pub is_empty : {A : Type 0} → List A → Bool
is_empty [] = true
is_empty (a ∷ others) = false

-- ---- lists

-- the groups, or the fields of the unique key
abbrev pub empty_in_shape : Shape → List (List ℕ)
empty_in_shape (Pivot groups aggs) = told_if (is_empty groups) (codes "pivot.group_by")
empty_in_shape (Latest unique_key sort) = told_if (is_empty unique_key) (codes "latest.unique_key")

-- the lists that are empty and may not be
abbrev pub empty_lists : Config → List (List ℕ)
empty_lists c = told_if (is_empty c.sources) (codes "source.index") ++ empty_in_shape c.shape

abbrev pub too_long_in_shape : Shape → List (List ℕ)
too_long_in_shape (Pivot groups aggs) = told_if (nat_lt 4 (length groups)) (codes "group_by") ++ told_if (nat_lt 16 (length aggs)) (codes "aggregations")
too_long_in_shape (Latest unique_key sort) = told_if (nat_lt 4 (length unique_key)) (codes "unique_key")

-- the lists that are too long
abbrev pub too_long : Config → List (List ℕ)
too_long c = told_if (nat_lt 8 (length c.sources)) (codes "index") ++ too_long_in_shape c.shape

-- ---- the query

-- a query with a value that has not its field's type, or a range without an end
abbrev pub unfit_query : Indices → Config → List (List ℕ)
unfit_query indices c = told_if (not (suits_fields (fields_of indices c.sources) c.query)) (codes "source.query")

-- queries that nest too deep
abbrev pub too_deep : Config → List (List ℕ)
too_deep c = told_if (not (nat_le (nesting c.query) 16)) (codes "query")

-- ---- names

-- the names that are not well formed
abbrev pub ill_formed : List (List ℕ) → List (List ℕ)
ill_formed names = filter (λ name. not (is_index_name name)) names

-- the names of sources, and of the destination where one is needed, that are not well formed
abbrev pub ill_named : Bool → Config → List (List ℕ)
ill_named need_dest c = ill_formed c.sources ++ told_if (need_dest && not (is_index_name c.dest)) c.dest

-- the sources that do not exist
abbrev pub absent_sources : Indices → Config → List (List ℕ)
absent_sources indices c = filter (λ name. not (is_some (mapping_named indices name))) c.sources

-- the names that stand again among those after them
abbrev pub repeated : List (List ℕ) → List (List ℕ)
repeated [] = []
repeated (name ∷ names) = told_if (is_one_of names name) name ++ repeated names

-- the names of groups and of aggregations, which are the columns of a pivot's rows
abbrev pub column_names : List Group → List Agg → List (List ℕ)
column_names groups aggs = map (λ group. group.name) groups ++ map (λ agg. agg.name) aggs

abbrev pub repeated_in_shape : Shape → List (List ℕ)
repeated_in_shape (Pivot groups aggs) = repeated (column_names groups aggs)
repeated_in_shape (Latest unique_key sort) = repeated unique_key

-- the names that stand twice
abbrev pub twice_named : Config → List (List ℕ)
twice_named c = repeated c.sources ++ repeated_in_shape c.shape

-- ---- fields

abbrev pub sync_fields : Config → List (List ℕ)
sync_fields c = option_to_list (option_map (λ sync. sync.field) c.sync)

abbrev pub retention_fields : Config → List (List ℕ)
retention_fields c = option_to_list (option_map (λ retention. retention.field) c.retention)

-- the field of the retention of a latest, which is one of the sources
abbrev pub retained_from_sources : Shape → List (List ℕ) → List (List ℕ)
retained_from_sources (Pivot groups aggs) fields = []
retained_from_sources (Latest unique_key sort) fields = fields

-- the field of the retention of a pivot, which is a column of its rows
abbrev pub retained_from_rows : Shape → List (List ℕ) → List (List ℕ)
retained_from_rows (Pivot groups aggs) fields = fields
retained_from_rows (Latest unique_key sort) fields = []

-- the fields of groups and aggregations, or of the unique key and the sort
abbrev pub fields_of_shape : Shape → List (List ℕ)
fields_of_shape (Pivot groups aggs) = map (λ group. group.field) groups ++ map (λ agg. agg.field) aggs
fields_of_shape (Latest unique_key sort) = unique_key ++ sort ∷ []

-- all fields of the sources that a configuration names
abbrev pub named_fields : Config → List (List ℕ)
named_fields c = fields_in c.query ++ fields_of_shape c.shape ++ sync_fields c ++ retained_from_sources c.shape (retention_fields c)

-- a field that no mapping has
abbrev pub is_unmapped : List Mapping → List ℕ → Bool
is_unmapped mappings field = is_empty (types_in mappings field)

-- a field that some mapping has not
abbrev pub is_partly_unmapped : List Mapping → List ℕ → Bool
is_partly_unmapped mappings field = list_any (λ mapping. is_none (type_of mapping field)) mappings

-- a name that is no column of a pivot's rows
abbrev pub is_no_column : Shape → List ℕ → Bool
is_no_column (Pivot groups aggs) name = not (is_one_of (column_names groups aggs) name)
is_no_column (Latest unique_key sort) name = false

-- the fields that are not there
abbrev pub unmapped_fields : List Mapping → Config → List (List ℕ)
unmapped_fields mappings c =
    filter (is_unmapped mappings) (named_fields c) ++ filter (is_partly_unmapped mappings) (sync_fields c) ++ filter (is_no_column c.shape) (retention_fields c)

abbrev pub is_same_type : FieldType → FieldType → Bool
is_same_type Keyword Keyword = true
is_same_type Long Long = true
is_same_type Boolean Boolean = true
is_same_type Date Date = true
is_same_type _ _ = false

-- whether there are two types among these
abbrev pub differ : List FieldType → Bool
differ [] = false
differ (type ∷ types) = not (list_all (is_same_type type) types)

-- a field that mappings have with different types
abbrev pub is_mixed : List Mapping → List ℕ → Bool
is_mixed mappings field = differ (types_in mappings field)

-- the fields that sources map with different types
abbrev pub mixed_fields : List Mapping → Config → List (List ℕ)
mixed_fields mappings c = filter (is_mixed mappings) (named_fields c)

-- ---- types of fields

abbrev pub is_date_type : Option FieldType → Bool
is_date_type (Some Date) = true
is_date_type _ = false

abbrev pub is_long_type : Option FieldType → Bool
is_long_type (Some Long) = true
is_long_type _ = false

-- a field that holds no dates
abbrev pub is_undated : List Mapping → List ℕ → Bool
is_undated mappings field = not (is_date_type (type_in mappings field))

abbrev pub is_date_histogram : GroupKind → Bool
is_date_histogram (DateHistogram step) = true
is_date_histogram _ = false

-- the fields of groups by dates, or the field of the sort
abbrev pub date_fields_of_shape : Shape → List (List ℕ)
date_fields_of_shape (Pivot groups aggs) = map (λ group. group.field) (filter (λ group. is_date_histogram group.kind) groups)
date_fields_of_shape (Latest unique_key sort) = sort ∷ []

-- the fields of the sources that are to hold dates
abbrev pub date_fields : Config → List (List ℕ)
date_fields c = date_fields_of_shape c.shape ++ sync_fields c ++ retained_from_sources c.shape (retention_fields c)

-- the type of the values that a group makes of those of a field: a histogram's are numbers, a date_histogram's dates
abbrev pub grouped_type : GroupKind → Option FieldType → Option FieldType
grouped_type Terms found = found
grouped_type (Histogram interval) found = Some Long
grouped_type (DateHistogram step) found = Some Date

-- the type of the values that an aggregation makes: sums and counts are numbers
abbrev pub aggregated_type : AggKind → Option FieldType → Option FieldType
aggregated_type Sum found = Some Long
aggregated_type Min found = found
aggregated_type Max found = found
aggregated_type ValueCount found = Some Long

abbrev pub group_type : List Mapping → Group → Option FieldType
group_type mappings group = grouped_type group.kind (type_in mappings group.field)

abbrev pub agg_type : List Mapping → Agg → Option FieldType
agg_type mappings agg = aggregated_type agg.kind (type_in mappings agg.field)

-- the type of the values in a column of a pivot's rows, none where there is no such column
abbrev pub column_type : List Mapping → List Group → List Agg → List ℕ → Option FieldType
column_type mappings groups aggs name =
    option_and_then (λ type. type)
    (option_or (option_map (group_type mappings) (find (λ group. bytes_eq group.name name) groups)) (option_map (agg_type mappings) (find (λ agg. bytes_eq agg.name name) aggs)))

-- a name of a column that holds no dates
abbrev pub is_undated_column : List Mapping → Shape → List ℕ → Bool
is_undated_column mappings (Pivot groups aggs) name = not (is_date_type (column_type mappings groups aggs name))
is_undated_column mappings (Latest unique_key sort) name = false

-- the fields and columns that hold no dates and are to
abbrev pub undated_fields : List Mapping → Config → List (List ℕ)
undated_fields mappings c = filter (is_undated mappings) (date_fields c) ++ filter (is_undated_column mappings c.shape) (retention_fields c)

-- a histogram is over numbers
abbrev pub groups_type : GroupKind → Option FieldType → Bool
groups_type (Histogram interval) found = is_long_type found
groups_type _ found = true

-- a sum is over numbers, the least and the greatest value over numbers or dates
abbrev pub aggregates_type : AggKind → Option FieldType → Bool
aggregates_type Sum found = is_long_type found
aggregates_type Min (Some Keyword) = false
aggregates_type Min (Some Boolean) = false
aggregates_type Max (Some Keyword) = false
aggregates_type Max (Some Boolean) = false
aggregates_type _ found = true

abbrev pub groups_field : List Mapping → Group → Bool
groups_field mappings group = groups_type group.kind (type_in mappings group.field)

abbrev pub aggregates_field : List Mapping → Agg → Bool
aggregates_field mappings agg = aggregates_type agg.kind (type_in mappings agg.field)

abbrev pub unnumbered_in_shape : List Mapping → Shape → List (List ℕ)
unnumbered_in_shape mappings shape =
    map (λ group. group.field) (filter (λ group. not (groups_field mappings group)) (groups_of shape))
    ++ map (λ agg. agg.field) (filter (λ agg. not (aggregates_field mappings agg)) (aggs_of shape))

-- the fields that hold no numbers, nor dates where those serve, and are to
abbrev pub unnumbered_fields : List Mapping → Config → List (List ℕ)
unnumbered_fields mappings c = unnumbered_in_shape mappings c.shape

-- ---- numbers

abbrev pub is_within : ℤ → ℤ → ℤ → Bool
is_within low high n = int_le low n && int_le n high

-- from 0 to the last moment of the year 9999
abbrev pub is_span : ℤ → Bool
is_span ms = is_within (pos 0) greatest_date ms

-- an interval is at least 1
abbrev pub has_interval : GroupKind → Bool
has_interval Terms = true
has_interval (Histogram interval) = nat_lt 0 interval && nat_lt interval (2 ^ 63)
has_interval (DateHistogram step) = is_within (pos 1) greatest_date step

-- the groups whose intervals are out of range
abbrev pub bad_intervals : Config → List (List ℕ)
bad_intervals c = map (λ group. group.name) (filter (λ group. not (has_interval group.kind)) (groups_of c.shape))

abbrev pub bad_delay : Option SyncTime → List (List ℕ)
bad_delay None = []
bad_delay (Some sync) = told_if (not (is_span sync.delay_ms)) (codes "delay")

abbrev pub bad_max_age : Option Retention → List (List ℕ)
bad_max_age None = []
bad_max_age (Some retention) = told_if (not (is_span retention.max_age_ms)) (codes "max_age")

-- what is no span
abbrev pub bad_spans : Config → List (List ℕ)
bad_spans c = bad_delay c.sync ++ bad_max_age c.retention ++ told_if (not (is_span c.frequency_ms)) (codes "frequency")

-- from 10 to 65,536
abbrev pub bad_page_size : Config → List (List ℕ)
bad_page_size c = told_if (not (nat_le 10 c.page_size && nat_le c.page_size 65536)) (codes "max_page_search_size")

-- from one second to one hour
abbrev pub bad_frequency : Config → List (List ℕ)
bad_frequency c = told_if (not (is_within (pos 1000) (pos 3600000) c.frequency_ms)) (codes "frequency")
