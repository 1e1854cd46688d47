-- Which refusal of a configuration comes first.
use Rattle.std.specs.Prelude.{◌≡◌, ℕ, Bool, true, List, [], ◌∷◌, ◌++◌, Option, Some, None, is_none, Result, Ok, Err}
use Rattle.std.specs.Option.{option_map, option_or, option_to_list}
use Rattle.tf_model.specs.declared.config.Config.{Config}
use Rattle.tf_model.specs.declared.query.Mapping.{Mapping}
use Rattle.tf_mapping.specs.Least.{least_text}
use Rattle.tf_config.specs.declared.error.ConfigError.{ConfigError}
use Rattle.tf_config.specs.declared.error.ConfigError.TheVariants as error
use Rattle.tf_config.specs.declared.query.QueryFaults.{QueryFaults}
use Rattle.tf_config.specs.Catalogue.{Indices, mappings_of}
use Rattle.tf_config.specs.Checks.{empty_lists, unfit_query, too_long, too_deep, ill_named, absent_sources, twice_named, unmapped_fields, mixed_fields, undated_fields, unnumbered_fields, bad_intervals, bad_spans, bad_page_size, bad_frequency}

-- a kind of refusal, and all that is at fault so
abbrev pub Faults : Type 0
Faults = (List ℕ → ConfigError) × List (List ℕ)

-- the first kind in which something is at fault, told at the least text in bytes
abbrev pub first_refusal : List Faults → Option ConfigError
first_refusal [] = None
first_refusal (faults ∷ later) = option_or (option_map faults.0 (least_text faults.1)) (first_refusal later)

-- The kinds of refusal in their order. What is at fault in a query that could not be kept takes part in its kinds.
abbrev pub faults_of_forms : Indices → QueryFaults → Config → List Faults
faults_of_forms indices query c =
    (error.Missing, empty_lists c)
    ∷ (error.WrongKind, unfit_query indices c)
    ∷ (error.TooMany, too_long c ++ too_deep c ++ option_to_list query.too_deep)
    ∷ []

abbrev pub faults_of_names : Indices → Bool → Config → List Faults
faults_of_names indices need_dest c =
    (error.BadName, ill_named need_dest c)
    ∷ (error.NoSuchIndex, absent_sources indices c)
    ∷ (error.TwiceName, twice_named c)
    ∷ []

abbrev pub faults_of_fields : List Mapping → QueryFaults → Config → List Faults
faults_of_fields mappings query c =
    (error.NoSuchField, unmapped_fields mappings c ++ option_to_list query.unmapped)
    ∷ (error.FieldTypes, mixed_fields mappings c)
    ∷ (error.NotADate, undated_fields mappings c)
    ∷ (error.NotANumber, unnumbered_fields mappings c)
    ∷ []

abbrev pub faults_of_numbers : Config → List Faults
faults_of_numbers c =
    (error.BadInterval, bad_intervals c)
    ∷ (error.BadSpan, bad_spans c)
    ∷ (error.PageSizeRange, bad_page_size c)
    ∷ (error.FrequencyRange, bad_frequency c)
    ∷ []

abbrev pub faults_in : Indices → Bool → QueryFaults → Config → List Faults
faults_in indices need_dest query c =
    faults_of_forms indices query c ++ (faults_of_names indices need_dest c ++ (faults_of_fields (mappings_of indices c.sources) query c ++ faults_of_numbers c))

-- the first refusal of a configuration, with or without a destination, beside what is at fault in its query
unfoldable pub refusal_by : Indices → Bool → QueryFaults → Config → Option ConfigError
refusal_by indices need_dest query c = first_refusal (faults_in indices need_dest query c)

-- nothing is at fault in a query that is kept
abbrev pub no_faults : QueryFaults
no_faults = record { unknown = None; wrong_kind = None; too_deep = None; unmapped = None }

-- the first refusal of a configuration
abbrev pub refusal_of : Indices → Config → Option ConfigError
refusal_of indices c = refusal_by indices true no_faults c

-- whether a configuration passes
abbrev pub passes : Indices → Config → Bool
passes indices c = is_none (refusal_of indices c)

-- the first refusal, or want of memory
abbrev pub Refuses : Option ConfigError → ConfigError → Type 0
Refuses wanted error.Memory = Unit {0}
Refuses wanted refusal = wanted ≡ Some refusal

-- that there is nothing to refuse, the first refusal, or want of memory
abbrev pub Answers : {A : Type 0} → Option ConfigError → Result A ConfigError → Type 0
Answers wanted (Ok a) = wanted ≡ None
Answers wanted (Err refusal) = Refuses wanted refusal
