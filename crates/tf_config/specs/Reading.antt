-- What a tree reads as: a configuration, or the first refusal.
use Rattle.std.specs.Prelude.{◌≡◌, Bool, not, ◌||◌, List, [], ◌∷◌, ◌++◌, codes, Option, Some, None, is_some, Result, Ok, Err, if◌then◌else◌}
use Rattle.std.specs.Option.{option_or, option_to_list}
use Rattle.tf_model.specs.declared.config.Config.{Config}
use Rattle.tf_model.specs.declared.query.Mapping.{Mapping}
use Rattle.tf_model.specs.declared.query.Query.{Query}
use Rattle.tf_model.specs.declared.query.Query.TheVariants.{MatchAll}
use Rattle.tf_model.specs.declared.tree.Tree.{Tree}
use Rattle.tf_model.specs.Trees.{member_of}
use Rattle.tf_query.specs.declared.error.QueryError.{QueryError}
use Rattle.tf_query.specs.declared.error.QueryError.TheVariants as query_error
use Rattle.tf_query.specs.Reading as query
use Rattle.tf_config.specs.declared.error.ConfigError.{ConfigError}
use Rattle.tf_config.specs.declared.error.ConfigError.TheVariants as error
use Rattle.tf_config.specs.declared.query.QueryFaults.{QueryFaults}
use Rattle.tf_config.specs.Catalogue.{Indices, fields_of}
use Rattle.tf_config.specs.Checks.{told_if}
use Rattle.tf_config.specs.Drafts.{beside, sources, drafted}
use Rattle.tf_config.specs.Forms.{form_faults, paths, is_unknown_fault, is_missing_fault, is_wrong_kind_fault}
use Rattle.tf_config.specs.Refusals.{Faults, first_refusal, refusal_by, no_faults}

-- ---- the query

-- what the query's tree reads as; where there is none every document matches
abbrev pub query_by : Mapping → Option Tree → Result Query QueryError
query_by fields None = Ok MatchAll
query_by fields (Some t) = query.reading fields t

abbrev pub query_tree : Tree → Option Tree
query_tree t = beside (codes "query") (member_of t (codes "source"))

-- the same by the fields of the sources that the tree names
abbrev pub query_of : Indices → Tree → Result Query QueryError
query_of indices t = query_by (fields_of indices (sources t)) (query_tree t)

-- the query that is kept, where one at fault is none
abbrev pub kept : Result Query QueryError → Query
kept (Ok q) = q
kept (Err refusal) = MatchAll

-- what is at fault in a query
abbrev pub query_faults : Result Query QueryError → QueryFaults
query_faults (Err (query_error.Unknown path)) = record no_faults { unknown = Some path }
query_faults (Err (query_error.WrongKind path)) = record no_faults { wrong_kind = Some path }
query_faults (Err (query_error.TooDeep what)) = record no_faults { too_deep = Some what }
query_faults (Err (query_error.NoSuchField field)) = record no_faults { unmapped = Some field }
query_faults _ = no_faults

-- ---- the form

-- whether both of `pivot` and `latest` stand, or neither
abbrev pub has_both_or_neither : Tree → Bool
has_both_or_neither t = if is_some (member_of t (codes "pivot")) then is_some (member_of t (codes "latest")) else not (is_some (member_of t (codes "latest")))

-- the kinds of refusal that a tree's form has, in their order
abbrev pub faults_of_tree : Bool → Tree → QueryFaults → List Faults
faults_of_tree need_dest t query =
    (error.UnknownSetting, paths is_unknown_fault (form_faults need_dest t) ++ option_to_list query.unknown)
    ∷ (error.Missing, paths is_missing_fault (form_faults need_dest t))
    ∷ (error.WrongKind, paths is_wrong_kind_fault (form_faults need_dest t) ++ option_to_list query.wrong_kind)
    ∷ (error.BothOrNeither, told_if (has_both_or_neither t) (codes "pivot"))
    ∷ []

-- ---- the configuration

-- a destination is looked at where one is needed or there
abbrev pub looks_at_dest : Bool → Tree → Bool
looks_at_dest need_dest t = need_dest || is_some (member_of t (codes "dest"))

-- the first refusal of the tree's form, and else of the configuration that it stands for
abbrev pub refusal_with : Indices → Bool → Tree → Result Query QueryError → Option ConfigError
refusal_with indices need_dest t query =
    option_or (first_refusal (faults_of_tree need_dest t (query_faults query)))
    (refusal_by indices (looks_at_dest need_dest t) (query_faults query) (drafted (kept query) t))

abbrev pub unless : Option ConfigError → Config → Result Config ConfigError
unless None c = Ok c
unless (Some refusal) c = Err refusal

abbrev pub reading_with : Indices → Bool → Tree → Result Query QueryError → Result Config ConfigError
reading_with indices need_dest t query = unless (refusal_with indices need_dest t query) (drafted (kept query) t)

-- what a tree reads as, with or without a destination
unfoldable pub reading : Indices → Bool → Tree → Result Config ConfigError
reading indices need_dest t = reading_with indices need_dest t (query_of indices t)

-- an answer, or want of memory
abbrev pub Reads : Result Config ConfigError → Result Config ConfigError → Type 0
Reads wanted (Err error.Memory) = Unit {0}
Reads wanted answer = answer ≡ wanted
