-- What is kept of a query, and the first refusal of a tree's form by the least paths that a walk has noted.
use Rattle.std.specs.Prelude.{◌≡◌, Bool, codes, Option, Result}
use Rattle.std.specs.List.{fold}
use Rattle.std.specs.Option.{option_map, option_or, option_to_list}
use Rattle.tf_model.specs.declared.config.Config.{Config}
use Rattle.tf_model.specs.declared.query.Query.{Query}
use Rattle.tf_model.specs.declared.tree.Tree.{Tree}
use Rattle.tf_query.specs.declared.error.QueryError.{QueryError}
use Rattle.tf_mapping.specs.Least.{lesser_text, least_text}
use Rattle.tf_config.specs.declared.error.ConfigError.{ConfigError}
use Rattle.tf_config.specs.declared.error.ConfigError.TheVariants as error
use Rattle.tf_config.specs.declared.forms.FormFaults.{FormFaults}
use Rattle.tf_config.specs.declared.query.QueryFaults.{QueryFaults}
use Rattle.tf_config.specs.Catalogue.{Indices}
use Rattle.tf_config.specs.Checks.{told_if}
use Rattle.tf_config.specs.Drafts.{drafted}
use Rattle.tf_config.specs.Reading.{kept, query_faults, has_both_or_neither, faults_of_tree, looks_at_dest, unless}
use Rattle.tf_config.specs.Refusals.{first_refusal, refusal_by}

abbrev pub first_noted : FormFaults → QueryFaults → Tree → Option ConfigError
first_noted form query t =
    option_or (option_map error.UnknownSetting (fold lesser_text form.unknown (option_to_list query.unknown)))
    (option_or (option_map error.Missing form.missing)
    (option_or (option_map error.WrongKind (fold lesser_text form.wrong_kind (option_to_list query.wrong_kind)))
    (option_map error.BothOrNeither (least_text (told_if (has_both_or_neither t) (codes "pivot"))))))

-- what is kept of a query that was read, and what is at fault with it
abbrev pub IsRead : Result Query QueryError → Query → QueryFaults → Type 0
IsRead read query faults = (query ≡ kept read) × (faults ≡ query_faults read)

-- what a tree reads as, with a query that is kept and what is at fault with it
abbrev pub read_by : Indices → Bool → Tree → Query → QueryFaults → Result Config ConfigError
read_by indices need_dest t query faults =
    unless (option_or (first_refusal (faults_of_tree need_dest t faults)) (refusal_by indices (looks_at_dest need_dest t) faults (drafted query t))) (drafted query t)
