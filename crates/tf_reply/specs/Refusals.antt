-- What a refusal tells.
use Rattle.std.specs.Prelude.{ℕ, List, [], ◌∷◌, ◌++◌, codes, Option, Some, None}
use Rattle.tf_model.specs.declared.entry.SumRange.{SumRange}
use Rattle.tf_model.specs.declared.task.State.{State}
use Rattle.tf_group.specs.Ids.{id_text}
use Rattle.tf_command.specs.declared.command.LineError.{LineError}
use Rattle.tf_command.specs.declared.command.LineError.TheVariants as line_error
use Rattle.tf_config.specs.declared.error.ConfigError.{ConfigError}
use Rattle.tf_config.specs.declared.error.ConfigError.TheVariants as config_error
use Rattle.tf_mapping.specs.declared.error.DocError.{DocError}
use Rattle.tf_mapping.specs.declared.error.DocError.TheVariants as doc_error
use Rattle.tf_mapping.specs.declared.error.MappingError.{MappingError}
use Rattle.tf_mapping.specs.declared.error.MappingError.TheVariants as mapping_error
use Rattle.tf_reply.specs.declared.faults.ConfigFault.TheVariants as config
use Rattle.tf_reply.specs.declared.faults.DocFault.TheVariants as doc
use Rattle.tf_reply.specs.declared.faults.MappingFault.TheVariants as mapping
use Rattle.tf_reply.specs.declared.faults.Refusal.{Refusal}
use Rattle.tf_reply.specs.declared.faults.Refusal.TheVariants as refusal
use Rattle.tf_reply.specs.Naming.{error_name, limit_name, state_name}
use Rattle.tf_reply.specs.Objects.{Member, count, number, text}

-- ---- the refusal that an error is, none for want of memory
abbrev pub line_refusal : LineError → Option Refusal
line_refusal (line_error.LineTooLong bytes) = Some (refusal.LineTooLong bytes)
line_refusal line_error.BadJson = Some refusal.BadJson
line_refusal (line_error.Fraction path) = Some (refusal.Fraction path)
line_refusal line_error.UnknownOp = Some refusal.UnknownOp
line_refusal (line_error.MissingField field) = Some (refusal.MissingField field)
line_refusal (line_error.BadValue field) = Some (refusal.BadValue field)
line_refusal line_error.Memory = None

abbrev pub mapping_refusal : MappingError → Option Refusal
mapping_refusal (mapping_error.UnknownSetting what) = Some (refusal.Mapping mapping.UnknownSetting what)
mapping_refusal (mapping_error.BadFieldName what) = Some (refusal.Mapping mapping.BadFieldName what)
mapping_refusal (mapping_error.UnknownType what) = Some (refusal.Mapping mapping.UnknownType what)
mapping_refusal (mapping_error.TwicePath what) = Some (refusal.Mapping mapping.TwicePath what)
mapping_refusal (mapping_error.TooManyFields what) = Some (refusal.Mapping mapping.TooManyFields what)
mapping_refusal (mapping_error.BadStamp what) = Some (refusal.Mapping mapping.BadStamp what)
mapping_refusal mapping_error.Memory = None

abbrev pub config_refusal : ConfigError → Option Refusal
config_refusal (config_error.UnknownSetting what) = Some (refusal.Config config.UnknownSetting what)
config_refusal (config_error.Missing what) = Some (refusal.Config config.Missing what)
config_refusal (config_error.WrongKind what) = Some (refusal.Config config.WrongKind what)
config_refusal (config_error.BothOrNeither what) = Some (refusal.Config config.BothOrNeither what)
config_refusal (config_error.TooMany what) = Some (refusal.Config config.TooMany what)
config_refusal (config_error.BadName what) = Some (refusal.Config config.BadName what)
config_refusal (config_error.NoSuchIndex what) = Some (refusal.Config config.NoSuchIndex what)
config_refusal (config_error.TwiceName what) = Some (refusal.Config config.TwiceName what)
config_refusal (config_error.NoSuchField what) = Some (refusal.Config config.NoSuchField what)
config_refusal (config_error.FieldTypes what) = Some (refusal.Config config.FieldTypes what)
config_refusal (config_error.NotADate what) = Some (refusal.Config config.NotADate what)
config_refusal (config_error.NotANumber what) = Some (refusal.Config config.NotANumber what)
config_refusal (config_error.BadInterval what) = Some (refusal.Config config.BadInterval what)
config_refusal (config_error.BadSpan what) = Some (refusal.Config config.BadSpan what)
config_refusal (config_error.PageSizeRange what) = Some (refusal.Config config.PageSizeRange what)
config_refusal (config_error.FrequencyRange what) = Some (refusal.Config config.FrequencyRange what)
config_refusal config_error.Memory = None

abbrev pub doc_refusal : DocError → Option Refusal
doc_refusal (doc_error.ManyValues field) = Some (refusal.Document doc.ManyValues field)
doc_refusal (doc_error.WrongType field) = Some (refusal.Document doc.WrongType field)
doc_refusal (doc_error.NotADate field) = Some (refusal.Document doc.NotADate field)
doc_refusal (doc_error.OutOfRange field) = Some (refusal.Document doc.OutOfRange field)
doc_refusal (doc_error.Stamped field) = Some (refusal.Document doc.Stamped field)
doc_refusal doc_error.Memory = None

-- ---- the members that tell it
abbrev pub one_count : List ℕ → ℕ → List Member
one_count name n = count name n ∷ []

abbrev pub one_text : List ℕ → List ℕ → List Member
one_text name value = text name value ∷ []

-- a sum outside i64: the `_id` of its row, its aggregation and its value
abbrev pub sum_members : SumRange → List Member
sum_members sum = text (codes "key") (id_text sum.key) ∷ text (codes "name") sum.name ∷ number (codes "value") sum.value ∷ []

-- the id of a document, and where the one that is kept stands
abbrev pub conflict_members : List ℕ → ℕ → ℕ → List Member
conflict_members id seq shard = text (codes "id") id ∷ count (codes "seq") seq ∷ count (codes "shard") shard ∷ []

-- the id of a transform, and its state
abbrev pub state_members : List ℕ → State → List Member
state_members id s = text (codes "id") id ∷ text (codes "state") (state_name s) ∷ []

abbrev pub details : Refusal → List Member
details (refusal.LineTooLong bytes) = one_count (codes "bytes") bytes
details refusal.BadJson = []
details (refusal.Fraction path) = one_text (codes "path") path
details refusal.UnknownOp = []
details (refusal.MissingField field) = one_text (codes "field") field
details (refusal.BadValue field) = one_text (codes "field") field
details refusal.NotHere = []
details (refusal.BadName name) = one_text (codes "name") name
details (refusal.NoSuchIndex name) = one_text (codes "name") name
details refusal.BadAfter = []
details (refusal.NoSuchTransform id) = one_text (codes "id") id
details (refusal.TransformExists id) = one_text (codes "id") id
details (refusal.Mapping fault what) = one_text (codes "what") what
details (refusal.Config fault what) = one_text (codes "what") what
details (refusal.SumRange sum) = sum_members sum
details (refusal.IndexExists name) = one_text (codes "name") name
details (refusal.Document fault field) = one_text (codes "field") field
details (refusal.VersionConflict id seq shard) = conflict_members id seq shard
details (refusal.NotStopped id s) = state_members id s
details (refusal.AlreadyStarted id s) = state_members id s
details (refusal.NotStarted id s) = state_members id s
details (refusal.AlreadyFinished id s) = state_members id s
details (refusal.IsFailed id s) = state_members id s
details (refusal.Limit what) = one_text (codes "what") (limit_name what)
details refusal.UnsupportedYet = []

-- its name and its details
abbrev pub refusal_members : Refusal → List Member
refusal_members r = details r ++ text (codes "error") (error_name r) ∷ []
