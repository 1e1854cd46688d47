-- The names of states and of refusals.
use Rattle.std.specs.Prelude.{ℕ, List, codes}
use Rattle.tf_model.specs.declared.task.State.{State}
use Rattle.tf_model.specs.declared.task.State.TheVariants as state
use Rattle.tf_reply.specs.declared.faults.ConfigFault.{ConfigFault}
use Rattle.tf_reply.specs.declared.faults.ConfigFault.TheVariants as config
use Rattle.tf_reply.specs.declared.faults.DocFault.{DocFault}
use Rattle.tf_reply.specs.declared.faults.DocFault.TheVariants as doc
use Rattle.tf_reply.specs.declared.faults.Limit.{Limit}
use Rattle.tf_reply.specs.declared.faults.Limit.TheVariants as limit
use Rattle.tf_reply.specs.declared.faults.MappingFault.{MappingFault}
use Rattle.tf_reply.specs.declared.faults.MappingFault.TheVariants as mapping
use Rattle.tf_reply.specs.declared.faults.Refusal.{Refusal}
use Rattle.tf_reply.specs.declared.faults.Refusal.TheVariants as refusal

abbrev pub state_name : State → List ℕ
state_name state.Stopped = codes "stopped"
state_name state.Started = codes "started"
state_name state.Indexing = codes "indexing"
state_name state.Stopping = codes "stopping"
state_name state.Failed = codes "failed"

abbrev pub limit_name : Limit → List ℕ
limit_name limit.Indices = codes "indices"
limit_name limit.Shards = codes "shards"
limit_name limit.Transforms = codes "transforms"
limit_name limit.Documents = codes "documents"

abbrev pub mapping_name : MappingFault → List ℕ
mapping_name mapping.UnknownSetting = codes "mapping_unknown_setting"
mapping_name mapping.BadFieldName = codes "mapping_bad_field_name"
mapping_name mapping.UnknownType = codes "mapping_unknown_type"
mapping_name mapping.TwicePath = codes "mapping_twice_path"
mapping_name mapping.TooManyFields = codes "mapping_too_many_fields"
mapping_name mapping.BadStamp = codes "mapping_bad_stamp"

abbrev pub config_name : ConfigFault → List ℕ
config_name config.UnknownSetting = codes "config_unknown_setting"
config_name config.Missing = codes "config_missing"
config_name config.WrongKind = codes "config_wrong_kind"
config_name config.BothOrNeither = codes "config_both_or_neither"
config_name config.TooMany = codes "config_too_many"
config_name config.BadName = codes "config_bad_name"
config_name config.NoSuchIndex = codes "config_no_such_index"
config_name config.TwiceName = codes "config_twice_name"
config_name config.NoSuchField = codes "config_no_such_field"
config_name config.FieldTypes = codes "config_field_types"
config_name config.NotADate = codes "config_not_a_date"
config_name config.NotANumber = codes "config_not_a_number"
config_name config.BadInterval = codes "config_bad_interval"
config_name config.BadSpan = codes "config_bad_span"
config_name config.PageSizeRange = codes "config_page_size_range"
config_name config.FrequencyRange = codes "config_frequency_range"

abbrev pub doc_name : DocFault → List ℕ
doc_name doc.ManyValues = codes "doc_many_values"
doc_name doc.WrongType = codes "doc_wrong_type"
doc_name doc.NotADate = codes "doc_not_a_date"
doc_name doc.OutOfRange = codes "doc_out_of_range"
doc_name doc.Stamped = codes "doc_stamped"

-- the name by which a reply tells a refusal
abbrev pub error_name : Refusal → List ℕ
error_name (refusal.LineTooLong bytes) = codes "line_too_long"
error_name refusal.BadJson = codes "bad_json"
error_name (refusal.Fraction path) = codes "fraction"
error_name refusal.UnknownOp = codes "unknown_op"
error_name (refusal.MissingField field) = codes "missing_field"
error_name (refusal.BadValue field) = codes "bad_value"
error_name refusal.NotHere = codes "not_here"
error_name (refusal.BadName name) = codes "bad_name"
error_name (refusal.NoSuchIndex name) = codes "no_such_index"
error_name refusal.BadAfter = codes "bad_after"
error_name (refusal.NoSuchTransform id) = codes "no_such_transform"
error_name (refusal.TransformExists id) = codes "transform_exists"
error_name (refusal.Mapping fault what) = mapping_name fault
error_name (refusal.Config fault what) = config_name fault
error_name (refusal.SumRange sum) = codes "sum_range"
error_name (refusal.IndexExists name) = codes "index_exists"
error_name (refusal.Document fault field) = doc_name fault
error_name (refusal.VersionConflict id seq shard) = codes "version_conflict"
error_name (refusal.NotStopped id s) = codes "not_stopped"
error_name (refusal.AlreadyStarted id s) = codes "already_started"
error_name (refusal.NotStarted id s) = codes "not_started"
error_name (refusal.AlreadyFinished id s) = codes "already_finished"
error_name (refusal.IsFailed id s) = codes "is_failed"
error_name (refusal.Limit what) = codes "limit"
error_name refusal.UnsupportedYet = codes "unsupported_yet"
