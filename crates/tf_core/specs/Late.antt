-- Late documents, by what is kept of a transform.
use Rattle.std.specs.Prelude.{◌+◌, Bool, cond, ◌&&◌, nat_eq}
use Rattle.std.specs.List.{list_any}
use Rattle.std.specs.Option.{option_and_then}
use Rattle.tf_model.specs.declared.doc.Doc.{Doc}
use Rattle.tf_model.specs.Query.{meets}
use Rattle.tf_model.specs.Counted.{sync_value}
use Rattle.tf_model.specs.Retention.{date_of}
use Rattle.tf_history.specs.Lives.{is_under}
use Rattle.tf_core.specs.declared.transform.Transform.{Transform}

abbrev pub is_late_for : Transform → Doc → Bool
is_late_for t d = list_any (nat_eq d.index) t.sources && (meets d t.config.query && is_under t.bound (option_and_then date_of (sync_value t.config d)))

abbrev pub after_write : Doc → Transform → Transform
after_write d t = record t { late = cond (is_late_for t d) (t.late + 1) t.late }
