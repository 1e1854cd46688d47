-- Worked cases, by computation.
use Rattle.std.proofs.Common.{◌≡◌, pos, [], ◌∷◌, Some, None, true, false, refl}
use Rattle.std.specs.Prelude.{codes}
use Rattle.tf_model.specs.declared.config.AggKind.TheVariants as agg
use Rattle.tf_model.specs.declared.config.GroupKind.TheVariants as group
use Rattle.tf_model.specs.declared.task.State.TheVariants as state
use Rattle.tf_model.specs.declared.tree.Tree.{Tree}
use Rattle.tf_model.specs.declared.tree.Tree.TheVariants as tree
use Rattle.tf_model.specs.declared.value.Key.{Key}
use Rattle.tf_model.specs.declared.value.Value.TheVariants as value
use Rattle.tf_command.specs.declared.command.LineError.TheVariants as line_error
use Rattle.tf_reply.specs.declared.faults.ConfigFault.TheVariants as config
use Rattle.tf_reply.specs.declared.faults.Refusal.TheVariants as refusal
use Rattle.tf_reply.specs.declared.replies.Item.TheVariants as item
use Rattle.tf_reply.specs.declared.replies.Reply.TheVariants as reply
use Rattle.tf_reply.specs.Answers.{hit_tree, reply_tree}
use Rattle.tf_reply.specs.Objects.{count, number, object, text}
use Rattle.tf_reply.specs.Refusals.{line_refusal}
use Rattle.tf_reply.specs.Sources.{pivot_source}

created : reply_tree (reply.Created 1 1) ≡ tree.Obj (count (codes "line") 1 ∷ count (codes "no") 1 ∷ text (codes "result") (codes "created") ∷ [])
unfolding reply_tree object
created = refl

written : reply_tree (reply.Written 3 3 1 0)
    ≡ tree.Obj (count (codes "line") 3 ∷ count (codes "no") 3 ∷ text (codes "result") (codes "created") ∷ count (codes "seq") 1 ∷ count (codes "shard") 0 ∷ [])
unfolding reply_tree object
written = refl

started : reply_tree (reply.Task 6 6 (codes "t") state.Started 0)
    ≡ tree.Obj (count (codes "checkpoint") 0 ∷ text (codes "id") (codes "t") ∷ count (codes "line") 6 ∷ count (codes "no") 6 ∷ text (codes "state") (codes "started") ∷ [])
unfolding reply_tree object
started = refl

settled : reply_tree (reply.Settled 7 10) ≡ tree.Obj (count (codes "line") 7 ∷ count (codes "no") 10 ∷ text (codes "result") (codes "settled") ∷ [])
unfolding reply_tree object
settled = refl

-- the hits stand before the place of the reply, and their number after it
found : (key : Key) (source : Tree) → reply_tree (reply.Found 8 10 (record { key = key; source = source } ∷ []) 2)
    ≡ tree.Obj ((codes "hits", tree.Arr (hit_tree (record { key = key; source = source }) ∷ [])) ∷ count (codes "line") 8 ∷ count (codes "no") 10 ∷ count (codes "total") 2 ∷ [])
unfolding reply_tree object
found key source = refl

-- a transform that has finished its second checkpoint
stats : reply_tree (reply.Stats 11 13 (record {
  id = codes "t";
  state = state.Started;
  late = 0;
  last = Some (record { number = 2; began_ms = pos 4000; bound_ms = Some (pos 4000) });
  next = None;
  operations_behind = 0;
  documents_deleted = 0;
  documents_indexed = 4;
  pages_processed = 2;
  trigger_count = 2;
  reason = None;
}))
    ≡ tree.Obj ((
      codes "checkpointing",
      tree.Obj ((codes "last", tree.Obj (count (codes "checkpoint") 2 ∷ number (codes "time_upper_bound_millis") (pos 4000) ∷ number (codes "timestamp_millis") (pos 4000) ∷ []))
          ∷ count (codes "operations_behind") 0 ∷ []),
    )
    ∷ text (codes "id") (codes "t") ∷ count (codes "late") 0 ∷ count (codes "line") 11 ∷ count (codes "no") 13 ∷ text (codes "state") (codes "started")
    ∷ (codes "stats", tree.Obj (count (codes "documents_deleted") 0 ∷ count (codes "documents_indexed") 4 ∷ count (codes "pages_processed") 2 ∷ count (codes "trigger_count") 2 ∷ [])) ∷ [])
unfolding reply_tree object
stats = refl

fraction : reply_tree (reply.Refused 3 2 (refusal.Fraction (codes "doc.v")))
    ≡ tree.Obj (text (codes "error") (codes "fraction") ∷ count (codes "line") 3 ∷ count (codes "no") 2 ∷ text (codes "path") (codes "doc.v") ∷ [])
unfolding reply_tree object
fraction = refl

conflict : reply_tree (reply.Refused 3 2 (refusal.VersionConflict (codes "1") 0 0))
    ≡ tree.Obj (text (codes "error") (codes "version_conflict") ∷ text (codes "id") (codes "1") ∷ count (codes "line") 3 ∷ count (codes "no") 2 ∷ count (codes "seq") 0 ∷ count (codes "shard") 0 ∷ [])
unfolding reply_tree object
conflict = refl

too_long : reply_tree (reply.Refused 3 2 (refusal.LineTooLong 1048577))
    ≡ tree.Obj (count (codes "bytes") 1048577 ∷ text (codes "error") (codes "line_too_long") ∷ count (codes "line") 3 ∷ count (codes "no") 2 ∷ [])
unfolding reply_tree object
too_long = refl

bad_json : reply_tree (reply.Refused 3 2 refusal.BadJson) ≡ tree.Obj (text (codes "error") (codes "bad_json") ∷ count (codes "line") 3 ∷ count (codes "no") 2 ∷ [])
unfolding reply_tree object
bad_json = refl

not_stopped : reply_tree (reply.Refused 7 6 (refusal.NotStopped (codes "t") state.Started))
    ≡ tree.Obj (text (codes "error") (codes "not_stopped") ∷ text (codes "id") (codes "t") ∷ count (codes "line") 7 ∷ count (codes "no") 6 ∷ text (codes "state") (codes "started") ∷ [])
unfolding reply_tree object
not_stopped = refl

bad_config : reply_tree (reply.Refused 5 4 (refusal.Config config.BadSpan (codes "delay")))
    ≡ tree.Obj (text (codes "error") (codes "config_bad_span") ∷ count (codes "line") 5 ∷ count (codes "no") 4 ∷ text (codes "what") (codes "delay") ∷ [])
unfolding reply_tree object
bad_config = refl

-- a bulk whose second document has the id of its first
bulk : reply_tree (reply.Bulk 2 3 1 (item.Written 0 0 ∷ item.Refused (refusal.VersionConflict (codes "7") 0 0) ∷ item.Written 1 0 ∷ []))
    ≡ tree.Obj (count (codes "from") 1
    ∷ (
      codes "items",
      tree.Arr (tree.Obj (count (codes "seq") 0 ∷ count (codes "shard") 0 ∷ [])
          ∷ tree.Obj (text (codes "error") (codes "version_conflict") ∷ text (codes "id") (codes "7") ∷ count (codes "seq") 0 ∷ count (codes "shard") 0 ∷ [])
          ∷ tree.Obj (count (codes "seq") 1 ∷ count (codes "shard") 0 ∷ []) ∷ []),
    )
    ∷ count (codes "line") 2 ∷ count (codes "no") 3 ∷ [])
unfolding reply_tree object
bulk = refl

-- the row of a key with the sum of its documents
source : pivot_source (record { name = codes "k"; field = codes "k"; kind = group.Terms; missing_bucket = false } ∷ [])
    (record { name = codes "n"; field = codes "v"; kind = agg.Sum } ∷ []) false (record { parts = value.Str (codes "a") ∷ [] }) (value.Int (pos 12) ∷ [])
    ≡ tree.Obj (text (codes "k") (codes "a") ∷ count (codes "n") 12 ∷ [])
unfolding object
source = refl

-- names of groups and aggregations are mixed, and dates may stand as numbers
mixed : pivot_source (record { name = codes "m"; field = codes "d"; kind = group.DateHistogram (pos 1000); missing_bucket = true } ∷ [])
    (record { name = codes "a"; field = codes "v"; kind = agg.Min } ∷ record { name = codes "z"; field = codes "v"; kind = agg.ValueCount } ∷ []) true
    (record { parts = value.Date (pos 5000) ∷ [] }) (value.Null ∷ value.Int (pos 0) ∷ [])
    ≡ tree.Obj ((codes "a", tree.Null) ∷ count (codes "m") 5000 ∷ count (codes "z") 0 ∷ [])
unfolding object
mixed = refl

told : line_refusal (line_error.BadValue (codes "at")) ≡ Some (refusal.BadValue (codes "at"))
told = refl
