-- What is known of a transform.
use Rattle.std.specs.Prelude.{ℤ, List, [], ◌∷◌, ◌++◌, codes, Option, Some, None}
use Rattle.tf_model.specs.declared.entry.SumRange.{SumRange}
use Rattle.tf_model.specs.declared.tree.Tree.{Tree}
use Rattle.tf_model.specs.declared.tree.Tree.TheVariants as tree
use Rattle.tf_model.specs.declared.value.Key.{Key}
use Rattle.tf_group.specs.Ids.{id_text}
use Rattle.tf_reply.specs.declared.replies.Checkpoint.{Checkpoint}
use Rattle.tf_reply.specs.declared.replies.Running.{Running}
use Rattle.tf_reply.specs.declared.replies.Stats.{Stats}
use Rattle.tf_reply.specs.Naming.{state_name}
use Rattle.tf_reply.specs.Objects.{Member, count, number, object, text}
use Rattle.tf_reply.specs.Refusals.{sum_members}

-- ---- checkpoints
-- the bound of a continuous transform's checkpoint
abbrev pub bound_members : Option ℤ → List Member
bound_members None = []
bound_members (Some ms) = number (codes "time_upper_bound_millis") ms ∷ []

abbrev pub checkpoint_members : Checkpoint → List Member
checkpoint_members c = bound_members c.bound_ms ++ count (codes "checkpoint") c.number ∷ number (codes "timestamp_millis") c.began_ms ∷ []

-- a checkpoint that is finished, or the number 0 where none is
abbrev pub last_members : Option Checkpoint → List Member
last_members None = count (codes "checkpoint") 0 ∷ []
last_members (Some c) = checkpoint_members c

abbrev pub last_tree : Option Checkpoint → Tree
last_tree last = object (last_members last)

-- the `_id` of the last row written
abbrev pub position_tree : Option Key → Tree
position_tree None = tree.Null
position_tree (Some key) = tree.Str (id_text key)

abbrev pub next_member : Running → Member
next_member r = (codes "next", object (checkpoint_members r.checkpoint ++ (codes "position", position_tree r.position) ∷ []))

abbrev pub next_members : Option Running → List Member
next_members None = []
next_members (Some r) = next_member r ∷ []

-- the last finished checkpoint, the running one if there is one, and how many documents came after the former began
abbrev pub checkpointing_members : Stats → List Member
checkpointing_members s = next_members s.next ++ (codes "last", last_tree s.last) ∷ count (codes "operations_behind") s.operations_behind ∷ []

abbrev pub checkpointing : Stats → Tree
checkpointing s = object (checkpointing_members s)

-- ---- the whole
abbrev pub count_members : Stats → List Member
count_members s =
    count (codes "documents_deleted") s.documents_deleted ∷ count (codes "documents_indexed") s.documents_indexed
    ∷ count (codes "pages_processed") s.pages_processed ∷ count (codes "trigger_count") s.trigger_count ∷ []

abbrev pub counts : Stats → Tree
counts s = object (count_members s)

-- the sum that failed the transform
abbrev pub reason_member : SumRange → Member
reason_member sum = (codes "reason", object (sum_members sum))

abbrev pub reason_members : Option SumRange → List Member
reason_members None = []
reason_members (Some sum) = reason_member sum ∷ []

abbrev pub stats_members : Stats → List Member
stats_members s =
    reason_members s.reason
    ++ (codes "checkpointing", checkpointing s) ∷ text (codes "id") s.id ∷ count (codes "late") s.late
    ∷ text (codes "state") (state_name s.state) ∷ (codes "stats", counts s) ∷ []
