-- Replies as trees and as lines.
use Rattle.std.specs.Prelude.{ℕ, List, [], ◌∷◌, ◌++◌, codes, map}
use Rattle.tf_model.specs.declared.task.State.{State}
use Rattle.tf_model.specs.declared.tree.Tree.{Tree}
use Rattle.tf_model.specs.declared.tree.Tree.TheVariants as tree
use Rattle.tf_model.specs.Print.{printed}
use Rattle.tf_group.specs.Ids.{id_text}
use Rattle.tf_reply.specs.declared.replies.Hit.{Hit}
use Rattle.tf_reply.specs.declared.replies.Item.{Item}
use Rattle.tf_reply.specs.declared.replies.Item.TheVariants as item
use Rattle.tf_reply.specs.declared.replies.Reply.{Reply}
use Rattle.tf_reply.specs.declared.replies.Reply.TheVariants as reply
use Rattle.tf_reply.specs.Naming.{state_name}
use Rattle.tf_reply.specs.Objects.{Member, count, object, placed, text}
use Rattle.tf_reply.specs.Places.{line_of, no_of}
use Rattle.tf_reply.specs.Refusals.{refusal_members}
use Rattle.tf_reply.specs.Statistics.{stats_members}

-- ---- the parts of replies
abbrev pub result_members : List ℕ → List Member
result_members word = text (codes "result") word ∷ []

-- where a document stands: its number in its shard
abbrev pub place_members : ℕ → ℕ → List Member
place_members seq shard = count (codes "seq") seq ∷ count (codes "shard") shard ∷ []

abbrev pub written_members : ℕ → ℕ → List Member
written_members seq shard = place_members seq shard ++ text (codes "result") (codes "created") ∷ []

abbrev pub item_members : Item → List Member
item_members (item.Written seq shard) = place_members seq shard
item_members (item.Refused refusal) = refusal_members refusal

abbrev pub item_tree : Item → Tree
item_tree i = object (item_members i)

abbrev pub bulk_members : ℕ → List Item → List Member
bulk_members from items = count (codes "from") from ∷ (codes "items", tree.Arr (map item_tree items)) ∷ []

abbrev pub deleted_members : List ℕ → List Member
deleted_members id = text (codes "id") id ∷ text (codes "result") (codes "deleted") ∷ []

-- the last checkpoint that a transform has finished, and its state
abbrev pub task_members : List ℕ → State → ℕ → List Member
task_members id s checkpoint = count (codes "checkpoint") checkpoint ∷ text (codes "id") id ∷ text (codes "state") (state_name s) ∷ []

-- a row with its `_id`
abbrev pub hit_tree : Hit → Tree
hit_tree h = object (text (codes "_id") (id_text h.key) ∷ (codes "_source", h.source) ∷ [])

abbrev pub found_members : List Hit → ℕ → List Member
found_members hits total = (codes "hits", tree.Arr (map hit_tree hits)) ∷ count (codes "total") total ∷ []

abbrev pub preview_members : List Tree → List Member
preview_members sources = (codes "preview", tree.Arr sources) ∷ []

-- ---- replies
-- the members beside `line` and `no`
abbrev pub own_members : Reply → List Member
own_members (reply.Created line entries) = result_members (codes "created")
own_members (reply.Written line entries seq shard) = written_members seq shard
own_members (reply.Bulk line entries from items) = bulk_members from items
own_members (reply.Deleted line entries id) = deleted_members id
own_members (reply.Task line entries id s checkpoint) = task_members id s checkpoint
own_members (reply.Settled line entries) = result_members (codes "settled")
own_members (reply.Found line entries hits total) = found_members hits total
own_members (reply.Stats line entries stats) = stats_members stats
own_members (reply.Preview line entries sources) = preview_members sources
own_members (reply.Refused line entries refusal) = refusal_members refusal

unfoldable pub reply_tree : Reply → Tree
reply_tree r = placed (line_of r) (no_of r) (own_members r)

-- the printed tree
abbrev pub reply_line : Reply → List ℕ
reply_line r = printed (reply_tree r)
