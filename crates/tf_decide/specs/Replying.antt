-- The reply to a command, by what was asked for and the past after it.
use Rattle.std.specs.Prelude.{◌≡◌, ℕ, ℤ, Bool, true, false, List, [], ◌++◌, length, map, reverse, take, Option, Some, None}
use Rattle.std.specs.List.{filter, find}
use Rattle.std.specs.Option.{option_map}
use Rattle.tf_model.specs.declared.config.Config.{Config}
use Rattle.tf_model.specs.declared.config.Shape.{Shape}
use Rattle.tf_model.specs.declared.config.Shape.TheVariants as shape
use Rattle.tf_model.specs.declared.entry.Entry.{Entry}
use Rattle.tf_model.specs.declared.entry.Row.{Row}
use Rattle.tf_model.specs.declared.entry.Row.TheVariants as row
use Rattle.tf_model.specs.declared.task.State.TheVariants as state
use Rattle.tf_model.specs.declared.tree.Tree.{Tree}
use Rattle.tf_model.specs.declared.tree.Tree.TheVariants as tree
use Rattle.tf_model.specs.declared.value.Key.{Key}
use Rattle.tf_model.specs.Changed.{is_after}
use Rattle.tf_command.specs.declared.command.Parts.{Parts}
use Rattle.tf_command.specs.declared.command.Op.{Op}
use Rattle.tf_command.specs.declared.command.Op.TheVariants as op
use Rattle.tf_reply.specs.declared.replies.Hit.{Hit}
use Rattle.tf_reply.specs.declared.replies.Reply.{Reply}
use Rattle.tf_reply.specs.declared.replies.Reply.TheVariants as reply
use Rattle.tf_reply.specs.Sources.{pivot_source}
use Rattle.tf_history.specs.Lives.{Life, life}
use Rattle.tf_history.specs.Meaning.{row_key}
use Rattle.tf_history.specs.Transforms.{PutTransform, transforms}
use Rattle.tf_core.specs.Legal.{read}
use Rattle.tf_core.specs.Lookups.{is_into}
use Rattle.tf_decide.specs.declared.asked.Answer.{Answer}
use Rattle.tf_decide.specs.declared.asked.Answer.TheVariants as answer
use Rattle.tf_decide.specs.declared.asked.Asked.{Asked}
use Rattle.tf_decide.specs.declared.asked.Search.{Search}
use Rattle.tf_decide.specs.Asking.{asked}

-- the past after the entries that are asked for
abbrev pub past_after : List Entry → Asked → List Entry
past_after past a = reverse a.entries ++ past

-- how a transform stands; one that is not there was never started
abbrev pub task : ℕ → ℕ → List ℕ → Option Life → Reply
task line count id None = reply.Task line count id state.Stopped 0
task line count id (Some l) = reply.Task line count id l.state l.finished

-- ---- rows
-- the `_source` of a row of a pivot
abbrev pub source_by : Bool → Shape → Row → Tree
source_by epoch_millis (shape.Pivot groups aggs) (row.Pivot key values) = pivot_source groups aggs epoch_millis key values
source_by epoch_millis _ _ = tree.Null

abbrev pub hit_of : Config → Row → Hit
hit_of c r = record { key = row_key r; source = source_by c.epoch_millis c.shape r }

abbrev pub rows_of : Option Life → List Row
rows_of None = []
rows_of (Some l) = l.rows

-- the rows above a key, and all where there is none
abbrev pub rows_above : Option Key → List Row → List Row
rows_above after rows = filter (λ r. is_after after (row_key r)) rows

-- the rows that a search shows: of those above its key the first ones, as many as it asks for
abbrev pub shown_rows : Search → List Row → List Row
shown_rows s rows = take s.size (rows_above s.after rows)

-- these rows of a destination, and how many rows it has
abbrev pub found_rows : ℕ → ℕ → Search → Config → List Row → Reply
found_rows line count s c rows = reply.Found line count (map (hit_of c) (shown_rows s rows)) (length rows)

abbrev pub found : ℕ → ℕ → Search → List Entry → Option PutTransform → Reply
found line count s now None = reply.Found line count [] 0
found line count s now (Some p) = found_rows line count s p.config (rows_of (life p.id (read now)))

-- the rows that a search shows by a past
abbrev pub found_now : ℕ → List Entry → Search → Reply
found_now line now s = found line (length now) s now (find (is_into s.dest) (transforms now))

-- the reply to a line by the pasts before and after it
abbrev pub reply_by : ℕ → List Entry → List Entry → Answer → Reply
reply_by line before now answer.Created = reply.Created line (length now)
reply_by line before now (answer.Written seq shard) = reply.Written line (length now) seq shard
reply_by line before now (answer.Tried items) = reply.Bulk line (length now) (length before) items
reply_by line before now (answer.Started id) = task line (length now) id (life id (read now))
reply_by line before now (answer.Stepped id) = task line (length now) id (life id (read now))
reply_by line before now answer.Settled = reply.Settled line (length now)
reply_by line before now (answer.Shown s) = found_now line now s
reply_by line before now (answer.Refused r) = reply.Refused line (length now) r

-- the reply to a command that is done after a past by an actor, where a moment is given, when its entries are there
abbrev pub replied : List Entry → ℕ → ℤ → Parts → Reply
replied past actor given command = let a = asked past actor given command.op in reply_by command.line past (past_after past a) a.answer

-- ---- after moves
abbrev pub is_refused : Answer → Bool
is_refused (answer.Refused r) = true
is_refused _ = false

abbrev pub shown_whole : List ℕ → ℕ → Option Tree → Option Answer
shown_whole name size None = Some (answer.Shown (record { dest = name; after = None; size = size }))
shown_whole name size (Some array) = None

-- What is told of a command that is not refused, where the command alone tells it. It does not where documents are written,
-- whose places the history before tells, nor where rows above a key are shown.
abbrev pub told_alone : Op → Option Answer
told_alone (op.CreateIndex name mappings shards stamp quick) = Some answer.Created
told_alone (op.PutTransform id config) = Some answer.Created
told_alone (op.Start id) = Some (answer.Started id)
told_alone (op.Step id) = Some (answer.Stepped id)
told_alone op.Settle = Some answer.Settled
told_alone (op.Search name size after) = shown_whole name size after
told_alone _ = None

-- a command is not refused after a past, whoever gives it and when
abbrev pub IsAccepted : List Entry → Op → Type 0
IsAccepted past o = (actor : ℕ) (given : ℤ) → is_refused (asked past actor given o).answer ≡ false

-- the reply to such a command by the past now
abbrev pub reply_alone : ℕ → List Entry → Op → Option Reply
reply_alone line now o = option_map (reply_by line now now) (told_alone o)

-- the reply to a command when moves were made: what it answers is told by the past before it, and what is shown by the past now
abbrev pub replied_after : List Entry → List Entry → ℕ → ℤ → Parts → Reply
replied_after before now actor given command = reply_by command.line before now (asked before actor given command.op).answer
