-- Where a reply stands: the number of its line, and how many entries the history had when it was made.
use Rattle.std.specs.Prelude.{ℕ}
use Rattle.tf_reply.specs.declared.replies.Reply.{Reply}
use Rattle.tf_reply.specs.declared.replies.Reply.TheVariants as reply

abbrev pub line_of : Reply → ℕ
line_of (reply.Created line entries) = line
line_of (reply.Written line entries seq shard) = line
line_of (reply.Bulk line entries from items) = line
line_of (reply.Deleted line entries id) = line
line_of (reply.Task line entries id state checkpoint) = line
line_of (reply.Settled line entries) = line
line_of (reply.Found line entries hits total) = line
line_of (reply.Stats line entries stats) = line
line_of (reply.Preview line entries sources) = line
line_of (reply.Refused line entries refused) = line

abbrev pub no_of : Reply → ℕ
no_of (reply.Created line entries) = entries
no_of (reply.Written line entries seq shard) = entries
no_of (reply.Bulk line entries from items) = entries
no_of (reply.Deleted line entries id) = entries
no_of (reply.Task line entries id state checkpoint) = entries
no_of (reply.Settled line entries) = entries
no_of (reply.Found line entries hits total) = entries
no_of (reply.Stats line entries stats) = entries
no_of (reply.Preview line entries sources) = entries
no_of (reply.Refused line entries refused) = entries
