-- What the lines of a script do to the history, and what is replied to them.
use Rattle.std.specs.Prelude.{◌≡◌, ℕ, ℤ, ◌+◌, ◌<◌, List, [], ◌∷◌, ◌++◌, length, reverse, take, Some, Result, Ok, Err, unwrap_or, if◌then◌else◌}
use Rattle.tf_model.specs.declared.entry.Entry.{Entry}
use Rattle.tf_command.specs.Commands.{command_of}
use Rattle.tf_command.specs.Lines.{is_blank}
use Rattle.tf_command.specs.declared.command.Parts.{Parts}
use Rattle.tf_command.specs.declared.command.LineError.{LineError}
use Rattle.tf_reply.specs.Answers.{reply_line}
use Rattle.tf_reply.specs.Refusals.{line_refusal}
use Rattle.tf_reply.specs.declared.replies.Reply.{Reply}
use Rattle.tf_reply.specs.declared.replies.Reply.TheVariants as reply
use Rattle.tf_history.specs.Entries.{IsGroupedBy}
use Rattle.tf_history.specs.Entries as entries
use Rattle.tf_history.specs.Legality.{IsIdle}
use Rattle.tf_history.specs.Lives.{Life, life}
use Rattle.tf_history.specs.Transforms.{PutTransform, transform_of}
use Rattle.tf_core.specs.Moves.{last_ms_in}
use Rattle.tf_mapping.specs.Documents.{values_of}
use Rattle.tf_decide.specs.Asking as decide
use Rattle.tf_decide.specs.Asking.{refusal_or}
use Rattle.tf_decide.specs.Replying.{past_after, replied_after}
use Rattle.tf_decide.specs.declared.asked.Asked.{Asked}
use Rattle.tf_serial.specs.Following.{followed, following}

-- ---- commands
-- the moment that a command gives, or that of the newest entry where it gives none
abbrev pub given : List Entry → Parts → ℤ
given past command = unwrap_or command.at_ms (last_ms_in past)

-- what a command asks for; where one thread makes the entries, the actor of commands is 0
abbrev pub asked : List Entry → Parts → Asked
asked past command = decide.asked past 0 (given past command) command.op

-- the past after a command: after the entries that it asks for, and after the moves that follow it
abbrev pub after_command : List Entry → Parts → List Entry
after_command past command = let a = asked past command in followed (given past command) (following a.answer command.op) (past_after past a)

-- the reply to a command
abbrev pub reply_of : List Entry → Parts → Reply
reply_of past command = replied_after past (after_command past command) 0 (given past command) command

-- ---- lines
-- the past after a line that was read
abbrev pub after_reading : List Entry → Result Parts LineError → List Entry
after_reading past (Ok command) = after_command past command
after_reading past (Err error) = past

-- the past after the line with a number
abbrev pub after_line : List Entry → ℕ → List ℕ → List Entry
after_line past number line = if is_blank line then past else after_reading past (command_of number line)

-- the reply to a line that was read; no reading wants memory
abbrev pub reply_to_reading : List Entry → ℕ → Result Parts LineError → Reply
reply_to_reading past number (Ok command) = reply_of past command
reply_to_reading past number (Err error) = reply.Refused number (length past) (refusal_or (line_refusal error))

-- the reply to the line with a number, and a newline (10); none to a blank line
abbrev pub reply_to : List Entry → ℕ → List ℕ → List ℕ
reply_to past number line = if is_blank line then [] else reply_line (reply_to_reading past number (command_of number line)) ++ 10 ∷ []

-- the replies to lines from a number on, done in order from a past
abbrev pub output : List Entry → ℕ → List (List ℕ) → List ℕ
output past number [] = []
output past number (line ∷ lines) = reply_to past number line ++ output (after_line past number line) (number + 1) lines

-- the past when lines from a number on are done
abbrev pub after : List Entry → ℕ → List (List ℕ) → List Entry
after past number [] = past
after past number (line ∷ lines) = after (after_line past number line) (number + 1) lines

-- the history, oldest entry first, when the lines of a script are done
abbrev pub history_after : List Entry → List (List ℕ) → List Entry
history_after history lines = reverse (after (reverse history) 1 lines)

-- Wherever a history, oldest entry first, has a finished transform, its rows are the grouping from scratch: of a continuous
-- one with nothing late that of all documents written into its sources below the last bound, of a batch one that of the
-- documents that its checkpoint read.
abbrev pub IsGrouped : List Entry → Type 0
IsGrouped history = (k : ℕ) (t : List ℕ) (p : PutTransform) (l : Life) → transform_of t (reverse (take k history)) ≡ Some p → life t (entries.read values_of (take k history)) ≡ Some l
    → IsIdle l → 0 < l.finished → IsGroupedBy p l (entries.read values_of (take k history))
