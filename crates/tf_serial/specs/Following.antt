-- The moves that follow a command, behind the entries that it makes itself.
use Rattle.std.specs.Prelude.{ℕ, ℤ, Bool, true, false, List, if◌then◌else◌}
use Rattle.tf_model.specs.declared.entry.Entry.{Entry}
use Rattle.tf_command.specs.declared.command.Op.{Op}
use Rattle.tf_command.specs.declared.command.Op.TheVariants as op
use Rattle.tf_decide.specs.Asking.{may_step}
use Rattle.tf_decide.specs.Replying.{is_refused}
use Rattle.tf_decide.specs.declared.asked.Answer.{Answer}
use Rattle.tf_serial.specs.Moves.{moves, settled}

pub data Following : Type 0 where
  Nothing : Following
  Step : List ℕ → Following  -- the next move of a transform, where it has one
  Settling : Following  -- moves until there is none

-- the moves that are asked for: by `settle` a settling, by `step` one move of its transform, by every other command none
abbrev pub moves_of : Op → Following
moves_of op.Settle = Settling
moves_of (op.Step id) = Step id
moves_of _ = Nothing

-- the moves that follow a command, by what is told of it; none follows one that is refused
abbrev pub following : Answer → Op → Following
following told o = if is_refused told then Nothing else moves_of o

-- the past after them, where a moment is given
abbrev pub followed : ℤ → Following → List Entry → List Entry
followed given Nothing past = past
followed given (Step id) past = moves given 1 id past
followed given Settling past = settled given past

-- the same as a test of an op: whether moves may follow it after a past, for it is `settle`, or a `step` that is not refused
abbrev pub is_followed : List Entry → Op → Bool
is_followed past op.Settle = true
is_followed past (op.Step id) = may_step past id
is_followed past _ = false
