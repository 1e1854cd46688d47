-- The law of refusals: none depends on the moment, nor on who gives the command.
use Rattle.std.specs.Prelude.{◌≡◌, ℕ, ℤ, List}
use Rattle.tf_model.specs.declared.entry.Entry.{Entry}
use Rattle.tf_command.specs.declared.command.Op.{Op}
use Rattle.tf_decide.specs.declared.asked.Answer.{Answer}
use Rattle.tf_decide.specs.Asking.{asked}

-- what is told of a command after a past: its refusal, or what it does, with the refusals among the documents of a bulk
abbrev pub answer_to : List Entry → ℕ → ℤ → Op → Answer
answer_to past actor given op = (asked past actor given op).answer

-- After a past a command is told the same by any two actors and at any two moments. So whether it is refused, and with
-- what, depends on neither.
abbrev pub NoRefusalDependsOnTheMoment : Type 0
NoRefusalDependsOnTheMoment = (past : List Entry) (actor other : ℕ) (given later : ℤ) (op : Op) → answer_to past actor given op ≡ answer_to past other later op
