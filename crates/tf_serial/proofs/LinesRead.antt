-- A line that is read.
use Rattle.std.proofs.Common.{◌≡◌, ℕ, true, false, List, [], ◌∷◌, ◌++◌, Err, sym, ap, subst}
use Rattle.std.specs.Prelude.{IsSome, Result, if◌then◌else◌}
use Rattle.tf_model.specs.declared.entry.Entry.{Entry}
use Rattle.tf_command.specs.Commands.{Answers, command_of}
use Rattle.tf_command.specs.Lines.{is_blank}
use Rattle.tf_command.specs.declared.command.Parts.{Parts}
use Rattle.tf_command.specs.declared.command.LineError.{LineError}
use Rattle.tf_command.specs.declared.command.LineError.TheVariants as line_error
use Rattle.tf_reply.specs.Answers.{reply_line}
use Rattle.tf_reply.specs.Refusals.{line_refusal}
use Rattle.tf_serial.specs.Frames.{IsOfLine, IsOfLineBy, IsOfReading}
use Rattle.tf_serial.specs.Script.{after_line, after_reading, reply_to, reply_to_reading}

-- a refusal that is told is what the line is
pub answered : (wanted : Result Parts LineError) (error : LineError) → IsSome (line_refusal error) → Answers wanted (Err error) → wanted ≡ Err error
answered wanted line_error.Memory some is = absurd (let wrong : false ≡ true = some in cc)
answered wanted _ some is = sym is

module _ (past : List Entry) (number : ℕ) (line : List ℕ) (is : is_blank line ≡ false) where
  -- a line that is not blank
  pub after_read : after_line past number line ≡ after_reading past (command_of number line)
  after_read = ap (λ b. if b then past else after_reading past (command_of number line)) is

  pub reply_read : reply_to past number line ≡ reply_line (reply_to_reading past number (command_of number line)) ++ 10 ∷ []
  reply_read = ap (λ b. if b then [] else reply_line (reply_to_reading past number (command_of number line)) ++ 10 ∷ []) is

  pub frames_read : (left next : List Entry) → IsOfReading past (command_of number line) left next → IsOfLine past number line left next
  frames_read left next of = subst (λ b. IsOfLineBy b past number line left next) (sym is) of
