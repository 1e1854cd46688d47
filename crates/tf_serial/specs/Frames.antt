-- Which entries come next as one frame of the file: those of a command, or that of a move.
use Rattle.std.specs.Prelude.{◌≡◌, ◌⊎◌, ℕ, ℤ, ◌+◌, Bool, true, false, List, [], ◌∷◌, ◌++◌, reverse, Some, Result, Ok, Err}
use Rattle.tf_model.specs.declared.entry.Entry.{Entry}
use Rattle.tf_command.specs.Commands.{command_of}
use Rattle.tf_command.specs.Lines.{is_blank}
use Rattle.tf_command.specs.declared.command.Parts.{Parts}
use Rattle.tf_command.specs.declared.command.LineError.{LineError}
use Rattle.tf_core.specs.Listing.{ids_after}
use Rattle.tf_serial.specs.Moves.{moves, next_move, pass, passes}
use Rattle.tf_serial.specs.Following.{Following, Nothing, Step, Settling, following}
use Rattle.tf_serial.specs.Script.{after_line, asked, given}

-- behind a history, entries come next as one frame
abbrev pub Frames : Type 1
Frames = List Entry → List Entry → Type 0

-- these entries behind this history alone
abbrev pub IsOnly : List Entry → List Entry → Frames
IsOnly history entries left next = (left ≡ history) × (next ≡ entries)

-- the moves of a transform from a past on: so many are made, and the entry of the next one comes
pub record IsMove (moment : ℤ) (id : List ℕ) (past left next : List Entry) : Type 0 where
  pub made : ℕ
  pub behind : reverse left ≡ moves moment made id past
  pub entry : Entry
  pub is : next_move moment id (reverse left) ≡ Some entry
  pub alone : next ≡ entry ∷ []

-- a pass over transforms from a past on: those before this one are moved out, and a move of this one comes
pub record IsOfPass (moment : ℤ) (ids : List (List ℕ)) (past left next : List Entry) : Type 0 where
  pub before : List (List ℕ)
  pub id : List ℕ
  pub later : List (List ℕ)
  pub order : ids ≡ before ++ id ∷ later
  pub move : IsMove moment id (pass moment before past) left next

-- a settling of a past: so many passes are made, and a move of the next pass comes
pub record IsSettling (moment : ℤ) (past left next : List Entry) : Type 0 where
  pub made : ℕ
  pub move : IsOfPass moment (ids_after past) (passes moment made (ids_after past) past) left next

-- moves that follow a command
abbrev pub IsFollowing : ℤ → Following → List Entry → Frames
IsFollowing moment Nothing past left next = ⊥
IsFollowing moment (Step id) past left next = IsMove moment id past left next
IsFollowing moment Settling past left next = IsSettling moment past left next

-- what a command makes of a past: its entries where no move follows, else the moves
abbrev pub IsOfCommandBy : Following → List Entry → Parts → Frames
IsOfCommandBy Nothing past command left next = IsOnly (reverse past) (asked past command).entries left next
IsOfCommandBy f past command left next = IsFollowing (given past command) f past left next

abbrev pub IsOfCommand : List Entry → Parts → Frames
IsOfCommand past command left next = IsOfCommandBy (following (asked past command).answer command.op) past command left next

abbrev pub IsOfReading : List Entry → Result Parts LineError → Frames
IsOfReading past (Ok command) left next = IsOfCommand past command left next
IsOfReading past (Err error) left next = ⊥

-- what the line with a number makes of a past
abbrev pub IsOfLineBy : Bool → List Entry → ℕ → List ℕ → Frames
IsOfLineBy true past number line left next = ⊥
IsOfLineBy false past number line left next = IsOfReading past (command_of number line) left next

abbrev pub IsOfLine : List Entry → ℕ → List ℕ → Frames
IsOfLine past number line = IsOfLineBy (is_blank line) past number line

-- what lines from a number on make of a past
abbrev pub IsOfLines : List Entry → ℕ → List (List ℕ) → Frames
IsOfLines past number [] left next = ⊥
IsOfLines past number (line ∷ lines) left next = IsOfLine past number line left next ⊎ IsOfLines (after_line past number line) (number + 1) lines left next
