-- A row of the table as the code has it.
use Rattle.std.specs.Prelude.{ℕ, List}
use Rattle.std.specs.Borrow.{Bor}
use Rattle.tf_command.specs.declared.table.Form.{Form}

abbrev pub seen : Bor (List ℕ) × Form → List ℕ × Form
seen member = (member.0.now, member.1)
