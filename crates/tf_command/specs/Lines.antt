-- What is asked of a line before it is a command.
use Rattle.std.specs.Prelude.{ℕ, ◌==◌, ◌||◌, nat_le, Bool, List, length, codes, Option, None, unwrap_or, if◌then◌else◌}
use Rattle.std.specs.List.{list_all}
use Rattle.std.specs.Option.{option_and_then}
use Rattle.tf_json.specs.Reading.{Reading, not_json, fraction, tree as read_as}
use Rattle.tf_json.specs.Objects.{object_reading}
use Rattle.tf_model.specs.Trees.{member_of}
use Rattle.tf_command.specs.Commands.{max_line}
use Rattle.tf_command.specs.Forms.{lane_in}

-- only spaces, tabs and carriage returns
abbrev pub is_blank : List ℕ → Bool
is_blank line = list_all (λ byte. byte == 32 || byte == 9 || byte == 13) line

-- the lane that the member `lane` names
abbrev pub lane_of_reading : Reading → Option ℕ
lane_of_reading not_json = None
lane_of_reading (fraction path) = None
lane_of_reading (read_as t) = option_and_then lane_in (member_of t (codes "lane"))

-- the lane of a line, 0 where it names none
abbrev pub lane_of : List ℕ → ℕ
lane_of line = if nat_le (length line) max_line then unwrap_or (lane_of_reading (object_reading line)) 0 else 0
