-- What a line is: a command, or its first refusal.
use Rattle.std.specs.Prelude.{◌≡◌, ℕ, pos, nat_le, Bool, false, List, [], ◌∷◌, length, codes, Option, Some, None, is_some, unwrap_or, Result, Ok, Err, if◌then◌else◌}
use Rattle.std.specs.Option.{option_and_then}
use Rattle.tf_json.specs.Reading.{Reading, not_json, fraction, tree as read_as}
use Rattle.tf_json.specs.Objects.{object_reading}
use Rattle.tf_model.specs.declared.tree.Tree.{Tree}
use Rattle.tf_model.specs.declared.tree.Tree.TheVariants as tree
use Rattle.tf_model.specs.Trees.{text_in, number_in, truth_in, members_in, member_at}
use Rattle.tf_command.specs.Forms.{object_in, array_in, size_in, lane_in, checkpoint_in, moment_in, documents_in, has_form}
use Rattle.tf_command.specs.Table.{Member, name_of, required, form_of}
use Rattle.tf_command.specs.declared.command.Parts.{Parts}
use Rattle.tf_command.specs.declared.command.Op.{Op}
use Rattle.tf_command.specs.declared.command.Op.TheVariants as op
use Rattle.tf_command.specs.declared.command.LineError.{LineError}
use Rattle.tf_command.specs.declared.command.LineError.TheVariants as error
use Rattle.tf_command.specs.declared.members.Members.{Members}
use Rattle.tf_command.specs.declared.table.Name.{Name}
use Rattle.tf_command.specs.declared.table.Name.TheVariants as name
use Rattle.tf_command.specs.declared.table.Form.{Form}

-- ---- what the members say

-- a member with a name, by what it reads as
abbrev pub read_at : {A : Type 0} → (Tree → Option A) → List (List ℕ × Tree) → List ℕ → Option A
read_at reads members name = option_and_then reads (member_at members name)

-- the same, or another value where it is absent
abbrev pub or_else : {A : Type 0} → A → (Tree → Option A) → List (List ℕ × Tree) → List ℕ → A
or_else other reads members name = unwrap_or (read_at reads members name) other

-- What the members of a command say. An absent one has its default; what a command must have is there, and has here
-- nothing in its place.
abbrev pub members_of : List (List ℕ × Tree) → Members
members_of members = record {
  after = read_at array_in members (codes "after");
  at_ms = read_at moment_in members (codes "at");
  checkpoint = or_else 0 checkpoint_in members (codes "checkpoint");
  config = or_else tree.Null object_in members (codes "config");
  doc = or_else tree.Null object_in members (codes "doc");
  docs = or_else [] documents_in members (codes "docs");
  force = or_else false truth_in members (codes "force");
  id = or_else [] text_in members (codes "id");
  index = or_else [] text_in members (codes "index");
  lane = or_else 0 lane_in members (codes "lane");
  mappings = or_else tree.Null object_in members (codes "mappings");
  shards = or_else (pos 1) number_in members (codes "shards");
  size = or_else 10 size_in members (codes "size");
  stamp = read_at text_in members (codes "stamp");
  wait = or_else false truth_in members (codes "wait_for_checkpoint");
}

-- the command's own part; an index never answers quickly yet
abbrev pub op_of : Name → Members → Op
op_of name.CreateIndex m = op.CreateIndex m.index m.mappings m.shards m.stamp false
op_of name.Index m = op.Index m.index m.id m.doc
op_of name.Bulk m = op.Bulk m.index m.docs
op_of name.PutTransform m = op.PutTransform m.id m.config
op_of name.Delete m = op.Delete m.id
op_of name.Start m = op.Start m.id
op_of name.Stop m = op.Stop m.id m.wait m.force
op_of name.Reset m = op.Reset m.id
op_of name.ScheduleNow m = op.ScheduleNow m.id
op_of name.Step m = op.Step m.id
op_of name.Await m = op.Await m.id m.checkpoint
op_of name.Settle m = op.Settle
op_of name.Search m = op.Search m.index m.size m.after
op_of name.Stats m = op.Stats m.id
op_of name.Preview m = op.Preview m.config

abbrev pub parts_from : ℕ → Name → Members → Parts
parts_from number name m = record { line = number; lane = m.lane; at_ms = m.at_ms; op = op_of name m }

-- ---- refusals

-- the first of these members that is absent
abbrev pub first_absent : List (List ℕ × Tree) → List Member → Option (List ℕ)
first_absent members [] = None
first_absent members (wanted ∷ others) = if is_some (member_at members wanted.0) then first_absent members others else Some wanted.0

-- whether a member has the form of its name, which a member that the op has not never has
abbrev pub fits : Option Form → Tree → Bool
fits None t = false
fits (Some form) t = has_form form t

-- the first member that is not one of the op's, or has not its form
abbrev pub first_bad : Name → List (List ℕ × Tree) → Option (List ℕ)
first_bad name [] = None
first_bad name (member ∷ members) = if fits (form_of name member.0) member.1 then first_bad name members else Some member.0

abbrev pub Outcome : Type 0
Outcome = Result Parts LineError

abbrev pub if_good : ℕ → Name → List (List ℕ × Tree) → Option (List ℕ) → Outcome
if_good number name members None = Ok (parts_from number name (members_of members))
if_good number name members (Some field) = Err (error.BadValue field)

abbrev pub if_complete : ℕ → Name → List (List ℕ × Tree) → Option (List ℕ) → Outcome
if_complete number name members None = if_good number name members (first_bad name members)
if_complete number name members (Some field) = Err (error.MissingField field)

abbrev pub if_known : ℕ → List (List ℕ × Tree) → Option Name → Outcome
if_known number members None = Err error.UnknownOp
if_known number members (Some name) = if_complete number name members (first_absent members (required name))

-- the op that the member `op` names
abbrev pub op_in : List (List ℕ × Tree) → Option Name
op_in members = option_and_then name_of (read_at text_in members (codes "op"))

abbrev pub if_object : ℕ → Option (List (List ℕ × Tree)) → Outcome
if_object number None = Err error.BadJson
if_object number (Some members) = if_known number members (op_in members)

abbrev pub if_read : ℕ → Reading → Outcome
if_read number not_json = Err error.BadJson
if_read number (fraction path) = Err (error.Fraction path)
if_read number (read_as t) = if_object number (members_in t)

-- how many bytes a line may have
abbrev pub max_line : ℕ
max_line = 1048576

-- the command that a line with a number is, or why it is none
abbrev pub command_of : ℕ → List ℕ → Outcome
command_of number line = if nat_le (length line) max_line then if_read number (object_reading line) else Err (error.LineTooLong (length line))

-- a refusal, or want of memory
abbrev pub Tells : LineError → LineError → Type 0
Tells wanted error.Memory = Unit {0}
Tells wanted told = told ≡ wanted

-- an answer, or want of memory
abbrev pub Answers : Outcome → Outcome → Type 0
Answers wanted (Err error.Memory) = Unit {0}
Answers wanted answer = answer ≡ wanted
