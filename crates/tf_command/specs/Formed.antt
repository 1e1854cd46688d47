-- What every command keeps to.
use Rattle.std.specs.Prelude.{ℕ, ◌≤◌, ◌<◌, ◌^◌, List, length, All, IsSome, IfSome}
use Rattle.std.specs.List.{AllByRecursion}
use Rattle.tf_model.specs.declared.tree.Tree.{Tree}
use Rattle.tf_model.specs.Lines.{IsLine, IsWhole}
use Rattle.tf_model.specs.Print.{printed}
use Rattle.tf_model.specs.Trees.{items_in, members_in}
use Rattle.tf_command.specs.Commands.{max_line}
use Rattle.tf_command.specs.Forms.{Document}
use Rattle.tf_command.specs.declared.command.Parts.{Parts}
use Rattle.tf_command.specs.declared.command.Op.{Op}
use Rattle.tf_command.specs.declared.command.Op.TheVariants as op

-- a text no longer than a line
abbrev pub IsShort : List ℕ → Type 0
IsShort text = length text ≤ max_line

-- a tree that a line can be, and that prints as a text no longer than one
abbrev pub IsKept : Tree → Type 0
IsKept t = IsLine t × IsShort (printed t)

-- members with such trees
abbrev pub AreKept : List (List ℕ × Tree) → Type 0
AreKept members = AllByRecursion (λ member. IsKept member.1) members

-- such a tree that is an object, or an array
abbrev pub IsObject : Tree → Type 0
IsObject t = IsSome (members_in t) × IsKept t

abbrev pub IsArray : Tree → Type 0
IsArray t = IsSome (items_in t) × IsKept t

abbrev pub IsDocumentId : List ℕ → Type 0
IsDocumentId id = (1 ≤ length id) × (length id ≤ 512)

abbrev pub IsDocument : Document → Type 0
IsDocument doc = IsDocumentId doc.0 × IsObject doc.1

-- from 1 to 10,000 documents
abbrev pub AreDocuments : List Document → Type 0
AreDocuments docs = (1 ≤ length docs) × (length docs ≤ 10000) × All IsDocument docs

-- the members of an op keep to their forms
abbrev pub IsFormedOp : Op → Type 0
IsFormedOp (op.CreateIndex index mappings shards stamp quick) = IsShort index × IsObject mappings × IsWhole shards × IfSome stamp IsShort
IsFormedOp (op.Index index id doc) = IsShort index × IsDocumentId id × IsObject doc
IsFormedOp (op.Bulk index docs) = IsShort index × AreDocuments docs
IsFormedOp (op.PutTransform id config) = IsShort id × IsObject config
IsFormedOp (op.Delete id) = IsShort id
IsFormedOp (op.Start id) = IsShort id
IsFormedOp (op.Stop id wait force) = IsShort id
IsFormedOp (op.Reset id) = IsShort id
IsFormedOp (op.ScheduleNow id) = IsShort id
IsFormedOp (op.Step id) = IsShort id
IsFormedOp (op.Await id checkpoint) = IsShort id × (checkpoint < 2 ^ 63)
IsFormedOp op.Settle = Unit {0}
IsFormedOp (op.Search index size after) = IsShort index × (1 ≤ size) × (size ≤ 1000) × IfSome after IsArray
IsFormedOp (op.Stats id) = IsShort id
IsFormedOp (op.Preview config) = IsObject config

-- the parts of a command have their forms
abbrev pub IsFormed : Parts → Type 0
IsFormed parts = (parts.lane ≤ 7) × IsFormedOp parts.op
