-- The table of the ops of commands: which members a command has, and the form of each.
use Rattle.std.specs.Prelude.{ℕ, List, [], ◌∷◌, codes, Option, Some, None, if◌then◌else◌}
use Rattle.std.specs.Option.{option_or}
use Rattle.std.specs.Str.{bytes_eq}
use Rattle.tf_command.specs.declared.table.Name.{Name}
use Rattle.tf_command.specs.declared.table.Name.TheVariants as name
use Rattle.tf_command.specs.declared.table.Form.{Form}
use Rattle.tf_command.specs.declared.table.Form.TheVariants as form

-- the op of that name
abbrev pub name_of : List ℕ → Option Name
name_of op =
    if bytes_eq op (codes "create_index") then Some name.CreateIndex
    else (if bytes_eq op (codes "index") then Some name.Index
    else (if bytes_eq op (codes "bulk") then Some name.Bulk
    else (if bytes_eq op (codes "put_transform") then Some name.PutTransform
    else (if bytes_eq op (codes "delete") then Some name.Delete
    else (if bytes_eq op (codes "start") then Some name.Start
    else (if bytes_eq op (codes "stop") then Some name.Stop
    else (if bytes_eq op (codes "reset") then Some name.Reset
    else (if bytes_eq op (codes "schedule_now") then Some name.ScheduleNow
    else (if bytes_eq op (codes "step") then Some name.Step
    else (if bytes_eq op (codes "await") then Some name.Await
    else (if bytes_eq op (codes "settle") then Some name.Settle
    else (if bytes_eq op (codes "search") then Some name.Search
    else (if bytes_eq op (codes "stats") then Some name.Stats
    else (if bytes_eq op (codes "preview") then Some name.Preview
    else None))))))))))))))

-- a member by its name, and its form
abbrev pub Member : Type 0
Member = List ℕ × Form

-- the members that every command may have
abbrev pub common : List Member
common = (codes "at", form.Moment) ∷ (codes "lane", form.Lane) ∷ (codes "op", form.Text) ∷ []

-- the members that a command must have, in the order of their names in bytes
abbrev pub required : Name → List Member
required name.CreateIndex = (codes "index", form.Text) ∷ (codes "mappings", form.Object) ∷ []
required name.Index = (codes "doc", form.Object) ∷ (codes "id", form.DocumentId) ∷ (codes "index", form.Text) ∷ []
required name.Bulk = (codes "docs", form.Documents) ∷ (codes "index", form.Text) ∷ []
required name.PutTransform = (codes "config", form.Object) ∷ (codes "id", form.Text) ∷ []
required name.Delete = (codes "id", form.Text) ∷ []
required name.Start = (codes "id", form.Text) ∷ []
required name.Stop = (codes "id", form.Text) ∷ []
required name.Reset = (codes "id", form.Text) ∷ []
required name.ScheduleNow = (codes "id", form.Text) ∷ []
required name.Step = (codes "id", form.Text) ∷ []
required name.Await = (codes "checkpoint", form.Checkpoint) ∷ (codes "id", form.Text) ∷ []
required name.Settle = []
required name.Search = (codes "index", form.Text) ∷ []
required name.Stats = (codes "id", form.Text) ∷ []
required name.Preview = (codes "config", form.Object) ∷ []

-- the members that a command may have beside these
abbrev pub optional : Name → List Member
optional name.CreateIndex = (codes "durability", form.Request) ∷ (codes "shards", form.Number) ∷ (codes "stamp", form.Text) ∷ []
optional name.Stop = (codes "force", form.Truth) ∷ (codes "wait_for_checkpoint", form.Truth) ∷ []
optional name.Search = (codes "after", form.Array) ∷ (codes "size", form.Size) ∷ []
optional _ = []

-- the form of the member with a name, none where it is not among these
abbrev pub form_at : List Member → List ℕ → Option Form
form_at [] name = None
form_at (member ∷ members) name = if bytes_eq member.0 name then Some member.1 else form_at members name

-- the form of a member of a command, none where its op has no such member
abbrev pub form_of : Name → List ℕ → Option Form
form_of op name = option_or (option_or (form_at common name) (form_at (required op) name)) (form_at (optional op) name)
