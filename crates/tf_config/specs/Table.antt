-- The table of configurations: which members each object has, and the form of each.
use Rattle.std.specs.Prelude.{ℕ, List, [], ◌∷◌, codes, Option, Some, None, if◌then◌else◌}
use Rattle.std.specs.Borrow.{Bor}
use Rattle.std.specs.Option.{option_or}
use Rattle.std.specs.Str.{bytes_eq}
use Rattle.tf_config.specs.declared.table.Form.{Form}
use Rattle.tf_config.specs.declared.table.Form.TheVariants as form
use Rattle.tf_config.specs.declared.table.Object.{Object}
use Rattle.tf_config.specs.declared.table.Object.TheVariants as object

-- a member by its name, and its form
abbrev pub Member : Type 0
Member = List ℕ × Form

-- The members that an object must have. A preview needs no destination and is else as any configuration; the groups and
-- the aggregations of a pivot have names of their own.
abbrev pub required : Object → List Member
required object.Config = (codes "dest", form.Object object.Dest) ∷ (codes "source", form.Object object.Source) ∷ []
required object.Preview = (codes "source", form.Object object.Source) ∷ []
required object.Source = (codes "index", form.Names) ∷ []
required object.Dest = (codes "index", form.Text) ∷ []
required object.Pivot = (codes "group_by", form.Object object.Groups) ∷ []
required object.Terms = (codes "field", form.Text) ∷ []
required object.Histogram = (codes "field", form.Text) ∷ (codes "interval", form.Number) ∷ []
required object.DateHistogram = (codes "field", form.Text) ∷ (codes "fixed_interval", form.Text) ∷ []
required object.Metric = (codes "field", form.Text) ∷ []
required object.Latest = (codes "sort", form.Text) ∷ (codes "unique_key", form.Texts) ∷ []
required object.Sync = (codes "time", form.Object object.SyncTime) ∷ []
required object.SyncTime = (codes "field", form.Text) ∷ []
required object.Retention = (codes "time", form.Object object.RetentionTime) ∷ []
required object.RetentionTime = (codes "field", form.Text) ∷ (codes "max_age", form.Text) ∷ []
required _ = []

-- what a group has beside its kind's own members
abbrev pub bucket : List Member
bucket = (codes "missing_bucket", form.Truth) ∷ []

-- the members that an object may have beside these
abbrev pub optional : Object → List Member
optional object.Config =
    (codes "_meta", form.Free) ∷ (codes "description", form.Text) ∷ (codes "frequency", form.Text) ∷ (codes "latest", form.Object object.Latest)
    ∷ (codes "pivot", form.Object object.Pivot) ∷ (codes "retention_policy", form.Object object.Retention)
    ∷ (codes "settings", form.Object object.Settings) ∷ (codes "sync", form.Object object.Sync) ∷ []
optional object.Source = (codes "query", form.Query) ∷ []
optional object.Pivot = (codes "aggregations", form.Object object.Aggs) ∷ (codes "aggs", form.Object object.Aggs) ∷ []
optional object.Group =
    (codes "date_histogram", form.Object object.DateHistogram) ∷ (codes "histogram", form.Object object.Histogram) ∷ (codes "terms", form.Object object.Terms) ∷ []
optional object.Terms = bucket
optional object.Histogram = bucket
optional object.DateHistogram = bucket
optional object.Agg =
    (codes "max", form.Object object.Metric) ∷ (codes "min", form.Object object.Metric) ∷ (codes "sum", form.Object object.Metric)
    ∷ (codes "value_count", form.Object object.Metric) ∷ []
optional object.SyncTime = (codes "delay", form.Text) ∷ []
optional object.Settings =
    (codes "align_checkpoints", form.Truth) ∷ (codes "dates_as_epoch_millis", form.Truth) ∷ (codes "max_page_search_size", form.Number) ∷ []
optional _ = []

-- the form of the member with a name, none where it is not among these
abbrev pub form_at : List Member → List ℕ → Option Form
form_at [] name = None
form_at (member ∷ members) name = if bytes_eq member.0 name then Some member.1 else form_at members name

abbrev pub form_in : Object → List ℕ → Option Form
form_in parent name = option_or (form_at (required parent) name) (form_at (optional parent) name)

-- the form of a member of an object, none where the object has no such member
abbrev pub form_of : Object → List ℕ → Option Form
form_of object.Groups name = Some (form.Object object.Group)
form_of object.Aggs name = Some (form.Object object.Agg)
form_of object.Preview name = form_in object.Config name
form_of parent name = form_in parent name

-- a row of the table as the code has it
abbrev pub seen : Bor (List ℕ) × Form → Member
seen member = (member.0.now, member.1)
