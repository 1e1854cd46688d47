-- What retention looks at: the value of a row's retention field.
use Rattle.std.specs.Prelude.{ℕ, ℤ, Bool, true, false, not, ◌&&◌, int_lt, nat_eq, if◌then◌else◌, List, [], ◌∷◌, Option, Some, None}
use Rattle.std.specs.List.{find}
use Rattle.std.specs.Option.{option_and_then}
use Rattle.std.specs.Str.{bytes_eq}
use Rattle.tf_model.specs.declared.doc.Doc.{Doc}
use Rattle.tf_model.specs.declared.value.Value.{Value}
use Rattle.tf_model.specs.declared.value.Value.TheVariants as value
use Rattle.tf_model.specs.declared.config.Config.{Config}
use Rattle.tf_model.specs.declared.config.Shape.{Shape}
use Rattle.tf_model.specs.declared.config.Shape.TheVariants as shape
use Rattle.tf_model.specs.declared.config.Group.{Group}
use Rattle.tf_model.specs.declared.config.Agg.{Agg}
use Rattle.tf_model.specs.declared.config.Retention.{Retention}
use Rattle.tf_model.specs.declared.entry.Row.{Row}
use Rattle.tf_model.specs.declared.entry.Row.TheVariants as row
use Rattle.tf_model.specs.Values.{value_of}

-- the moment of a date, none of another value
abbrev pub date_of : Value → Option ℤ
date_of (value.Date ms) = Some ms
date_of _ = None

-- the value of the aggregation with a name
abbrev pub agg_value : List Agg → List Value → List ℕ → Option Value
agg_value [] values name = None
agg_value (agg ∷ aggs) [] name = None
agg_value (agg ∷ aggs) (v ∷ values) name = if bytes_eq agg.name name then Some v else agg_value aggs values name

-- the part of the group with a name, or else the value of the aggregation
abbrev pub column : List Group → List Value → List Agg → List Value → List ℕ → Option Value
column [] parts aggs values name = agg_value aggs values name
column (group ∷ groups) [] aggs values name = agg_value aggs values name
column (group ∷ groups) (part ∷ parts) aggs values name = if bytes_eq group.name name then Some part else column groups parts aggs values name

-- what a pivot's row shows under a name
abbrev pub pivot_column : List Group → List Agg → Row → List ℕ → Option Value
pivot_column groups aggs (row.Pivot k values) name = column groups k.parts aggs values name
pivot_column groups aggs (row.Latest k index shard seq) name = None

abbrev pub is_named : ℕ → ℕ → ℕ → Doc → Bool
is_named index shard seq d = nat_eq index d.index && (nat_eq shard d.shard && nat_eq seq d.seq)

-- the document that a latest row names
abbrev pub named_doc : List Doc → Row → Option Doc
named_doc docs (row.Pivot k values) = None
named_doc docs (row.Latest k index shard seq) = find (is_named index shard seq) docs

-- the value of a field of a row: a pivot's row shows it, a latest row's document has it
abbrev pub row_value : Shape → List Doc → Row → List ℕ → Option Value
row_value (shape.Pivot groups aggs) docs r field = pivot_column groups aggs r field
row_value (shape.Latest unique_key sort) docs r field = option_and_then (λ d. value_of d field) (named_doc docs r)

abbrev pub retained_by : Option Retention → Shape → List Doc → Row → Option ℤ
retained_by None shape docs r = None
retained_by (Some retention) shape docs r = option_and_then date_of (row_value shape docs r retention.field)

-- a row's retention value, where it is a date
unfoldable pub retained : Config → List Doc → Row → Option ℤ
retained c docs r = retained_by c.retention c.shape docs r

-- a moment before a cutoff; a row without the value is before none
abbrev pub is_past : Option ℤ → ℤ → Bool
is_past None cutoff = false
is_past (Some moment) cutoff = int_lt moment cutoff

-- a row stays where its retention value is no date below the cutoff
unfoldable pub stays : Config → List Doc → Option ℤ → Row → Bool
stays c docs None r = true
stays c docs (Some cutoff) r = not (is_past (retained c docs r) cutoff)
