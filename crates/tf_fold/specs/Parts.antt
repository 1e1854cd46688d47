-- What an aggregation keeps of some values.
use Rattle.std.specs.Prelude.{ℕ, ◌+◌, ◌+ℤ◌, List, [], ◌∷◌, length, map, Option, Some, None}
use Rattle.tf_model.specs.declared.value.Value.{Value}
use Rattle.tf_model.specs.declared.doc.Doc.{Doc}
use Rattle.tf_model.specs.declared.config.Agg.{Agg}
use Rattle.tf_model.specs.declared.config.AggKind.{AggKind}
use Rattle.tf_model.specs.declared.config.AggKind.TheVariants as kind
use Rattle.tf_model.specs.Values.{value_of}
use Rattle.tf_model.specs.Rows.{field_values, total, lesser, greater, of_both, least, greatest, number_found}
use Rattle.tf_fold.specs.declared.part.Part.{Part}
use Rattle.tf_fold.specs.declared.part.Part.TheVariants as part

-- what an aggregation keeps of these values
abbrev pub part_over : AggKind → List Value → Part
part_over kind.Sum vs = part.Sum (total vs)
part_over kind.Min vs = part.Least (least vs)
part_over kind.Max vs = part.Greatest (greatest vs)
part_over kind.ValueCount vs = part.Count (length vs)

-- what the aggregations keep of these documents, one part for each
abbrev pub parts_over : List Agg → List Doc → List Part
parts_over aggs docs = map (λ agg. part_over agg.kind (field_values agg.field docs)) aggs

-- what a document adds to a count
abbrev pub count_found : Option Value → ℕ
count_found None = 0
count_found (Some v) = 1

-- what an aggregation keeps of one value, where it is there
abbrev pub part_found : AggKind → Option Value → Part
part_found kind.Sum found = part.Sum (number_found found)
part_found kind.Min found = part.Least found
part_found kind.Max found = part.Greatest found
part_found kind.ValueCount found = part.Count (count_found found)

-- what an aggregation keeps of one document
abbrev pub part_in : Doc → Agg → Part
part_in d agg = part_found agg.kind (value_of d agg.field)

-- what one aggregation keeps of two lists; parts of two kinds are never joined
abbrev pub joined : Part → Part → Part
joined (part.Sum m) (part.Sum n) = part.Sum (m +ℤ n)
joined (part.Least v) (part.Least w) = part.Least (of_both lesser v w)
joined (part.Greatest v) (part.Greatest w) = part.Greatest (of_both greater v w)
joined (part.Count m) (part.Count n) = part.Count (m + n)
joined p q = part.Count 0

-- what each aggregation keeps of two lists
abbrev pub all_joined : List Part → List Part → List Part
all_joined [] qs = []
all_joined (p ∷ ps) [] = p ∷ ps
all_joined (p ∷ ps) (q ∷ qs) = joined p q ∷ all_joined ps qs
