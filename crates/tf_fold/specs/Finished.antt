-- The row that is made of what the aggregations keep.
use Rattle.std.specs.Prelude.{◌≡◌, ℤ, pos, if◌then◌else◌, List, [], ◌∷◌, Option, Some, None, unwrap_or}
use Rattle.std.specs.Option.{option_map, option_and_then}
use Rattle.std.specs.declared.result.Result.{Result}
use Rattle.std.specs.declared.result.Result.TheVariants.{Ok, Err}
use Rattle.tf_model.specs.declared.value.Value.{Value}
use Rattle.tf_model.specs.declared.value.Value.TheVariants as value
use Rattle.tf_model.specs.declared.value.Key.{Key}
use Rattle.tf_model.specs.declared.config.Agg.{Agg}
use Rattle.tf_model.specs.declared.entry.Row.{Row}
use Rattle.tf_model.specs.declared.entry.Row.TheVariants as row
use Rattle.tf_model.specs.declared.entry.SumRange.{SumRange}
use Rattle.tf_model.specs.Rows.{fits_i64, sum_value, sum_range_at, or_else}
use Rattle.tf_fold.specs.declared.part.Part.{Part}
use Rattle.tf_fold.specs.declared.part.Part.TheVariants as part
use Rattle.tf_fold.specs.declared.error.FoldError.{FoldError}
use Rattle.tf_fold.specs.declared.error.FoldError.TheVariants as error

-- the value, or Null where there is none
abbrev pub value_or_null : Option Value → Value
value_or_null v = unwrap_or v value.Null

-- the value of a part in a row, none for a sum outside i64
abbrev pub finished : Part → Option Value
finished (part.Sum n) = sum_value n
finished (part.Least v) = Some (value_or_null v)
finished (part.Greatest v) = Some (value_or_null v)
finished (part.Count n) = Some (value.Int (pos n))

-- the values of all parts, none where one has none
abbrev pub all_finished : List Part → Option (List Value)
all_finished [] = Some []
all_finished (p ∷ ps) = option_and_then (λ v. option_map (λ vs. v ∷ vs) (all_finished ps)) (finished p)

-- the sum of a part, where it is outside i64
abbrev pub wide_part : Part → Option ℤ
wide_part (part.Sum n) = if fits_i64 n then None else Some n
wide_part _ = None

-- the first aggregation whose sum is outside i64, with that sum, none where no sum is
abbrev pub first_wide_part : Key → List Agg → List Part → Option SumRange
first_wide_part k [] ps = None
first_wide_part k (agg ∷ aggs) [] = None
first_wide_part k (agg ∷ aggs) (p ∷ ps) = or_else (option_map (sum_range_at k agg) (wide_part p)) (first_wide_part k aggs ps)

-- the row of these parts, or the first sum outside i64, unless memory is wanted
abbrev pub IsRowOf : List Agg → List Part → Key → Result Row FoldError → Type 0
IsRowOf aggs ps k (Ok made) = (option_map (row.Pivot k) (all_finished ps) ≡ Some made) × (first_wide_part k aggs ps ≡ None)
IsRowOf aggs ps k (Err (error.SumRange found)) = (all_finished ps ≡ None) × (first_wide_part k aggs ps ≡ Some found)
IsRowOf aggs ps k (Err error.Memory) = Unit {0}
