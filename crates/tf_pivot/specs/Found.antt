-- The rows of some keys, or the least key that has none.
use Rattle.std.specs.Prelude.{◌≡◌, false, if◌then◌else◌, List, map, Option, Some, None, IsSome, All, Contains}
use Rattle.std.specs.Ordering.{is_gt, is_lt}
use Rattle.std.specs.declared.result.Result.{Result}
use Rattle.std.specs.declared.result.Result.TheVariants.{Ok, Err}
use Rattle.tf_model.specs.declared.value.Key.{Key}
use Rattle.tf_model.specs.declared.doc.Doc.{Doc}
use Rattle.tf_model.specs.declared.config.Config.{Config}
use Rattle.tf_model.specs.declared.entry.Row.{Row}
use Rattle.tf_model.specs.declared.entry.SumRange.{SumRange}
use Rattle.tf_model.specs.Order.{key_cmp}
use Rattle.tf_model.specs.Rows.{pivot_row, sum_range}
use Rattle.tf_pivot.specs.declared.error.PivotError.{PivotError}
use Rattle.tf_pivot.specs.declared.error.PivotError.TheVariants as error

-- each of the keys has a row, and these are their rows in the order of the keys
pub record AreRows (c : Config) (docs : List Doc) (ks : List Key) (rows : List Row) : Type 0 where
  pub made : map Some rows ≡ map (λ k. pivot_row c k docs) ks
  pub no_range : All (λ k. sum_range c k docs ≡ None) ks

-- the first sum outside i64 of the least of the keys that have such a sum
pub record IsLeastRange (c : Config) (docs : List Doc) (ks : List Key) (found : SumRange) : Type 0 where
  pub key : Contains ks found.key
  pub no_row : pivot_row c found.key docs ≡ None
  pub range : sum_range c found.key docs ≡ Some found
  pub least : All (λ k. IsSome (sum_range c k docs) → is_gt (key_cmp found.key k) ≡ false) ks

-- of two, the one with the lesser key
abbrev pub lesser_range : Option SumRange → SumRange → SumRange
lesser_range None found = found
lesser_range (Some other) found = if is_lt (key_cmp found.key other.key) then found else other

-- the rows of the keys so far, or the first sum outside i64 of the least that has none
abbrev pub IsFound : Config → List Doc → List Key → List Row → Option SumRange → Type 0
IsFound c docs ks rows None = AreRows c docs ks rows
IsFound c docs ks rows (Some found) = IsLeastRange c docs ks found

-- the answer for some keys: their rows, or the first sum outside i64 of the least that has none, unless memory is wanted
abbrev pub IsAnswer : Config → List Doc → List Key → Result (List Row) PivotError → Type 0
IsAnswer c docs ks (Ok rows) = AreRows c docs ks rows
IsAnswer c docs ks (Err (error.SumRange found)) = IsLeastRange c docs ks found
IsAnswer c docs ks (Err error.Memory) = Unit {0}
