-- A fold, and the documents that it stands for.
use Rattle.std.specs.Prelude.{◌≡◌, ℕ, List, Some, None, IsTrue, All}
use Rattle.std.specs.declared.result.Result.{Result}
use Rattle.std.specs.declared.result.Result.TheVariants.{Ok, Err}
use Rattle.tf_model.specs.declared.value.Key.{Key}
use Rattle.tf_model.specs.declared.doc.Doc.{Doc}
use Rattle.tf_model.specs.declared.config.Config.{Config}
use Rattle.tf_model.specs.declared.entry.Row.{Row}
use Rattle.tf_model.specs.Keys.{has_key}
use Rattle.tf_model.specs.Rows.{aggs_of, pivot_row, sum_range}
use Rattle.tf_fold.specs.declared.part.Part.{Part}
use Rattle.tf_fold.specs.declared.error.FoldError.{FoldError}
use Rattle.tf_fold.specs.declared.error.FoldError.TheVariants as error
use Rattle.tf_fold.specs.Parts.{parts_over}

-- a fold as contracts see it: what each aggregation keeps, and a number that is at least that of the documents added
pub record Kept : Type 0 where
  pub parts : List Part
  pub weight : ℕ

-- the fold keeps, for each aggregation, what it keeps of these documents
abbrev pub StandsFor : Config → List Doc → Kept → Type 0
StandsFor c docs kept = kept.parts ≡ parts_over (aggs_of c.shape) docs

-- every document has the key
abbrev pub AllHaveKey : Config → Key → List Doc → Type 0
AllHaveKey c k docs = All (λ d. IsTrue (has_key c k d)) docs

-- the row of the key over these documents, or the first sum outside i64 where there is no row, unless memory is wanted
abbrev pub IsRowOver : Config → Key → List Doc → Result Row FoldError → Type 0
IsRowOver c k docs (Ok row) = (pivot_row c k docs ≡ Some row) × (sum_range c k docs ≡ None)
IsRowOver c k docs (Err (error.SumRange found)) = (pivot_row c k docs ≡ None) × (sum_range c k docs ≡ Some found)
IsRowOver c k docs (Err error.Memory) = Unit {0}
