-- The grouping of documents from scratch: one list of documents, filtered and grouped.
use Rattle.std.specs.Prelude.{ℕ, ℤ, Bool, true, false, if◌then◌else◌, List, filter, Option}
use Rattle.std.specs.List.{filter_map}
use Rattle.tf_model.specs.declared.value.Key.{Key}
use Rattle.tf_model.specs.declared.doc.Doc.{Doc}
use Rattle.tf_model.specs.declared.config.Config.{Config}
use Rattle.tf_model.specs.declared.config.Shape.{Shape}
use Rattle.tf_model.specs.declared.config.Shape.TheVariants.{Pivot, Latest}
use Rattle.tf_model.specs.declared.entry.Row.{Row}
use Rattle.tf_model.specs.Keys.{all_keys}
use Rattle.tf_model.specs.Counted.{counted}
use Rattle.tf_model.specs.Rows.{pivot_row}
use Rattle.tf_model.specs.Latest.{latest_row}
use Rattle.tf_model.specs.Retention.{stays}

abbrev pub is_pivot : Shape → Bool
is_pivot (Pivot groups aggs) = true
is_pivot (Latest unique_key sort) = false

-- the row of a key over documents, none where a sum is outside i64; the sources are given by their numbers
unfoldable pub row_of : List ℕ → Config → List Doc → Key → Option Row
row_of sources c docs k = if is_pivot c.shape then pivot_row c k docs else latest_row sources c k docs

-- the rows of the keys of documents, ascending by key
unfoldable pub grouping : List ℕ → Config → List Doc → List Row
grouping sources c docs = filter_map (row_of sources c docs) (all_keys c docs)

-- the grouping from scratch of the documents that count, without the rows that are below the cutoff
unfoldable pub scratch : List ℕ → Config → Option ℤ → Option ℤ → List Doc → List Row
scratch sources c bound cutoff docs = filter (stays c docs cutoff) (grouping sources c (counted c bound docs))
