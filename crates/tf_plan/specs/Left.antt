-- What is left of a plan, and the page that comes next.
use Rattle.std.specs.Prelude.{◌≡◌, ◌≤◌, ◌↔◌, ℕ, ℤ, Bool, ◌&&◌, not, if◌then◌else◌, nat_eq, nat_lt, IsTrue, List, length, take, drop, slice_get, Option, Some, None, is_some, MatchOption}
use Rattle.std.specs.List.Sorted.{IsStrictlySortedBy}
use Rattle.std.specs.Option.{option_or}
use Rattle.tf_model.specs.declared.value.Key.{Key}
use Rattle.tf_model.specs.declared.doc.Doc.{Doc}
use Rattle.tf_model.specs.declared.config.Config.{Config}
use Rattle.tf_model.specs.declared.entry.Row.{Row}
use Rattle.tf_model.specs.declared.entry.SumRange.{SumRange}
use Rattle.tf_model.specs.Changed.{changed_above}
use Rattle.tf_model.specs.Counted.{counted}
use Rattle.tf_model.specs.Order.{key_cmp}
use Rattle.tf_model.specs.Rows.{pivot_row, sum_range}
use Rattle.tf_history.specs.Lives.{last_key}
use Rattle.tf_pivot.specs.Found.{AreRows, IsLeastRange}
use Rattle.tf_fold.specs.declared.error.FoldError.{FoldError}
use Rattle.tf_fold.specs.declared.error.FoldError.TheVariants as error
use Rattle.tf_plan.specs.declared.page.Page.{Page}
use Rattle.tf_plan.specs.declared.page.Page.TheVariants as page

-- what contracts see of a plan: the rows that are left up to the first key without one, and the sum of that key, none where each key has its row
pub record Left : Type 0 where
  pub rows : List Row
  pub wide : Option SumRange

-- the key at a place has no row, and this is its first sum outside i64
pub record IsWideAt (c : Config) (docs : List Doc) (ks : List Key) (at : ℕ) (found : SumRange) : Type 0 where
  pub key : slice_get ks at ≡ Some found.key
  pub no_row : pivot_row c found.key docs ≡ None
  pub range : sum_range c found.key docs ≡ Some found

-- these are the rows of all these ascending keys, or of those up to the first that has none
pub record IsLeftOf (c : Config) (docs : List Doc) (ks : List Key) (left : Left) : Type 0 where
  pub ascend : IsStrictlySortedBy key_cmp ks
  pub rows : AreRows c docs (take (length left.rows) ks) left.rows
  pub end : MatchOption left.wide (length left.rows ≡ length ks) (IsWideAt c docs ks (length left.rows))

-- the rows up to a key that has none, with its sum
abbrev pub IsStopped : List Row → FoldError → Left → Type 0
IsStopped rows (error.SumRange found) left = left ≡ record { rows = rows; wide = Some found }
IsStopped rows error.Memory left = ⊥

-- what is left is that of the changed keys above a position, with their rows over the documents that count
abbrev pub IsPlan : Config → Option ℤ → Option ℤ → Option Key → List Doc → Left → Type 0
IsPlan c low high after docs left = IsLeftOf c (counted c high docs) (changed_above c low high after docs) left

-- the sum of a key among the next ones, where one has no row
abbrev pub wide_within : ℕ → Left → Option SumRange
wide_within size left = if nat_lt (length left.rows) size then left.wide else None

-- what is left behind the next rows
abbrev pub behind : ℕ → Left → Left
behind size left = record { rows = drop size left.rows; wide = left.wide }

-- whether no key is left
abbrev pub is_empty : Left → Bool
is_empty left = nat_eq (length left.rows) 0 && not (is_some left.wide)

-- the next rows as a page
abbrev pub rows_page : ℕ → Left → Page
rows_page size left = page.Rows (take size left.rows) (is_empty (behind size left))

abbrev pub page_by : ℕ → Left → Option SumRange → Page
page_by size left None = rows_page size left
page_by size left (Some found) = page.Wide found

-- the next page: the next rows, or the sum of a key among the next ones
abbrev pub next_page : ℕ → Left → Page
next_page size left = page_by size left (wide_within size left)

abbrev pub left_by : ℕ → Left → Option SumRange → Left
left_by size left None = behind size left
left_by size left (Some found) = left

-- what is left behind the next page
abbrev pub left_after : ℕ → Left → Left
left_after size left = left_by size left (wide_within size left)

-- the rows of the least of these keys, as many as `size` or all, and whether they are all; or the first sum outside i64 of the least of them that has one
abbrev pub IsPageOf : Config → List Doc → List Key → ℕ → Page → Type 0
IsPageOf c docs ks size (page.Rows rows is_last) = AreRows c docs (take size ks) rows × (IsTrue is_last ↔ (length ks ≤ size))
IsPageOf c docs ks size (page.Wide found) = IsLeastRange c docs (take size ks) found

-- the next page of the changed keys above a position
abbrev pub IsPage : Config → Option ℤ → Option ℤ → Option Key → List Doc → ℕ → Page → Type 0
IsPage c low high after docs size next = IsPageOf c (counted c high docs) (changed_above c low high after docs) size next

-- the position behind a page: its last key, and where it has none the position before
abbrev pub position_after : Option Key → Page → Option Key
position_after after (page.Rows rows is_last) = option_or (last_key rows) after
position_after after (page.Wide found) = after
