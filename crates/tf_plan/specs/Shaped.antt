-- Plans and pages of a latest, and of either shape.
use Rattle.std.specs.Prelude.{◌≡◌, ◌≤◌, ◌↔◌, ℕ, ℤ, IsTrue, List, map, length, take, Option, Some, None}
use Rattle.std.specs.List.Sorted.{IsStrictlySortedBy}
use Rattle.tf_model.specs.declared.value.Key.{Key}
use Rattle.tf_model.specs.declared.doc.Doc.{Doc}
use Rattle.tf_model.specs.declared.config.Config.{Config}
use Rattle.tf_model.specs.declared.config.Shape.{Shape}
use Rattle.tf_model.specs.declared.config.Shape.TheVariants.{Pivot, Latest}
use Rattle.tf_model.specs.declared.entry.Row.{Row}
use Rattle.tf_model.specs.Changed.{changed_above}
use Rattle.tf_model.specs.Counted.{counted}
use Rattle.tf_model.specs.Latest.{latest_row}
use Rattle.tf_model.specs.Order.{key_cmp}
use Rattle.tf_plan.specs.declared.page.Page.{Page}
use Rattle.tf_plan.specs.declared.page.Page.TheVariants as page
use Rattle.tf_plan.specs.Left.{IsPage, IsPlan, Left}

-- each of the keys has a row, and these are their rows in the order of the keys; the sources are given by their numbers
abbrev pub AreLatestRows : List ℕ → Config → List Doc → List Key → List Row → Type 0
AreLatestRows sources c docs ks rows = map Some rows ≡ map (λ k. latest_row sources c k docs) ks

-- these are the rows of all these ascending keys
pub record IsLatestLeftOf (sources : List ℕ) (c : Config) (docs : List Doc) (ks : List Key) (left : Left) : Type 0 where
  pub ascend : IsStrictlySortedBy key_cmp ks
  pub rows : AreLatestRows sources c docs ks left.rows
  pub no_wide : left.wide ≡ None

-- what is left is that of the changed keys above a position, with their latest rows over the documents that count
abbrev pub IsLatestPlan : List ℕ → Config → Option ℤ → Option ℤ → Option Key → List Doc → Left → Type 0
IsLatestPlan sources c low high after docs left = IsLatestLeftOf sources c (counted c high docs) (changed_above c low high after docs) left

-- the rows of the least of these keys, as many as `size` or all, and whether they are all: no sum is ever told
abbrev pub IsLatestPageOf : List ℕ → Config → List Doc → List Key → ℕ → Page → Type 0
IsLatestPageOf sources c docs ks size (page.Rows rows is_last) = AreLatestRows sources c docs (take size ks) rows × (IsTrue is_last ↔ (length ks ≤ size))
IsLatestPageOf sources c docs ks size (page.Wide found) = ⊥

-- the next page of the changed keys above a position
abbrev pub IsLatestPage : List ℕ → Config → Option ℤ → Option ℤ → Option Key → List Doc → ℕ → Page → Type 0
IsLatestPage sources c low high after docs size next = IsLatestPageOf sources c (counted c high docs) (changed_above c low high after docs) size next

-- the plan of a configuration of this shape
abbrev pub IsShapedPlan : Shape → List ℕ → Config → Option ℤ → Option ℤ → Option Key → List Doc → Left → Type 0
IsShapedPlan (Pivot groups aggs) sources c low high after docs left = IsPlan c low high after docs left
IsShapedPlan (Latest unique_key sort) sources c low high after docs left = IsLatestPlan sources c low high after docs left

-- the next page of a configuration of this shape
abbrev pub IsShapedPage : Shape → List ℕ → Config → Option ℤ → Option ℤ → Option Key → List Doc → ℕ → Page → Type 0
IsShapedPage (Pivot groups aggs) sources c low high after docs size next = IsPage c low high after docs size next
IsShapedPage (Latest unique_key sort) sources c low high after docs size next = IsLatestPage sources c low high after docs size next
