-- Prepared entries: each step is what its entry does after those before it, and there is room for all of them.
use Rattle.std.specs.Prelude.{◌≡◌, ℕ, ◌+◌, ◌≤◌, ⊤, true, List, [], ◌∷◌, ◌++◌, length, map, vec_len, vec_capacity}
use Rattle.std.specs.List.{AllByRecursion}
use Rattle.std.specs.Global.{Vec}
use Rattle.tf_dest.specs.Tables.{HavePlaces, held_keys}
use Rattle.tf_model.specs.declared.entry.Entry.{Entry}
use Rattle.tf_model.specs.declared.value.Key.{Key}
use Rattle.tf_history.specs.Catalogue.{SourceIndex}
use Rattle.tf_history.specs.Lives.{is_same}
use Rattle.tf_core.specs.declared.kept.Kept.{Kept}
use Rattle.tf_core.specs.declared.ready.Change.{Change}
use Rattle.tf_core.specs.declared.ready.Change.TheVariants as change
use Rattle.tf_core.specs.declared.ready.Prepared.{Prepared}
use Rattle.tf_core.specs.declared.ready.Step.{Step}
use Rattle.tf_core.specs.declared.ready.Step.TheVariants as step
use Rattle.tf_core.specs.declared.transform.Transform.{Transform}
use Rattle.tf_core.specs.Kept.{entry_of}
use Rattle.tf_core.specs.Steps.{IsStep, added, docs_of}

-- the entries of prepared ones, the oldest first
abbrev pub entries_in : List Prepared → List Entry
entries_in steps = map (λ (p : Prepared). entry_of p.kept) steps

-- entries that can be applied with no more memory
pub record Batch : Type 0 where
  pub entries : List Entry
  pub steps : List Prepared

-- the indices that steps add
abbrev pub all_added : List Prepared → List SourceIndex
all_added [] = []
all_added (p ∷ steps) = added p.step ++ all_added steps

-- each step is what its entry does, where these indices are there before the first
abbrev pub AreSteps : List SourceIndex → List Prepared → Type 0
AreSteps indices [] = ⊤
AreSteps indices (p ∷ steps) = IsStep indices (entry_of p.kept) p.step × AreSteps (indices ++ added p.step) steps

-- ---- counts
-- how many transforms a step adds
abbrev pub puts : Step → ℕ
puts (step.Put t) = 1
puts _ = 0

abbrev pub index_count : List Prepared → ℕ
index_count [] = 0
index_count (p ∷ steps) = length (added p.step) + index_count steps

abbrev pub doc_count : List Prepared → ℕ
doc_count [] = 0
doc_count (p ∷ steps) = length (docs_of p.step) + doc_count steps

abbrev pub put_count : List Prepared → ℕ
put_count [] = 0
put_count (p ∷ steps) = puts p.step + put_count steps

-- ---- room
-- a Page as far as room goes: whose it is, and the keys of its rows
pub record Paged : Type 0 where
  pub id : List ℕ
  pub keys : List Key

abbrev pub paged_by : List ℕ → Change → List Paged
paged_by id (change.Page n rows position) = record { id = id; keys = held_keys rows.items } ∷ []
paged_by id _ = []

-- the Page that a step writes, none or one
abbrev pub paged : Step → List Paged
paged (step.Change id by) = paged_by id by
paged _ = []

abbrev pub all_paged : List Prepared → List Paged
all_paged [] = []
all_paged (p ∷ steps) = paged p.step ++ all_paged steps

-- where a Page is of the transform with an id, its rows are among the places
abbrev pub IsPlaced : List ℕ → List Key → Paged → Type 0
IsPlaced id places page = is_same id page.id ≡ true → HavePlaces places page.keys

abbrev pub ArePlaced : List ℕ → List Key → List Paged → Type 0
ArePlaced id places pages = AllByRecursion (IsPlaced id places) pages

-- a transform has a place for each row of those of the Pages that are its own
abbrev pub HasRowRoom : List Paged → Transform → Type 0
HasRowRoom pages t = ArePlaced t.id t.rows.places pages

-- a transform that a step puts has room for Pages
abbrev pub PutHas : List Paged → Step → Type 0
PutHas pages (step.Put t) = HasRowRoom pages t
PutHas pages _ = ⊤

-- each transform that a step puts has room for the Pages of the steps behind it, and for these behind all
abbrev pub PutsHave : List Prepared → List Paged → Type 0
PutsHave [] more = ⊤
PutsHave (p ∷ steps) more = PutHas (all_paged steps ++ more) p.step × PutsHave steps more

pub record HasRoom {D : Type 0} (steps : List Prepared) (es : Vec Kept) (ss : Vec SourceIndex) (ds : Vec D) (ts : Vec Transform) : Type 0 where
  pub entries : vec_len es + length steps ≤ vec_capacity es
  pub indices : vec_len ss + index_count steps ≤ vec_capacity ss
  pub docs : vec_len ds + doc_count steps ≤ vec_capacity ds
  pub transforms : vec_len ts + put_count steps ≤ vec_capacity ts
  pub rows : AllByRecursion (HasRowRoom (all_paged steps)) ts.items
  pub put_rows : PutsHave steps []
