-- What contracts see of a core.
use Rattle.std.specs.Prelude.{ℕ, ℤ, pos, List, [], ◌∷◌, reverse, Option, Some, None, option_map, length}
use Rattle.std.specs.declared.snapshot.Snapshot.{Snapshot}
use Rattle.tf_model.specs.declared.entry.Entry.{Entry}
use Rattle.tf_history.specs.Lives.{Life, life}
use Rattle.tf_core.specs.Chain.{Batch}
use Rattle.tf_core.specs.Legal.{read}

pub record Held : Type 0 where
  pub history : List Entry  -- oldest entry first
  pub ready : Option Batch  -- what the last `prepare` made, and is not applied
  pub found : ℕ  -- how many entries were there when `found` was called

-- what the last `prepare` made
abbrev pub batch_in : Option (Snapshot Batch) → Option Batch
batch_in ready = option_map (λ (s : Snapshot Batch). s.value) ready

-- the moment of the last entry, 0 where there is none
abbrev pub last_ms_of : List Entry → ℤ
last_ms_of [] = pos 0
last_ms_of (e ∷ []) = e.at_ms
last_ms_of (e ∷ f ∷ rest) = last_ms_of (f ∷ rest)

-- the life of a transform after a history
abbrev pub life_in : List ℕ → List Entry → Option Life
life_in id history = life id (read (reverse history))

abbrev pub late_in : Option Life → ℕ
late_in None = 0
late_in (Some l) = l.late

abbrev pub row_count_in : Option Life → ℕ
row_count_in None = 0
row_count_in (Some l) = length l.rows

abbrev pub pages_in : Option Life → ℕ
pages_in None = 0
pages_in (Some l) = l.pages
