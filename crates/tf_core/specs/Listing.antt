-- The ids of the transforms that a history leaves.
use Rattle.std.specs.Prelude.{ℕ, List, [], fold, map, reverse}
use Rattle.std.specs.BTreeSet.{insert_key}
use Rattle.std.specs.Cmp.Lexicographic.{slice_cmp}
use Rattle.std.specs.Ordering.{nat_cmp}
use Rattle.tf_model.specs.declared.entry.Entry.{Entry}
use Rattle.tf_history.specs.Transforms.{PutTransform, transforms}

-- texts by their bytes, ascending and each once
abbrev pub ascending : List (List ℕ) → List (List ℕ)
ascending texts = fold (insert_key (slice_cmp nat_cmp)) [] texts

-- the ids of the transforms that a past has put and not deleted, ascending
abbrev pub ids_after : List Entry → List (List ℕ)
ids_after past = ascending (map (λ (p : PutTransform). p.id) (transforms past))

-- the same for a history, oldest entry first
abbrev pub ids_in : List Entry → List (List ℕ)
ids_in history = ids_after (reverse history)
