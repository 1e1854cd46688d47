-- The least of some keys.
use Rattle.std.specs.Prelude.{◌≡◌, ℕ, ◌-◌, ◌≤◌, Bool, false, List, length, take, filter, slice_get, nat_eq, if◌then◌else◌, Option, None, IsTrue, ◌↔◌}
use Rattle.tf_model.specs.declared.value.Key.{Key}
use Rattle.tf_model.specs.Keys.{sorted_keys}
use Rattle.tf_model.specs.Changed.{is_after}

-- what contracts see: the keys that are kept, how many may be, and whether none was left out
pub record Kept : Type 0 where
  pub keys : List Key
  pub size : ℕ
  pub is_whole : Bool

-- what is kept is the least of these ascending keys, and it is whole where that is all of them
pub record IsLeastOf (ks : List Key) (kept : Kept) : Type 0 where
  pub keys : kept.keys ≡ take kept.size ks
  pub whole : IsTrue kept.is_whole ↔ (length ks ≤ kept.size)

-- those of the keys that are above a position, each once, ascending
abbrev pub above : Option Key → List Key → List Key
above after ks = filter (is_after after) (sorted_keys ks)

-- the greatest key, where as many are kept as may be
abbrev pub greatest_of : Kept → Option Key
greatest_of kept = if nat_eq (length kept.keys) kept.size then slice_get kept.keys (length kept.keys - 1) else None

-- the same keys, and a key was left out
abbrev pub left_out : Kept → Kept
left_out kept = record { keys = kept.keys; size = kept.size; is_whole = false }
