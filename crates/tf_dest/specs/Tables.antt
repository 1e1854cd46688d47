-- Rows in the order of their keys.
use Rattle.std.specs.Prelude.{ℤ, Bool, false, not, ◌||◌, List, [], ◌∷◌, map, IsTrue, Option}
use Rattle.std.specs.List.{AllByRecursion}
use Rattle.std.specs.Ordering.{is_eq, match_ordering}
use Rattle.tf_model.specs.declared.entry.Row.{Row}
use Rattle.tf_model.specs.declared.value.Key.{Key}
use Rattle.tf_model.specs.Changed.{is_after}
use Rattle.tf_model.specs.Order.{key_cmp}
use Rattle.tf_model.specs.Retention.{is_past}
use Rattle.tf_history.specs.Meaning.{row_key}
use Rattle.tf_dest.specs.declared.held.Held.{Held}

-- a destination as contracts see it
pub record Table : Type 0 where
  pub held : List Held  -- the rows, ascending by key, each with its retention value
  pub places : List Key  -- the keys that have a place

-- ---- rows
abbrev pub key_of : Held → Key
key_of h = row_key h.row

abbrev pub rows_of : List Held → List Row
rows_of held = map (λ h. h.row) held

-- the keys of rows
abbrev pub held_keys : List Held → List Key
held_keys held = map row_key (rows_of held)

-- the rows of a destination
abbrev pub rows_in : Table → List Row
rows_in t = rows_of t.held

-- a row in its place, in the place of a row of the same key
abbrev pub put : Held → List Held → List Held
put h [] = h ∷ []
put h (g ∷ held) = match_ordering (key_cmp (key_of h) (key_of g)) (h ∷ g ∷ held) (h ∷ held) (g ∷ put h held)

-- each row of a page in its place
abbrev pub put_page : List Held → List Held → List Held
put_page [] held = held
put_page (h ∷ page) held = put_page page (put h held)

-- whether a row is above a key; where there is none, each is
abbrev pub is_above : Option Key → Row → Bool
is_above after r = is_after after (row_key r)

-- whether retention takes a row out, and whether it leaves it
abbrev pub is_gone : ℤ → Held → Bool
is_gone cutoff h = is_past h.moment cutoff

abbrev pub stays : ℤ → Held → Bool
stays cutoff h = not (is_gone cutoff h)

-- ---- places
-- whether a key is among keys
abbrev pub has_place : List Key → Key → Bool
has_place [] k = false
has_place (j ∷ places) k = is_eq (key_cmp k j) || has_place places k

-- each of these keys has a place
abbrev pub HavePlaces : List Key → List Key → Type 0
HavePlaces places keys = AllByRecursion (λ (k : Key). IsTrue (has_place places k)) keys

-- each place that was there is there
abbrev pub KeepsPlaces : List Key → List Key → Type 0
KeepsPlaces old new = (k : Key) → IsTrue (has_place old k) → IsTrue (has_place new k)
