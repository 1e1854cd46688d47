-- What the calls say of a turn and its seats.
use Rattle.std.specs.Prelude.{◌≡◌, ℕ, ◌<◌, false, List, [], length, drop, slice_get, Some}
use mathlib.Core.List.{IsPrefix}
use Rattle.atomic_table.specs.Seated.{TableId}
use Rattle.tf_turn.specs.declared.view.View.{View}
use Rattle.tf_turn.specs.declared.view.Stands.{Ghosts}
use Rattle.tf_turn.specs.declared.seat.Seat.{Seat}
use Rattle.tf_turn.specs.declared.turn.Turn.{Turn}
use Rattle.tf_turn.specs.Rule.{given}

module _ {T I : Type 0} where
  -- what the seat knows
  abbrev pub view : {g : Ghosts T I} → Seat T I g → View I
  view s = s.place.me.0

  -- which turn the seat is of
  abbrev pub turn_of : {g : Ghosts T I} → Seat T I g → TableId
  turn_of s = s.place.table_id

  abbrev pub id_of : Turn T I → TableId
  id_of t = t.table.shared.table_id

  -- whether the seat is one of this turn
  abbrev pub IsOf : {g : Ghosts T I} → Turn T I → Seat T I g → Type 0
  IsOf t s = turn_of s ≡ id_of t

  -- the value that the turn began with
  abbrev pub start_of : Turn T I → T
  start_of t = t.table.shared.key.value.value

  -- how many seats the turn has
  abbrev pub seats_of : Turn T I → ℕ
  seats_of t = t.table.shared.key.seats

  -- the seat n as it was made
  abbrev pub IsNew : {g : Ghosts T I} → TableId → List I → List ℕ → ℕ → Seat T I g → Type 0
  IsNew z xs name n s = (turn_of s ≡ z) × ((view s).number ≡ n) × ((view s).name ≡ name) × ((view s).seen ≡ xs) × ((view s).own ≡ []) × ((view s).misses ≡ 0) × ((view s).holds ≡ false)

  abbrev pub AreNew : {g : Ghosts T I} → TableId → List I → List ℕ → List (Seat T I g) → Type 0
  AreNew {g} z xs name seats = (n : ℕ) (s : Seat T I g) → slice_get seats n ≡ Some s → IsNew z xs name n s

  -- these are all seats of the turn, in order, and none holds it
  abbrev pub AreAll : {g : Ghosts T I} → Turn T I → List (Seat T I g) → Type 0
  AreAll {g} t seats = (0 < length seats) × (length seats ≡ seats_of t) × ((n : ℕ) (s : Seat T I g) → slice_get seats n ≡ Some s → IsOf t s × ((view s).number ≡ n) × ((view s).holds ≡ false))

  -- the list of the last value begins with what each seat had seen, and what it has past the first list is the seats' own
  abbrev pub Gathers : {g : Ghosts T I} → (I → ℕ) → List I → List I → List (Seat T I g) → Type 0
  Gathers {g} giver first last seats = (n : ℕ) (s : Seat T I g) → slice_get seats n ≡ Some s → IsPrefix (view s).seen last × (given giver n (drop (length first) last) ≡ (view s).own)
