-- The rule of a settling, which tells no number of moves, and the law that `settled` follows it.
use Rattle.std.specs.Prelude.{◌≡◌, ◌≢◌, ◌<◌, ℕ, ℤ, Bool, true, false, List, [], ◌∷◌, Some, None}
use Rattle.tf_model.specs.declared.entry.Entry.{Entry}
use Rattle.tf_history.specs.Legality.{IsLegal}
use Rattle.tf_history.specs.Lives.{Life, life}
use Rattle.tf_core.specs.Legal.{IsTakenPast, read}
use Rattle.tf_core.specs.Listing.{ids_after}
use Rattle.tf_serial.specs.Moves.{IsSettled, moves, next_move, settled}

-- there was a next move, and it is made; or there is none
abbrev pub IsAdvanced : ℤ → Bool → List ℕ → List Entry → List Entry → Type 0
IsAdvanced given true id past now = (e : Entry) × (next_move given id past ≡ Some e) × (now ≡ e ∷ past)
IsAdvanced given false id past now = (next_move given id past ≡ None) × (now ≡ past)

-- a transform is moved until it is idle
pub record IsMovedOut (given : ℤ) (id : List ℕ) (past now : List Entry) : Type 0 where
  pub made : ℕ
  pub moved : now ≡ moves given made id past
  pub idle : next_move given id now ≡ None

-- a pass: these transforms, one after the other, are moved until they are idle
abbrev pub IsPass : ℤ → List (List ℕ) → List Entry → List Entry → Type 0
IsPass given [] past now = now ≡ past
IsPass given (id ∷ ids) past now = (mid : List Entry) × IsMovedOut given id past mid × IsPass given ids mid now

-- passes over these transforms, until one moves nothing
pub data Settles (given : ℤ) (ids : List (List ℕ)) : List Entry → List Entry → Type 0 where
  still : (past : List Entry) → IsPass given ids past past → Settles given ids past past
  again : (past mid now : List Entry) → IsPass given ids past mid → mid ≢ past → Settles given ids mid now → Settles given ids past now

-- A settling of a past passes over its transforms in the order of their ids, each moved until it is idle, until a pass moves
-- nothing; and behind it there is no next move.
abbrev pub SettlingsFollowTheRule : Type 0
SettlingsFollowTheRule = (given : ℤ) (past : List Entry) → IsTakenPast past → Settles given (ids_after past) past (settled given past) × IsSettled given (settled given past)

-- each transform of a legal past has Pages with a row at least
pub record ArePaced (past : List Entry) : Type 0 where
  pub legal : IsLegal (read past)
  pub each : (id : List ℕ) (l : Life) → life id (read past) ≡ Some l → 0 < l.meaning.page_size
