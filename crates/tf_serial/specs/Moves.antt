-- The indexer's moves at a given moment, and what a settling makes of them.
use Rattle.std.specs.Prelude.{◌≡◌, ℕ, ℤ, zero, suc, ◌+◌, List, [], ◌∷◌, Option, Some, None, unwrap_or}
use Rattle.std.specs.Option.{option_map}
use Rattle.tf_model.specs.declared.doc.Doc.{Doc}
use Rattle.tf_model.specs.declared.entry.Entry.{Entry}
use Rattle.tf_history.specs.Legality.{moves_left}
use Rattle.tf_history.specs.Lives.{Life, documents, life}
use Rattle.tf_core.specs.Legal.{read}
use Rattle.tf_core.specs.Listing.{ids_after}
use Rattle.tf_core.specs.Moves as core
use Rattle.tf_core.specs.Moves.{moment_after}

-- the entry of the next move of a transform where a moment is given; none where it has none
abbrev pub next_move : ℤ → List ℕ → List Entry → Option Entry
next_move given id past = core.move id past (moment_after past given)

-- no transform has a next move
abbrev pub IsSettled : ℤ → List Entry → Type 0
IsSettled given past = (id : List ℕ) → next_move given id past ≡ None

-- a past after the next moves of a transform, at most so many
abbrev pub moves : ℤ → ℕ → List ℕ → List Entry → List Entry
moves given zero id past = past
moves given (suc n) id past = unwrap_or (option_map (λ e. moves given n id (e ∷ past)) (next_move given id past)) past

abbrev pub left_by : Option Life → List Doc → ℤ → ℕ
left_by None docs moment = 0
left_by (Some l) docs moment = moves_left l docs moment

-- how many moves of a transform are left at most
abbrev pub left_in : ℤ → List ℕ → List Entry → ℕ
left_in given id past = left_by (life id (read past)) (documents (read past)) (moment_after past given)

-- how many moves of these transforms are left at most
abbrev pub all_left : ℤ → List (List ℕ) → List Entry → ℕ
all_left given [] past = 0
all_left given (id ∷ ids) past = left_in given id past + all_left given ids past

-- a past after a transform is moved until it is idle
abbrev pub moved_out : ℤ → List ℕ → List Entry → List Entry
moved_out given id past = moves given (left_in given id past) id past

-- a past after a pass: these transforms, one after the other, are moved until they are idle
abbrev pub pass : ℤ → List (List ℕ) → List Entry → List Entry
pass given [] past = past
pass given (id ∷ ids) past = pass given ids (moved_out given id past)

-- a past after so many passes
abbrev pub passes : ℤ → ℕ → List (List ℕ) → List Entry → List Entry
passes given zero ids past = past
passes given (suc n) ids past = passes given n ids (pass given ids past)

-- A past after a settling: passes over the transforms in the order of their ids, until one moves nothing. Each pass before
-- that makes one of the moves that are left at least, so there are no more passes than these.
abbrev pub settled : ℤ → List Entry → List Entry
settled given past = passes given (all_left given (ids_after past) past) (ids_after past) past
