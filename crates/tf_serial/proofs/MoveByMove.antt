-- Moves one by one: what each move keeps, a settling keeps.
use Rattle.std.proofs.Common.{◌≡◌, ℕ, zero, suc, ◌+◌, ℤ, List, [], ◌∷◌, Option, Some, None, refl, ap, ◌∙◌, arith}
use Rattle.std.specs.Prelude.{option_map, unwrap_or}
use Rattle.tf_model.specs.declared.entry.Entry.{Entry}
use Rattle.tf_core.specs.Listing.{ids_after}
use Rattle.tf_serial.specs.Moves.{all_left, left_in, moved_out, moves, next_move, pass, passes, settled}

-- with no next move all is as it is
pub moves_stay : (given : ℤ) (n : ℕ) (id : List ℕ) (past : List Entry) → next_move given id past ≡ None → moves given n id past ≡ past
moves_stay given zero id past none = refl
moves_stay given (suc n) id past none = ap (λ o. unwrap_or (option_map (λ e. moves given n id (e ∷ past)) o) past) none

-- one move of some, and the others
pub moves_on : (given : ℤ) (n m : ℕ) (id : List ℕ) (past : List Entry) (e : Entry) → n ≡ suc m → next_move given id past ≡ Some e → moves given n id past ≡ moves given m id (e ∷ past)
moves_on given n m id past e more is = ap (λ k. moves given k id past) more ∙ ap (λ o. unwrap_or (option_map (λ e. moves given m id (e ∷ past)) o) past) is

-- moves after moves
more_moves : (given : ℤ) (m n : ℕ) (id : List ℕ) (past : List Entry) → ((e : Entry) → moves given m id (moves given n id (e ∷ past)) ≡ moves given (n + m) id (e ∷ past)) → (o : Option Entry)
    → next_move given id past ≡ o → moves given m id (unwrap_or (option_map (λ e. moves given n id (e ∷ past)) o) past) ≡ unwrap_or (option_map (λ e. moves given (n + m) id (e ∷ past)) o) past
more_moves given m n id past later None is = moves_stay given m id past is
more_moves given m n id past later (Some e) is = later e

pub moves_add : (given : ℤ) (n m : ℕ) (id : List ℕ) (past : List Entry) → moves given m id (moves given n id past) ≡ moves given (n + m) id past
moves_add given zero m id past = let all : m ≡ 0 + m = omega arith in ap (λ k. moves given k id past) all
moves_add given (suc n) m id past =
    let all : suc (n + m) ≡ suc n + m = omega arith in
    more_moves given m n id past (λ e. moves_add given n m id (e ∷ past)) (next_move given id past) refl ∙ ap (λ k. moves given k id past) all

-- what a move of any transform keeps
module _ (given : ℤ) (P : List Entry → Type 0) (keeps : (id : List ℕ) (past : List Entry) (e : Entry) → next_move given id past ≡ Some e → P past → P (e ∷ past)) where
  more_kept : (n : ℕ) (id : List ℕ) (past : List Entry) → ((e : Entry) → P (e ∷ past) → P (moves given n id (e ∷ past))) → (o : Option Entry) → next_move given id past ≡ o → P past
      → P (unwrap_or (option_map (λ e. moves given n id (e ∷ past)) o) past)
  more_kept n id past later None is p = p
  more_kept n id past later (Some e) is p = later e (keeps id past e is p)

  pub moves_keep : (n : ℕ) (id : List ℕ) (past : List Entry) → P past → P (moves given n id past)
  moves_keep zero id past p = p
  moves_keep (suc n) id past p = more_kept n id past (λ e. moves_keep n id (e ∷ past)) (next_move given id past) refl p

  pub pass_keeps : (ids : List (List ℕ)) (past : List Entry) → P past → P (pass given ids past)
  pass_keeps [] past p = p
  pass_keeps (id ∷ ids) past p = pass_keeps ids (moved_out given id past) (moves_keep (left_in given id past) id past p)

  pub passes_keep : (n : ℕ) (ids : List (List ℕ)) (past : List Entry) → P past → P (passes given n ids past)
  passes_keep zero ids past p = p
  passes_keep (suc n) ids past p = passes_keep n ids (pass given ids past) (pass_keeps ids past p)

  pub settling_keeps : (past : List Entry) → P past → P (settled given past)
  settling_keeps past p = passes_keep (all_left given (ids_after past) past) (ids_after past) past p
