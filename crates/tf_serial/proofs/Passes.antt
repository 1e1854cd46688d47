-- A pass moves each transform until it is idle, and a move of one leaves the others idle: so one pass makes all moves, and a
-- second one moves nothing.
use Rattle.std.proofs.Common.{◌≡◌, ℕ, zero, suc, ◌+◌, ◌-◌, ◌≤◌, ℤ, List, [], ◌∷◌, ◌++◌, Option, Some, None, refl, sym, ap, ◌∙◌, arith}
use Rattle.std.specs.List.{AllByRecursion}
use Rattle.tf_model.specs.declared.entry.Entry.{Entry}
use Rattle.tf_core.specs.Listing.{ids_after}
use Rattle.tf_serial.specs.Moves.{all_left, left_in, moved_out, moves, next_move, pass, passes, settled}
use Rattle.tf_serial.specs.Settling.{ArePaced}
use Rattle.tf_serial.proofs.MoveByMove.{moves_add, moves_keep, moves_on, moves_stay, pass_keeps, passes_keep}
use Rattle.tf_serial.proofs.OneMove.{fewer_left, none_left, stays_idle, still_paced}

-- these transforms are idle
abbrev pub AreIdle : ℤ → List (List ℕ) → List Entry → Type 0
AreIdle given ids past = AllByRecursion (λ id. next_move given id past ≡ None) ids

-- ---- one transform
pub moves_paced : (given : ℤ) (n : ℕ) (id : List ℕ) (past : List Entry) → ArePaced past → ArePaced (moves given n id past)
moves_paced given = moves_keep given ArePaced (still_paced given)

-- so many moves as are left move it until it is idle
enough_by : (given : ℤ) (n : ℕ) (id : List ℕ) (past : List Entry) → ArePaced past → left_in given id past ≤ suc n
    → ((e : Entry) → ArePaced (e ∷ past) → left_in given id (e ∷ past) ≤ n → next_move given id (moves given n id (e ∷ past)) ≡ None) → (o : Option Entry) → next_move given id past ≡ o
    → next_move given id (moves given (suc n) id past) ≡ None
enough_by given n id past paced le later None is = ap (next_move given id) (moves_stay given (suc n) id past is) ∙ is
enough_by given n id past paced le later (Some e) is =
    ap (next_move given id) (moves_on given (suc n) n id past e refl is) ∙ later e (still_paced given id past e is paced) (omega (arith, fewer_left given id past e is paced, le))

enough : (given : ℤ) (n : ℕ) (id : List ℕ) (past : List Entry) → ArePaced past → left_in given id past ≤ n → next_move given id (moves given n id past) ≡ None
enough given zero id past paced le = none_left given id past (omega (arith, le))
enough given (suc n) id past paced le = enough_by given n id past paced le (λ e. enough given n id (e ∷ past)) (next_move given id past) refl

pub moved_out_idle : (given : ℤ) (id : List ℕ) (past : List Entry) → ArePaced past → next_move given id (moved_out given id past) ≡ None
moved_out_idle given id past paced = enough given (left_in given id past) id past paced (omega arith)

-- more moves make no difference
more_than_enough : (given : ℤ) (n : ℕ) (id : List ℕ) (past : List Entry) → ArePaced past → left_in given id past ≤ n → moves given n id past ≡ moved_out given id past
more_than_enough given n id past paced le =
    let left = left_in given id past in
    let all : left + (n - left) ≡ n = omega (arith, le) in
    ap (λ k. moves given k id past) (sym all) ∙ (sym (moves_add given left (n - left) id past) ∙ moves_stay given (n - left) id (moved_out given id past) (moved_out_idle given id past paced))

-- one of its moves, and the others
pub moved_out_on : (given : ℤ) (id : List ℕ) (past : List Entry) (e : Entry) → ArePaced past → next_move given id past ≡ Some e → moved_out given id (e ∷ past) ≡ moved_out given id past
moved_out_on given id past e paced is = by (left_in given id past) refl
  where
    by : (n : ℕ) → left_in given id past ≡ n → moved_out given id (e ∷ past) ≡ moved_out given id past
    by zero none = absurd (let wrong : ◌≡◌ {A = Option Entry} None (Some e) = sym (none_left given id past none) ∙ is in cc)
    by (suc n) some =
        sym (more_than_enough given n id (e ∷ past) (still_paced given id past e is paced) (omega (arith, fewer_left given id past e is paced, some)))
        ∙ (sym (moves_on given (suc n) n id past e refl is) ∙ ap (λ k. moves given k id past) (sym some))

-- some of its moves, and the others
moved_out_by : (given : ℤ) (n : ℕ) (id : List ℕ) (past : List Entry) → ArePaced past → ((e : Entry) → ArePaced (e ∷ past) → moved_out given id (moves given n id (e ∷ past)) ≡ moved_out given id (e ∷ past)) → (o : Option Entry)
    → next_move given id past ≡ o → moved_out given id (moves given (suc n) id past) ≡ moved_out given id past
moved_out_by given n id past paced later None is = ap (moved_out given id) (moves_stay given (suc n) id past is)
moved_out_by given n id past paced later (Some e) is =
    ap (moved_out given id) (moves_on given (suc n) n id past e refl is) ∙ (later e (still_paced given id past e is paced) ∙ moved_out_on given id past e paced is)

pub moved_out_through : (given : ℤ) (n : ℕ) (id : List ℕ) (past : List Entry) → ArePaced past → moved_out given id (moves given n id past) ≡ moved_out given id past
moved_out_through given zero id past paced = refl
moved_out_through given (suc n) id past paced = moved_out_by given n id past paced (λ e. moved_out_through given n id (e ∷ past)) (next_move given id past) refl

-- ---- a pass
pub pass_paced : (given : ℤ) (ids : List (List ℕ)) (past : List Entry) → ArePaced past → ArePaced (pass given ids past)
pass_paced given = pass_keeps given ArePaced (still_paced given)

pub passes_paced : (given : ℤ) (n : ℕ) (ids : List (List ℕ)) (past : List Entry) → ArePaced past → ArePaced (passes given n ids past)
passes_paced given = passes_keep given ArePaced (still_paced given)

-- it leaves each of its transforms idle
pub pass_idle : (given : ℤ) (ids : List (List ℕ)) (past : List Entry) → ArePaced past → AreIdle given ids (pass given ids past)
pass_idle given [] past paced = tt
pass_idle given (id ∷ ids) past paced =
    let now = moved_out given id past in (
      pass_keeps given (λ past. next_move given id past ≡ None) (λ other past e is. stays_idle given other past e is id) ids now (moved_out_idle given id past paced),
      pass_idle given ids now (moves_paced given (left_in given id past) id past paced),
    )

-- where they are idle it moves nothing
pub idle_pass : (given : ℤ) (ids : List (List ℕ)) (past : List Entry) → AreIdle given ids past → pass given ids past ≡ past
idle_pass given [] past idle = refl
idle_pass given (id ∷ ids) past idle = ap (pass given ids) (moves_stay given (left_in given id past) id past idle.0) ∙ idle_pass given ids past idle.1

idle_passes : (given : ℤ) (n : ℕ) (ids : List (List ℕ)) (past : List Entry) → AreIdle given ids past → passes given n ids past ≡ past
idle_passes given zero ids past idle = refl
idle_passes given (suc n) ids past idle = ap (passes given n ids) (idle_pass given ids past idle) ∙ idle_passes given n ids past idle

-- a second pass moves nothing
pub pass_twice : (given : ℤ) (ids : List (List ℕ)) (past : List Entry) → ArePaced past → pass given ids (pass given ids past) ≡ pass given ids past
pass_twice given ids past paced = idle_pass given ids (pass given ids past) (pass_idle given ids past paced)

-- nor do more of them
pub pass_again : (given : ℤ) (n : ℕ) (ids : List (List ℕ)) (past : List Entry) → ArePaced past → pass given ids (passes given n ids past) ≡ pass given ids past
pass_again given zero ids past paced = refl
pass_again given (suc n) ids past paced = pass_again given n ids (pass given ids past) (pass_paced given ids past paced) ∙ pass_twice given ids past paced

-- a pass over some transforms and over others
pub pass_add : (given : ℤ) (ids more : List (List ℕ)) (past : List Entry) → pass given (ids ++ more) past ≡ pass given more (pass given ids past)
pass_add given [] more past = refl
pass_add given (id ∷ ids) more past = pass_add given ids more (moved_out given id past)

-- one pass more of some
pub passes_more : (given : ℤ) (n : ℕ) (ids : List (List ℕ)) (past : List Entry) → passes given (suc n) ids past ≡ pass given ids (passes given n ids past)
passes_more given zero ids past = refl
passes_more given (suc n) ids past = passes_more given n ids (pass given ids past)

-- ---- a settling
idle_left : (given : ℤ) (ids : List (List ℕ)) (past : List Entry) → all_left given ids past ≡ 0 → AreIdle given ids past
idle_left given [] past none = tt
idle_left given (id ∷ ids) past none = (none_left given id past (omega (arith, none)), idle_left given ids past (omega (arith, none)))

-- it makes what one pass makes
pub settled_is : (given : ℤ) (past : List Entry) → ArePaced past → settled given past ≡ pass given (ids_after past) past
settled_is given past paced = by (all_left given (ids_after past) past) refl
  where
    ids : List (List ℕ)
    ids = ids_after past

    by : (n : ℕ) → all_left given ids past ≡ n → passes given n ids past ≡ pass given ids past
    by zero none = sym (idle_pass given ids past (idle_left given ids past none))
    by (suc n) some = idle_passes given n ids (pass given ids past) (pass_idle given ids past paced)
