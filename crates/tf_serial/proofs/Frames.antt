-- How far a settling has come, and the frames that come next.
use Rattle.std.proofs.Common.{◌≡◌, ℕ, ℤ, suc, ◌+◌, ◌<◌, false, List, [], ◌∷◌, ◌++◌, Option, Some, None, refl, sym, ap, subst, ◌∙◌, take, drop, get_or}
use Rattle.std.specs.Prelude.{length, reverse}
use Rattle.std.proofs.lemmas.List.{drop_more, take-append-drop, take_more}
use mathlib.Core.List.{IsPrefix}
use Rattle.tf_model.specs.declared.entry.Entry.{Entry}
use Rattle.tf_core.specs.Listing.{ids_after}
use Rattle.tf_serial.specs.Frames.{IsMove, IsOfPass, IsOnly, IsSettling}
use Rattle.tf_serial.specs.Moves.{left_in, moved_out, moves, next_move, pass, passes, settled}
use Rattle.tf_serial.specs.Settling.{ArePaced, IsAdvanced}
use Rattle.tf_serial.proofs.MoveByMove.{moves_add, moves_on, moves_stay}
use Rattle.tf_serial.proofs.OneMove.{fewer_left}
use Rattle.tf_serial.proofs.Passes.{moved_out_on, moved_out_through, moves_paced, pass_add, pass_again, passes_paced, passes_more, settled_is}
use Rattle.tf_serial.proofs.Prefixes.{moves_begin, pass_begins}

-- the first move
pub first_move : (given : ℤ) (id : List ℕ) (history : List Entry) (e : Entry) → next_move given id (reverse history) ≡ Some e → (left next : List Entry) → IsOnly history (e ∷ []) left next → IsMove given id (reverse history) left next
first_move given id history e move left next is = record {
  made = 0;
  behind = ap reverse is.0;
  entry = e;
  is = ap (λ (h : List Entry). next_move given id (reverse h)) is.0 ∙ move;
  alone = is.1;
}

-- ---- the moves of a transform
-- so many are made
abbrev pub IsMadeFrom : ℤ → List ℕ → List Entry → List Entry → Type 0
IsMadeFrom given id past now = (n : ℕ) × (now ≡ moves given n id past)

module _ (given : ℤ) (id : List ℕ) (past mid : List Entry) (so_far : IsMadeFrom given id past mid) where
  pub one_more : (now : List Entry) (e : Entry) → next_move given id mid ≡ Some e → now ≡ e ∷ mid → IsMadeFrom given id past now
  one_more now e next is = (so_far.0 + 1, is ∙ (sym (moves_on given 1 0 id mid e refl next) ∙ (ap (moves given 1 id) so_far.1 ∙ moves_add given so_far.0 1 id past)))

  -- the moves behind them
  pub move_frames : (left next : List Entry) → IsMove given id mid left next → IsMove given id past left next
  move_frames left next is = record {
    made = so_far.0 + is.made;
    behind = is.behind ∙ (ap (moves given is.made id) so_far.1 ∙ moves_add given so_far.0 is.made id past);
    entry = is.entry;
    is = is.is;
    alone = is.alone;
  }

  module _ (paced : ArePaced past) where
    paced_now : ArePaced mid
    paced_now = subst ArePaced (sym so_far.1) (moves_paced given so_far.0 id past paced)

    out_of : moved_out given id mid ≡ moved_out given id past
    out_of = ap (moved_out given id) so_far.1 ∙ moved_out_through given so_far.0 id past paced

    -- fewer are left behind the next one
    pub fewer_now : (now : List Entry) (e : Entry) → next_move given id mid ≡ Some e → now ≡ e ∷ mid → left_in given id now < left_in given id mid
    fewer_now now e next is = subst (λ p. left_in given id p < left_in given id mid) (sym is) (fewer_left given id mid e next paced_now)

    -- with no next one the transform is moved out
    pub all_made : (now : List Entry) → IsAdvanced given false id mid now → now ≡ moved_out given id past
    all_made now done = done.1 ∙ (sym (moves_stay given (left_in given id mid) id mid done.0) ∙ out_of)

    -- the next one is one of those that move it out
    pub next_begins : IsPrefix (reverse (moves given 1 id mid)) (reverse (moved_out given id past))
    next_begins = subst (λ now. IsPrefix (reverse (moves given 1 id mid)) (reverse now)) out_of (by (next_move given id mid) refl)
      where
        by : (o : Option Entry) → next_move given id mid ≡ o → IsPrefix (reverse (moves given 1 id mid)) (reverse (moved_out given id mid))
        by None is = subst (λ now. IsPrefix (reverse now) (reverse (moved_out given id mid))) (sym (moves_stay given 1 id mid is)) (moves_begin given mid (left_in given id mid) id)
        by (Some e) is =
            subst (λ now. IsPrefix (reverse now) (reverse (moved_out given id mid))) (sym (moves_on given 1 0 id mid e refl is))
            (subst (λ now. IsPrefix (reverse (e ∷ mid)) (reverse now)) (moved_out_on given id mid e paced_now is) (moves_begin given (e ∷ mid) (left_in given id (e ∷ mid)) id))

-- ---- a pass over transforms
-- one of them, behind those before it
module _ (given : ℤ) (ids : List (List ℕ)) (i : ℕ) (id : List ℕ) (past mid : List Entry) (within : i < length ids) (at : id ≡ get_or ids i id) (so_far : mid ≡ pass given (take i ids) past) where
  order : ids ≡ take i ids ++ id ∷ drop (i + 1) ids
  order = sym (take-append-drop i ids) ∙ ap (λ l. take i ids ++ l) (drop_more ids i id within ∙ ap (λ (t : List ℕ). t ∷ drop (i + 1) ids) (sym at))

  -- it is moved out too
  pub pass_more : (now : List Entry) → now ≡ moved_out given id mid → now ≡ pass given (take (i + 1) ids) past
  pass_more now is =
      is
      ∙ (ap (moved_out given id) so_far
      ∙ (sym (pass_add given (take i ids) (id ∷ []) past) ∙ ap (λ l. pass given l past) (ap (λ (t : List ℕ). take i ids ++ t ∷ []) at ∙ sym (take_more ids i id within))))

  -- its moves are among those of the pass
  pub pass_frames : (left next : List Entry) → IsMove given id mid left next → IsOfPass given ids past left next
  pass_frames left next is = record { before = take i ids; id = id; later = drop (i + 1) ids; order = order; move = subst (λ p. IsMove given id p left next) so_far is }

  pub out_begins : IsPrefix (reverse (moved_out given id mid)) (reverse (pass given ids past))
  out_begins =
      let now = moved_out given id mid in
      let all : pass given ids past ≡ pass given (drop (i + 1) ids) now
      = ap (λ l. pass given l past) order ∙ (pass_add given (take i ids) (id ∷ drop (i + 1) ids) past ∙ ap (λ p. pass given (drop (i + 1) ids) (moved_out given id p)) (sym so_far)) in
      subst (λ p. IsPrefix (reverse now) (reverse p)) (sym all) (pass_begins given now (drop (i + 1) ids))

-- ---- a settling
-- so many passes are made
abbrev pub ArePassed : ℤ → List (List ℕ) → List Entry → List Entry → Type 0
ArePassed given ids past now = (n : ℕ) × (now ≡ passes given n ids past)

module _ (given : ℤ) (ids : List (List ℕ)) (past mid : List Entry) (all : ids ≡ ids_after past) (so_far : ArePassed given ids past mid) where
  pub pass_once : (now : List Entry) → now ≡ pass given ids mid → ArePassed given ids past now
  pass_once now is = (suc so_far.0, is ∙ (ap (pass given ids) so_far.1 ∙ sym (passes_more given so_far.0 ids past)))

  pub settling_frames : (left next : List Entry) → IsOfPass given ids mid left next → IsSettling given past left next
  settling_frames left next is = record { made = so_far.0; move = subst (λ l. IsOfPass given l (passes given so_far.0 l past) left next) all (subst (λ p. IsOfPass given ids p left next) so_far.1 is) }

  module _ (paced : ArePaced past) where
    pub passed_paced : ArePaced mid
    passed_paced = subst ArePaced (sym so_far.1) (passes_paced given so_far.0 ids past paced)

    -- a further pass makes what a settling makes
    pub pass_settles : pass given ids mid ≡ settled given past
    pass_settles = ap (pass given ids) so_far.1 ∙ (pass_again given so_far.0 ids past paced ∙ (ap (λ l. pass given l past) all ∙ sym (settled_is given past paced)))
