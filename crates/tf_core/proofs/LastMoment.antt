-- The moment of the last entry.
use Rattle.std.proofs.Common.{◌≡◌, ℕ, zero, suc, ◌-◌, List, [], ◌∷◌, length, map, Option, Some, None, arith, refl, ap, ◌∙◌, sym}
use Rattle.std.specs.Prelude.{◌++◌, ℤ, ◌≤ℤ◌, ◌<ℤ◌, Bool, true, false, if◌then◌else◌, int_le, slice_get, reverse}
use Rattle.std.proofs.lemmas.Int.{ints}
use Rattle.std.proofs.lemmas.List.{reverse-append}
use Rattle.tf_model.specs.declared.entry.Entry.{Entry}
use Rattle.tf_core.specs.Moves.{clamped, last_ms_in, moment_after}
use Rattle.tf_core.proofs.Truths.{at_most_int}
use Rattle.tf_core.specs.declared.kept.Kept.{Kept}
use Rattle.tf_core.specs.Held.{last_ms_of}
use Rattle.tf_core.specs.Kept.{entry_of}

last_at : (entries : List Kept) (n : ℕ) (k : Kept) → length entries ≡ suc n → slice_get entries n ≡ Some k → last_ms_of (map entry_of entries) ≡ (entry_of k).at_ms
last_at [] n k long e = absurd (omega arith)
last_at (x ∷ []) zero k long e = let same : x ≡ k = cc in ap (λ (y : Kept). (entry_of y).at_ms) same
last_at (x ∷ y ∷ entries) zero k long e = absurd (omega arith)
last_at (x ∷ []) (suc n) k long e = absurd (omega arith)
last_at (x ∷ y ∷ entries) (suc n) k long e = last_at (y ∷ entries) n k (omega arith) e

pub last_held : (entries : List Kept) (k : Kept) → slice_get entries (length entries - 1) ≡ Some k → last_ms_of (map entry_of entries) ≡ (entry_of k).at_ms
last_held [] k e = absurd (let z : ◌≡◌ {A = Option Kept} None (Some k) = e in cc)
last_held (x ∷ entries) k e =
    let one : length (x ∷ entries) - 1 ≡ length entries = omega arith in
    last_at (x ∷ entries) (length entries) k refl (ap (slice_get (x ∷ entries)) (sym one) ∙ e)

ended : (past : List Entry) (e f : Entry) → last_ms_in ((past ++ f ∷ []) ++ e ∷ []) ≡ last_ms_in (past ++ f ∷ [])
ended [] e f = refl
ended (g ∷ past) e f = refl

-- the newest entry of a past is the last of its history
pub last_is_newest : (history : List Entry) → last_ms_in (reverse history) ≡ last_ms_of history
last_is_newest [] = refl
last_is_newest (e ∷ []) = refl
last_is_newest (e ∷ f ∷ history) =
    ap last_ms_in (reverse-append (e ∷ []) (f ∷ history))
    ∙ (ap (λ past. last_ms_in (past ++ e ∷ [])) (reverse-append (f ∷ []) history)
    ∙ (ended (reverse history) e f ∙ (ap last_ms_in (sym (reverse-append (f ∷ []) history)) ∙ last_is_newest (f ∷ history))))

-- ---- the moment that a given one makes
pub now_is : (history : List Entry) (last now given : ℤ) → last ≡ last_ms_of history → now ≡ clamped given → last ≤ℤ now → now ≡ moment_after (reverse history) given
now_is history last now given is clamps later =
    let newest : last_ms_in (reverse history) ≡ last = last_is_newest history ∙ sym is in
    let test : int_le (last_ms_in (reverse history)) (clamped given) ≡ true = (λ i. int_le (newest i) (sym clamps i)) ∙ at_most_int last now later in
    clamps ∙ sym (ap (λ (b : Bool). if b then clamped given else last_ms_in (reverse history)) test)

pub last_is : (history : List Entry) (last now given : ℤ) → last ≡ last_ms_of history → now ≡ clamped given → now <ℤ last → last ≡ moment_after (reverse history) given
last_is history last now given is clamps sooner =
    let newest : last_ms_in (reverse history) ≡ last = last_is_newest history ∙ sym is in
    let test : int_le (last_ms_in (reverse history)) (clamped given) ≡ false = (λ i. int_le (newest i) (sym clamps i)) ∙ not_most last now sooner in
    sym newest ∙ sym (ap (λ (b : Bool). if b then clamped given else last_ms_in (reverse history)) test)
  where
    not_most : (a b : ℤ) → b <ℤ a → int_le a b ≡ false
    not_most a b e = grind (arith, ints)
