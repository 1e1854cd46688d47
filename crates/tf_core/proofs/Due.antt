-- When a checkpoint is due, by what is kept of a transform.
use Rattle.std.proofs.Common.{◌≡◌, ℕ, suc, Bool, true, false, ◌&&◌, not, List, [], ◌∷◌, filter, length, Option, Some, None, refl, sym, ap, ◌∙◌, arith}
use Rattle.std.specs.Prelude.{ℤ, ◌||◌, ◌+ℤ◌, int_le, nat_eq, is_some, if◌then◌else◌}
use Rattle.std.specs.List.{list_any}
use Rattle.tf_model.specs.declared.config.Config.{Config}
use Rattle.tf_model.specs.declared.doc.Doc.{Doc}
use Rattle.tf_model.specs.Bounds.{due, due_after}
use Rattle.tf_model.specs.Counted.{is_in_window, window}
use Rattle.tf_history.specs.Agreement as agreement
use Rattle.tf_history.specs.Legality as legality
use Rattle.tf_history.specs.Lives as lives
use Rattle.tf_history.specs.Lives.{Checkpoint, Life, from_sources, last_bound}
use Rattle.tf_history.proofs.MeaningLaw.{meanings_agree}
use Rattle.tf_core.specs.declared.transform.Transform.{Transform}
use Rattle.tf_core.specs.Allowing.{bound_at, has_window, is_due, is_time, last_begin}
use Rattle.tf_core.specs.Sources.{is_among}
use Rattle.tf_core.specs.Summary.{IsSummary, last_moment}

-- ---- the window is looked at only where it is time
-- the first checkpoint is due whatever its window has
first_by : (c : Config) (last : Option ℤ) (prompted filled : Bool) (moment : ℤ) → last ≡ None → due c last prompted filled moment ≡ true
unfolding due
first_by c last prompted filled moment e = ap (λ o. due_after c o prompted filled moment) e

and_none : (a b : Bool) → (a && (true && b)) ≡ false → (a && (false && b)) ≡ false
and_none a b e = by a
  where
    by : (a : Bool) → (a && false) ≡ false
    by true = refl
    by false = refl

-- where it is not time no checkpoint is due
not_by : (c : Config) (last : Option ℤ) (prompted filled : Bool) (moment : ℤ) → due c last prompted true moment ≡ false → due c last prompted filled moment ≡ false
unfolding due
not_by c last prompted true moment e = e
not_by c None prompted false moment e = e
not_by c (Some begun) prompted false moment e = and_none (is_some c.sync) (prompted || int_le (begun +ℤ c.frequency_ms) moment) e

-- where it is time one is due that has a window
time_by : (c : Config) (begun : ℤ) (prompted filled : Bool) (moment : ℤ) → due c (Some begun) prompted true moment ≡ true → due c (Some begun) prompted filled moment ≡ filled
unfolding due
time_by c begun prompted true moment e = e
time_by c begun prompted false moment e = by (is_some c.sync)
  where
    by : (a : Bool) → (a && false) ≡ false
    by true = refl
    by false = refl

module _ (t : Transform) (docs : List Doc) (at_ms : ℤ) where
  pub due_not : is_time t at_ms ≡ false → is_due t docs at_ms ≡ false
  due_not e = not_by t.config (last_begin t) t.prompted (has_window t docs (bound_at t at_ms)) at_ms e

  pub due_first : t.begun ≡ 0 → is_due t docs at_ms ≡ true
  due_first e = first_by t.config (last_begin t) t.prompted (has_window t docs (bound_at t at_ms)) at_ms (ap (λ n. if nat_eq n 0 then None else Some t.begun_ms) e)

  pub due_window : is_time t at_ms ≡ true → nat_eq t.begun 0 ≡ false → is_due t docs at_ms ≡ has_window t docs (bound_at t at_ms)
  due_window e later =
      let some : last_begin t ≡ Some t.begun_ms = ap (λ b. if b then None else Some t.begun_ms) later in
      ap (λ last. due t.config last t.prompted (has_window t docs (bound_at t at_ms)) at_ms) some
      ∙ time_by t.config t.begun_ms t.prompted (has_window t docs (bound_at t at_ms)) at_ms (ap (λ last. due t.config last t.prompted true at_ms) (sym some) ∙ e)

-- ---- the same by the life
any_left : (p q : Doc → Bool) (docs : List Doc) → not (legality.is_empty (filter p (filter q docs))) ≡ list_any (λ d. q d && p d) docs
any_left p q [] = refl
any_left p q (d ∷ docs) = by (q d) (any_left p q docs)
  where
    kept : (b : Bool) → not (legality.is_empty (filter p (filter q docs))) ≡ list_any (λ d. q d && p d) docs
        → not (legality.is_empty (if b then d ∷ filter p (filter q docs) else filter p (filter q docs))) ≡ (b || list_any (λ d. q d && p d) docs)
    kept true rest = refl
    kept false rest = rest

    by : (a : Bool) → not (legality.is_empty (filter p (filter q docs))) ≡ list_any (λ d. q d && p d) docs
        → not (legality.is_empty (filter p (if a then d ∷ filter q docs else filter q docs))) ≡ ((a && p d) || list_any (λ d. q d && p d) docs)
    by true rest = kept (p d) rest
    by false rest = rest

never : (n : ℕ) → nat_eq (suc n) 0 ≡ false
never n = grind arith

begun_at : (cs : List Checkpoint) → (if nat_eq (length cs) 0 then None else Some (last_moment cs)) ≡ agreement.last_begin cs
begun_at [] = refl
begun_at (b ∷ before) = ap (λ none. if none then None else Some b.moment) (never (length before))

module _ (docs : List Doc) (t : Transform) (l : Life) (s : IsSummary docs t l) (moment : ℤ) where
  pub bound_at_is : bound_at t moment ≡ lives.next_bound l.meaning (last_bound l.checkpoints) moment
  bound_at_is =
      sym ((meanings_agree t.sources t.config).next_bound_is t.bound moment)
      ∙ (λ i. lives.next_bound (sym s.meaning_is i) (s.bound i) moment)

  window_is : legality.has_window l docs moment ≡ has_window t docs (bound_at t moment)
  unfolding window
  window_is =
      (λ i. not (legality.is_empty (lives.window (s.meaning_is i) (legality.next_checkpoint l docs moment ∷ l.checkpoints))))
      ∙ (ap (λ ds. not (legality.is_empty ds)) ((meanings_agree t.sources t.config).window_is (legality.next_checkpoint l docs moment) l.checkpoints)
      ∙ ((λ i. not (legality.is_empty (window t.config (sym s.bound i) (sym bound_at_is i) (from_sources (s.meaning_is i) docs))))
      ∙ any_left (is_in_window t.config t.bound (bound_at t moment)) (is_among t.sources) docs))

  last_is : last_begin t ≡ agreement.last_begin l.checkpoints
  last_is = (λ i. if nat_eq (s.begun i) 0 then None else Some (s.moment i)) ∙ begun_at l.checkpoints

  pub due_is : is_due t docs moment ≡ legality.is_due l docs moment
  due_is =
      (λ i. due t.config (last_is i) (s.prompted i) (sym window_is i) moment)
      ∙ sym ((meanings_agree t.sources t.config).due_is l docs moment s.meaning_is)
