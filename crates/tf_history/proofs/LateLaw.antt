-- Bounds never fall, so a document is late where its sync value is below the last one; and no more are late than are written.
use Rattle.std.proofs.Common.{◌≡◌, ℕ, ℤ, ◌+◌, ◌≤◌, Bool, true, false, cond, ◌||◌, List, [], length, Option, Some, None, arith, refl, sym, ap, ◌∙◌, subst}
use Rattle.std.specs.Prelude.{⊤, IfSome}
use Rattle.std.specs.List.{list_any}
use Rattle.tf_history.specs.Meaning.{Meaning}
use Rattle.tf_history.specs.Events.{Event}
use Rattle.tf_history.specs.Lives.{Checkpoint, Life, last_bound, next_bound, is_under, is_late}
use Rattle.tf_model.specs.Bounds.{risen}
use Rattle.tf_history.specs.Laws.{LastBoundDecides, LateAreFew}
use Rattle.tf_history.proofs.Lists.{or_false}
use Rattle.tf_history.proofs.Counting.{below_risen}
use Rattle.tf_history.proofs.CompleteLaw.{continuous_next}
use Rattle.tf_history.proofs.Induction.{IsKept, holds, legal_known}

-- below some earlier bound
abbrev is_under_some : List Checkpoint → Option ℤ → Bool
is_under_some checkpoints v = list_any (λ b. is_under b.bound v) checkpoints

abbrev LastDecides : List Event → Life → Type 0
LastDecides past l = (v : Option ℤ) → is_under_some l.checkpoints v ≡ is_under (last_bound l.checkpoints) v

or_weaker : (a b : Bool) → (b ≡ true → a ≡ true) → (a || b) ≡ a
or_weaker true b h = refl
or_weaker false true h = sym (h refl)
or_weaker false false h = refl

under_later : (o : Option ℤ) (y : ℤ) (v : Option ℤ) → is_under o v ≡ true → is_under (Some (risen o y)) v ≡ true
under_later None y v e = absurd (let z : false ≡ true = e in cc)
under_later (Some x) y v e = below_risen v x y e

begun : (c : Meaning) (bound : Option ℤ) (moment : ℤ) (checkpoints : List Checkpoint) (v : Option ℤ)
    → bound ≡ next_bound c (last_bound checkpoints) moment → (c.is_batch ≡ true → checkpoints ≡ [])
    → is_under_some checkpoints v ≡ is_under (last_bound checkpoints) v → (is_under bound v || is_under_some checkpoints v) ≡ is_under bound v
begun c bound moment checkpoints v next once h = by_kind c.is_batch refl
  where
    by_kind : (b : Bool) → c.is_batch ≡ b → (is_under bound v || is_under_some checkpoints v) ≡ is_under bound v
    by_kind true e = ap (λ (cs : List Checkpoint). is_under bound v || is_under_some cs v) (once e) ∙ or_false (is_under bound v)
    by_kind false e =
        let rise : bound ≡ Some (risen (last_bound checkpoints) (c.aligned moment)) = next ∙ continuous_next c (last_bound checkpoints) moment e in
        ap (λ t. is_under bound v || t) h
        ∙ or_weaker (is_under bound v) (is_under (last_bound checkpoints) v) (λ u. ap (λ o. is_under o v) rise ∙ under_later (last_bound checkpoints) (c.aligned moment) v u)

decided : IsKept (λ _ _. ⊤) LastDecides
decided = record {
  opened = λ past moment deed c v. refl;
  aside = λ past moment deed l legal none h. h;
  turned = λ past moment deed turn l legal none h. h;
  wrote = λ past moment d l legal h. h;
  begun = λ past moment id n bound l legal m h v. begun l.meaning bound moment l.checkpoints v m.bound_is m.once (h v);
  paged = λ past moment id n rows l legal m r h. h;
  done = λ past moment id n l legal m h. h;
}

pub last_bound_decides : LastBoundDecides
last_bound_decides past t l legal is = subst (λ o. IfSome o (LastDecides past)) is (holds (λ _ _. ⊤) LastDecides decided t past legal (legal_known t past legal))

abbrev IsFew : List Event → Life → Type 0
IsFew past l = l.late ≤ length past

one_more : (b : Bool) (late n : ℕ) → late ≤ n → cond b (late + 1) late ≤ n + 1
one_more true late n h = omega arith
one_more false late n h = omega arith

few : IsKept (λ _ _. ⊤) IsFew
few = record {
  opened = λ past moment deed c. omega arith;
  aside = λ past moment deed l legal none h. omega arith;
  turned = λ past moment deed turn l legal none h. omega arith;
  wrote = λ past moment d l legal h. let z : cond (is_late l.meaning l.checkpoints d) (l.late + 1) l.late ≤ length past + 1 = one_more (is_late l.meaning l.checkpoints d) l.late (length past) h in omega arith;
  begun = λ past moment id n bound l legal m h. omega arith;
  paged = λ past moment id n rows l legal m r h. omega arith;
  done = λ past moment id n l legal m h. omega arith;
}

pub late_are_few : LateAreFew
late_are_few past t l legal is = subst (λ o. IfSome o (IsFew past)) is (holds (λ _ _. ⊤) IsFew few t past legal (legal_known t past legal))
