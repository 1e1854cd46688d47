-- Where every source is stamped nothing is late.
use Rattle.std.proofs.Common.{◌≡◌, ℕ, ℤ, ◌+◌, Bool, true, false, cond, ◌&&◌, ◌||◌, List, [], ◌∷◌, Option, Some, None, arith, refl, sym, ap, ◌∙◌, subst}
use Rattle.std.specs.Prelude.{⊤, IfSome, ◌≤ℤ◌, int_lt}
use Rattle.std.specs.List.{list_any}
use Rattle.std.proofs.lemmas.Int.{ints}
use Rattle.tf_history.specs.Lives.{Checkpoint, Life, last_bound, next_bound, is_under, is_late}
use Rattle.tf_model.specs.Bounds.{risen}
use Rattle.tf_history.specs.Legality.{IsNotBefore}
use Rattle.tf_history.specs.Laws.{IsStamped, StampedIsNeverLate}
use Rattle.tf_history.proofs.Numbers.{int_trans, max_at_most}
use Rattle.tf_history.proofs.Induction.{IsKept, holds, legal_known}
use Rattle.tf_history.specs.Events.{Event}
use Rattle.tf_history.specs.Meaning.{Meaning}
use Rattle.tf_model.specs.declared.doc.Doc.{Doc}

abbrev IsAtMost : Option ℤ → ℤ → Type 0
IsAtMost None moment = ⊤
IsAtMost (Some x) moment = x ≤ℤ moment

abbrev AllAtMost : List Checkpoint → ℤ → Type 0
AllAtMost [] moment = ⊤
AllAtMost (b ∷ before) moment = IsAtMost b.bound moment × AllAtMost before moment

not_under : (x y : ℤ) → x ≤ℤ y → int_lt y x ≡ false
not_under x y e = grind (arith, ints)

bound_later : (o : Option ℤ) (x y : ℤ) → IsAtMost o x → x ≤ℤ y → IsAtMost o y
bound_later None x y h e = tt
bound_later (Some b) x y h e = int_trans b x y h e

all_later : (checkpoints : List Checkpoint) (x y : ℤ) → AllAtMost checkpoints x → x ≤ℤ y → AllAtMost checkpoints y
all_later [] x y h e = tt
all_later (b ∷ before) x y h e = (bound_later b.bound x y h.0 e, all_later before x y h.1 e)

not_late : (checkpoints : List Checkpoint) (moment : ℤ) → AllAtMost checkpoints moment → list_any (λ b. is_under b.bound (Some moment)) checkpoints ≡ false
not_late [] moment h = refl
not_late (b ∷ before) moment h = one b.bound h.0 (not_late before moment h.1)
  where
    one : (o : Option ℤ) → IsAtMost o moment → list_any (λ a. is_under a.bound (Some moment)) before ≡ false
        → (is_under o (Some moment) || list_any (λ a. is_under a.bound (Some moment)) before) ≡ false
    one None g rest = rest
    one (Some x) g rest = ap (λ t. t || list_any (λ a. is_under a.bound (Some moment)) before) (not_under x moment g) ∙ rest

-- what holds after a history: while it is stamped
abbrev Below : List Event → List Checkpoint → Type 0
Below [] checkpoints = checkpoints ≡ []
Below (e ∷ past) checkpoints = AllAtMost checkpoints e.moment

record StampsHold (past : List Event) (l : Life) : Type 0 where
  below : ((x : ℤ) → l.meaning.aligned x ≤ℤ x) → Below past l.checkpoints
  never : ((x : ℤ) → l.meaning.aligned x ≤ℤ x) → IsStamped l.meaning past → l.late ≡ 0

below_now : (past : List Event) (checkpoints : List Checkpoint) (moment : ℤ) → IsNotBefore moment past → Below past checkpoints → AllAtMost checkpoints moment
below_now [] checkpoints moment e h = subst (λ (cs : List Checkpoint). AllAtMost cs moment) (sym h) tt
below_now (p ∷ past) checkpoints moment e h = all_later checkpoints p.moment moment h e

next_at_most : (c : Meaning) (checkpoints : List Checkpoint) (moment : ℤ) → c.aligned moment ≤ℤ moment → AllAtMost checkpoints moment
    → IsAtMost (next_bound c (last_bound checkpoints) moment) moment
next_at_most c checkpoints moment e h =
    elim c.is_batch as (λ b. IsAtMost (cond b None (Some (risen (last_bound checkpoints) (c.aligned moment)))) moment) [ true ↦ tt | false ↦ cases checkpoints h ]
  where
    with : (o : Option ℤ) → IsAtMost o moment → IsAtMost (Some (risen o (c.aligned moment))) moment
    with None g = e
    with (Some x) g = max_at_most x (c.aligned moment) moment g e

    cases : (cs : List Checkpoint) → AllAtMost cs moment → IsAtMost (Some (risen (last_bound cs) (c.aligned moment))) moment
    cases [] g = e
    cases (b ∷ before) g = with b.bound g.0

late_none : (c : Meaning) (checkpoints : List Checkpoint) (d : Doc) (moment : ℤ) (n : ℕ) → AllAtMost checkpoints moment
    → (c.is_source d.index ≡ true → c.sync d ≡ Some moment) → n ≡ 0 → cond (is_late c checkpoints d) (n + 1) n ≡ 0
late_none c checkpoints d moment n h stamped zero_is = tests (c.is_source d.index) refl
  where
    and_no : (m t : Bool) → t ≡ false → (m && t) ≡ false
    and_no true t e = e
    and_no false t e = refl

    tests : (s : Bool) → c.is_source d.index ≡ s → cond (s && (c.matches d && list_any (λ b. is_under b.bound (c.sync d)) checkpoints)) (n + 1) n ≡ 0
    tests true e =
        let none : list_any (λ b. is_under b.bound (c.sync d)) checkpoints ≡ false = ap (λ v. list_any (λ b. is_under b.bound v) checkpoints) (stamped e) ∙ not_late checkpoints moment h in
        ap (λ t. cond t (n + 1) n) (and_no (c.matches d) (list_any (λ b. is_under b.bound (c.sync d)) checkpoints) none) ∙ zero_is
    tests false e = zero_is

kept : IsKept (λ _ _. ⊤) StampsHold
kept = record {
  opened = λ past moment deed c. record { below = λ _. tt; never = λ _ _. refl };
  aside = λ past moment deed l legal none h. record { below = λ a. below_now past l.checkpoints moment legal.2 (h.below a); never = λ a s. h.never a s.0 };
  turned = λ past moment deed turn l legal none h. record { below = λ a. below_now past l.checkpoints moment legal.2 (h.below a); never = λ a s. h.never a s.0 };
  wrote = λ past moment d l legal h. record {
    below = λ a. below_now past l.checkpoints moment legal.2 (h.below a);
    never = λ a s. late_none l.meaning l.checkpoints d moment l.late (below_now past l.checkpoints moment legal.2 (h.below a)) (s.1 d refl) (h.never a s.0);
  };
  begun = λ past moment id n bound l legal m h. record {
    below = λ a. let g = below_now past l.checkpoints moment legal.2 (h.below a) in
        (subst (λ o. IsAtMost o moment) (sym m.bound_is) (next_at_most l.meaning l.checkpoints moment (a moment) g), g);
    never = λ a s. h.never a s.0;
  };
  paged = λ past moment id n rows l legal m r h. record { below = λ a. below_now past l.checkpoints moment legal.2 (h.below a); never = λ a s. h.never a s.0 };
  done = λ past moment id n l legal m h. record { below = λ a. below_now past l.checkpoints moment legal.2 (h.below a); never = λ a s. h.never a s.0 };
}

pub stamped_is_never_late : StampedIsNeverLate
stamped_is_never_late past t l legal is stamped early = (subst (λ o. IfSome o (StampsHold past)) is (holds (λ _ _. ⊤) StampsHold kept t past legal (legal_known t past legal))).never early stamped
