-- How many checkpoints there are, and that the newest began at a moment in range.
use Rattle.std.proofs.Common.{◌≡◌, ℕ, suc, ◌+◌, ◌<◌, ◌≤◌, ◌^◌, true, false, List, [], ◌∷◌, length, Some, None, refl, ap, subst, arith, ltb-true}
use Rattle.std.specs.Prelude.{⊤, ℤ, pos, IfSome, if◌then◌else◌, nat_eq}
use Rattle.std.specs.List.{AllByRecursion}
use Rattle.std.proofs.lemmas.Int.{ints}
use Rattle.tf_bound.specs.Moments.{IsWithin}
use Rattle.tf_model.specs.declared.entry.Entry.{Entry}
use Rattle.tf_model.specs.Conditions.{IsSpan}
use Rattle.tf_history.specs.Events.{Event}
use Rattle.tf_history.specs.Lives.{Life, is_running, life}
use Rattle.tf_history.proofs.Induction.{IsKept, holds, legal_known}
use Rattle.tf_core.specs.Legal.{IsTakenPast, read}
use Rattle.tf_core.specs.Summary.{last_moment}
use Rattle.tf_core.proofs.Taken.{read_is_legal}

-- ---- of every life of a legal past
-- an event at a moment in range
abbrev IsInSpan : Event → Type 0
IsInSpan e = IsSpan e.moment

pub record IsBegun (past : List Event) (l : Life) : Type 0 where
  pub few : length l.checkpoints ≤ length past
  pub few_finished : l.finished ≤ length past
  pub one_runs : length l.checkpoints ≤ l.finished + 1
  pub moment : AllByRecursion IsInSpan past → IsSpan (last_moment l.checkpoints)

zero_is : IsSpan (pos 0)
zero_is = (omega (arith, ints), omega (arith, ints))

kept : IsKept (λ _ _. ⊤) IsBegun
kept = record {
  opened = λ past moment deed c. record { few = omega arith; few_finished = omega arith; one_runs = omega arith; moment = λ all. zero_is };
  aside = λ past moment deed l legal none h. record { few = omega (arith, h.few); few_finished = omega (arith, h.few_finished); one_runs = h.one_runs; moment = λ all. h.moment all.1 };
  turned = λ past moment deed turn l legal none h. record { few = omega (arith, h.few); few_finished = omega (arith, h.few_finished); one_runs = h.one_runs; moment = λ all. h.moment all.1 };
  wrote = λ past moment d l legal h. record { few = omega (arith, h.few); few_finished = omega (arith, h.few_finished); one_runs = h.one_runs; moment = λ all. h.moment all.1 };
  begun = λ past moment id n bound l legal m h. record { few = omega (arith, h.few); few_finished = omega (arith, h.few_finished); one_runs = (let idle = m.idle in omega (arith, idle)); moment = λ all. all.0 };
  paged = λ past moment id n rows l legal m r h. record { few = omega (arith, h.few); few_finished = omega (arith, h.few_finished); one_runs = h.one_runs; moment = λ all. h.moment all.1 };
  done = λ past moment id n l legal m h. record { few = omega (arith, h.few); few_finished = omega (arith, h.few, m.running.1); one_runs = omega (arith, m.running.1); moment = λ all. h.moment all.1 };
}

-- ---- of the lives of a past whose entries were taken
all_in_span : (past : List Entry) → IsTakenPast past → AllByRecursion IsInSpan (read past)
all_in_span [] taken = tt
all_in_span (e ∷ past) taken = (taken.1.legal.moment, all_in_span past taken.0)

pub as_many : (past : List Entry) → length (read past) ≡ length past
as_many [] = refl
as_many (e ∷ past) = ap suc (as_many past)

module _ (past : List Entry) (taken : IsTakenPast past) (id : List ℕ) (l : Life) (is : life id (read past) ≡ Some l) where
  known : IsBegun (read past) l
  known =
      let legal = read_is_legal past taken in
      subst (λ o. IfSome o (IsBegun (read past))) is (holds (λ _ _. ⊤) IsBegun kept id (read past) legal (legal_known id (read past) legal))

  -- no more checkpoints have begun than there are entries
  pub few_begun : length l.checkpoints ≤ length past
  few_begun = subst (λ n. length l.checkpoints ≤ n) (as_many past) known.few

  pub few_finished : l.finished ≤ length past
  few_finished = subst (λ n. l.finished ≤ n) (as_many past) known.few_finished

  -- where a checkpoint is running it is the one behind the last that is finished
  pub one_more : is_running l ≡ true → l.finished + 1 ≡ length l.checkpoints
  one_more runs =
      let below : l.finished < length l.checkpoints = ltb-true l.finished (length l.checkpoints) runs in
      omega (arith, below, known.one_runs)

  pub begun_in_range : IsSpan (last_moment l.checkpoints)
  begun_in_range = known.moment (all_in_span past taken)

-- ---- moments in range are near enough to 1970
pub span_within : (ms : ℤ) → IsSpan ms → IsWithin (2 ^ 59) ms
span_within ms is = (omega (arith, ints, is.0), omega (arith, ints, is.1))

pub begin_within : (begun : ℕ) (ms : ℤ) → IsSpan ms → IfSome (if nat_eq begun 0 then None else Some ms) (IsWithin (2 ^ 59))
begin_within begun ms is = elim (nat_eq begun 0) as (λ b. IfSome (if b then None else Some ms) (IsWithin (2 ^ 59))) [
  | true ↦ tt
  | false ↦ span_within ms is
]
