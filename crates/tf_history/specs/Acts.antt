-- What legality says of an entry as an act on one transform.
use Rattle.std.specs.Prelude.{◌≡◌, ℕ, ℤ, ◌+◌, ⊤, true, [], Option, IsSomeAnd}
use Rattle.tf_history.specs.Lives.{Life, Act, last_bound, next_bound}
use Rattle.tf_history.specs.Lives.Act.{Begins, Pages, Finishes}
use Rattle.tf_history.specs.Legality.{IsIdle, MayPage, MayFinish}

-- a Begin of the next checkpoint while none is running; a batch transform has one
pub record IsNextBegin (l : Life) (n : ℕ) (bound : Option ℤ) (moment : ℤ) : Type 0 where
  pub idle : IsIdle l
  pub number : n ≡ l.finished + 1
  pub bound_is : bound ≡ next_bound l.meaning (last_bound l.checkpoints) moment
  pub once : l.meaning.is_batch ≡ true → l.checkpoints ≡ []

-- what is known of an act of a legal entry, where the transform's life is there
abbrev pub MayAct : Act → Option Life → Type 0
MayAct (Begins n bound moment) o = IsSomeAnd o (λ l. IsNextBegin l n bound moment)
MayAct (Pages n rows) o = IsSomeAnd o (λ l. MayPage l n rows)
MayAct (Finishes n) o = IsSomeAnd o (λ l. MayFinish l n)
MayAct _ o = ⊤
