-- What a submit answers.
use Rattle.std.proofs.Common.{◌≡◌, ℕ, ◌<◌, List, refl, sym, subst, [], ◌∷◌, length, Option, Err, arith}
use Rattle.std.specs.Prelude.{Result}
use Rattle.tf_model.specs.declared.entry.Entry.{Entry}
use Rattle.tf_store.specs.Answers.{CommitAnswers, OrMemory, SubmitAnswers, counted, frame_size}
use Rattle.tf_store.specs.declared.error.StoreError.{StoreError}
use Rattle.tf_store.specs.declared.error.StoreError.TheVariants as store_error

or_memory : (error : StoreError) (P : Type 0) → P → OrMemory (Err error) P
or_memory store_error.Memory P p = tt
or_memory (store_error.Disk count) P p = p
or_memory (store_error.Broken count) P p = p
or_memory (store_error.Full len) P p = p

-- a commit of entries that was refused
pub commit_refused : (es : List Entry) (broken : Option ℕ) (len number faults_before faults_now : ℕ) (error : StoreError) → 0 < length es
    → CommitAnswers broken len (frame_size es) number faults_before faults_now (Err error) → SubmitAnswers es broken len number faults_before faults_now (Err error)
commit_refused [] broken len number faults_before faults_now error some answers = absurd (omega (arith, some))
commit_refused (e ∷ es) broken len number faults_before faults_now error some answers = or_memory error (CommitAnswers broken len (frame_size (e ∷ es)) number faults_before faults_now (Err error)) answers

no_memory : (es : List Entry) (broken : Option ℕ) (len number faults_before faults_now : ℕ) → SubmitAnswers es broken len number faults_before faults_now (Err store_error.Memory)
no_memory [] broken len number faults_before faults_now = refl
no_memory (e ∷ es) broken len number faults_before faults_now = tt

-- memory is wanted
pub memory_refused : {X : Type 0} (r : Result X StoreError) (es : List Entry) (broken : Option ℕ) (len number faults_before faults_now : ℕ) → r ≡ Err store_error.Memory
    → SubmitAnswers es broken len number faults_before faults_now (counted number r)
memory_refused r es broken len number faults_before faults_now is =
    subst (λ r. SubmitAnswers es broken len number faults_before faults_now (counted number r)) (sym is) (no_memory es broken len number faults_before faults_now)
