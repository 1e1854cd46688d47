-- What is written fits in a file.
use Rattle.std.proofs.Common.{◌≡◌, ℕ, ◌+◌, ◌≤◌, ◌^◌, List, [], ◌∷◌, Option, None, Some, refl, sym, subst, ◌∙◌, inl, inr, arith}
use Rattle.std.specs.Prelude.{Result, Ok, Err, OnOk}
use Rattle.std.proofs.lemmas.List.{append-nil}
use Rattle.tf_model.specs.declared.entry.Entry.{Entry}
use Rattle.tf_store.specs.Answers.{CommitAnswers, SubmitAnswers, added_size, counted, frame_size, history_after}
use Rattle.tf_store.specs.declared.error.StoreError.{StoreError}
use Rattle.tf_store.specs.declared.error.StoreError.TheVariants as store_error
use Rattle.tf_serial.specs.Parts.{IsWithin}

pub within_itself : (first : List Entry) (len : ℕ) → IsWithin first first len len
within_itself first len = inl (refl, refl)

pub within_through : (first mid now : List Entry) (len len_mid len_now : ℕ) → IsWithin first mid len len_mid → IsWithin mid now len_mid len_now → IsWithin first now len len_now
within_through first mid now len len_mid len_now p (inr small) = inr small
within_through first mid now len len_mid len_now (inl p) (inl q) = inl (q.0 ∙ p.0, q.1 ∙ p.1)
within_through first mid now len len_mid len_now (inr small) (inl q) = inr (subst (λ n. n ≤ 2 ^ 40) (sym q.1) small)

pub within_commit : (r : Result ℕ StoreError) (first es now : List Entry) (broken : Option ℕ) (len len_now number faults_before faults_now : ℕ)
    → CommitAnswers broken len (frame_size es) number faults_before faults_now r → OnOk r (len_now ≡ len + frame_size es) → OnOk r (IsWithin first now len len_now)
within_commit (Ok told) first es now None len len_now number faults_before faults_now answers grown = inr (omega (arith, answers.1, grown))
within_commit (Ok told) first es now (Some count) len len_now number faults_before faults_now answers grown =
    absurd (let no : ◌≡◌ {A = Result ℕ StoreError} (Ok told) (Err (store_error.Broken count)) = answers in cc)
within_commit (Err error) first es now broken len len_now number faults_before faults_now answers grown = tt

pub within_submit : {X : Type 0} (r : Result X StoreError) (first es now : List Entry) (broken : Option ℕ) (len len_now number faults_before faults_now : ℕ)
    → SubmitAnswers es broken len number faults_before faults_now (counted number r) → now ≡ history_after first es (counted number r) → OnOk r (len_now ≡ len + added_size es)
    → OnOk r (IsWithin first now len len_now)
within_submit (Ok x) first [] now broken len len_now number faults_before faults_now answers same grown = inl (same ∙ append-nil first, omega (arith, grown))
within_submit (Ok x) first (e ∷ es) now broken len len_now number faults_before faults_now answers same grown =
    within_commit (Ok number) first (e ∷ es) now broken len len_now number faults_before faults_now answers grown
within_submit (Err error) first es now broken len len_now number faults_before faults_now answers same grown = tt
