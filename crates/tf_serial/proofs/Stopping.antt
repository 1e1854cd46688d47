-- Why the way to a whole history ends before it.
use Rattle.std.proofs.Common.{◌≡◌, ℕ, ◌+◌, ◌≤◌, ◌^◌, List, [], ◌∷◌, ◌++◌, Option, None, Some, Err, refl, sym, ap, subst, ◌∙◌, arith}
use Rattle.std.specs.Prelude.{IfErr, Ok, OnErr, OnOk, Result}
use Rattle.std.proofs.lemmas.List.{append-nil}
use mathlib.Core.List.{IsPrefix}
use Rattle.tf_model.specs.declared.entry.Entry.{Entry}
use Rattle.tf_store.specs.Answers.{CommitAnswers, SoundAnswer, SubmitAnswers, broken_after, counted, failed_after, frame_size, history_after}
use Rattle.tf_store.specs.declared.error.StoreError.{StoreError}
use Rattle.tf_store.specs.declared.error.StoreError.TheVariants as store_error
use Rattle.tf_serial.specs.Frames.{Frames, IsOnly}
use Rattle.tf_serial.specs.Parts.{IsPart, IsStop, StaysBroken}
use Rattle.tf_serial.proofs.Prefixes.{prefix_self, prefix_through}

wider : (first mid left next whole all : List Entry) → IsPrefix first mid → IsPrefix whole all → IsPart mid whole left next → IsPart first all left next
wider first mid left next whole all begins more p = record {
  begun = prefix_through first mid left begins p.begun;
  part = prefix_through (left ++ next) whole all p.part more;
}

-- the same on a longer way
pub stop_wider : (frames wide : Frames) (first mid whole all left failed : List Entry) (before here broken : Option ℕ) (len faults_first faults_before faults_now : ℕ) (error : StoreError)
    → ((left next : List Entry) → frames left next → wide left next) → IsPrefix first mid → IsPrefix whole all → here ≡ before → faults_first ≤ faults_before
    → IsStop frames mid whole left failed here broken len faults_before faults_now error → IsStop wide first all left failed before broken len faults_first faults_now error
stop_wider frames wide first mid whole all left failed before here broken len faults_first faults_before faults_now store_error.Memory within begins more same le s =
    (wider first mid left [] whole all begins more s.0, s.1 ∙ same)
stop_wider frames wide first mid whole all left failed before here broken len faults_first faults_before faults_now (store_error.Disk count) within begins more same le s =
    (wider first mid left failed whole all begins more s.0, within left failed s.1, s.2, s.3, omega (arith, s.4, le), sym same ∙ s.5, s.6)
stop_wider frames wide first mid whole all left failed before here broken len faults_first faults_before faults_now (store_error.Broken count) within begins more same le s =
    (record { next = s.0.next; frame = within left s.0.next s.0.frame; part = wider first mid left s.0.next whole all begins more s.0.part }, sym same ∙ s.1, s.2)
stop_wider frames wide first mid whole all left failed before here broken len faults_first faults_before faults_now (store_error.Full told) within begins more same le s =
    (record { next = s.0.next; frame = within left s.0.next s.0.frame; part = wider first mid left s.0.next whole all begins more s.0.part; passes = s.0.passes }, s.1, s.2, sym same ∙ s.3)

-- the same in other frames
pub stop_in : {X : Type 0} (r : Result X StoreError) (frames wide : Frames) (first whole left failed : List Entry) (before broken : Option ℕ) (len faults_before faults_now : ℕ)
    → ((left next : List Entry) → frames left next → wide left next) → IfErr r (IsStop frames first whole left failed before broken len faults_before faults_now)
    → IfErr r (IsStop wide first whole left failed before broken len faults_before faults_now)
stop_in (Ok x) frames wide first whole left failed before broken len faults_before faults_now within s = tt
stop_in (Err e) frames wide first whole left failed before broken len faults_before faults_now within s =
    stop_wider frames wide first first whole whole left failed before before broken len faults_before faults_before faults_now e within (prefix_self first) (prefix_self whole) refl (omega arith) s

-- memory is wanted where a part of the way is made
pub memory_at : (first left whole : List Entry) (before broken : Option ℕ) → IsPrefix first left → IsPrefix left whole → broken ≡ before → IsPart first whole left [] × (broken ≡ before)
memory_at first left whole before broken begins more same = (record { begun = begins; part = subst (λ l. IsPrefix l whole) (sym (append-nil left)) more }, same)

pub if_memory : {X : Type 0} (r : Result X StoreError) (P : StoreError → Type 0) → IfErr r (λ e. e ≡ store_error.Memory) → P store_error.Memory → IfErr r P
if_memory (Ok x) P is p = tt
if_memory (Err e) P is p = subst P (sym is) p

-- ---- a commit of entries that was refused
whole_next : (first es left : List Entry) → left ≡ first → IsPart first (first ++ es) left es
whole_next first es left same = subst (λ l. IsPart first (first ++ es) l es) (sym same) (record { begun = prefix_self first; part = prefix_self (first ++ es) })

none_next : (first es left : List Entry) → left ≡ first → IsPart first (first ++ es) left []
none_next first es left same =
    subst (λ l. IsPart first (first ++ es) l []) (sym same) (record { begun = prefix_self first; part = (es, ap (λ l. l ++ es) (append-nil first)) })

-- by a store that is not broken
refused : (first es left failed failed_now : List Entry) (broken_now : Option ℕ) (len len_now number faults_before faults_now : ℕ) (error : StoreError)
    → SoundAnswer len (frame_size es) number faults_before faults_now (Err error) → left ≡ first → broken_now ≡ broken_after None (Err error)
    → failed_now ≡ failed_after failed es (Err error) → len_now ≡ len
    → IsStop (IsOnly first es) first (first ++ es) left failed_now None broken_now len_now faults_before faults_now error
refused first es left failed failed_now broken_now len len_now number faults_before faults_now store_error.Memory answer same breaks fails stays =
    (none_next first es left same, breaks)
refused first es left failed failed_now broken_now len len_now number faults_before faults_now (store_error.Disk count) answer same breaks fails stays =
    (subst (IsPart first (first ++ es) left) (sym fails) (whole_next first es left same), (same, fails), breaks, answer.1, answer.0, refl, subst (λ f. len_now + frame_size f ≤ 2 ^ 40) (sym fails) (omega (arith, answer.2, stays)))
refused first es left failed failed_now broken_now len len_now number faults_before faults_now (store_error.Broken count) answer same breaks fails stays = absurd answer
refused first es left failed failed_now broken_now len len_now number faults_before faults_now (store_error.Full told) answer same breaks fails stays =
    (record { next = es; frame = (same, refl); part = whole_next first es left same; passes = omega (arith, answer.1, stays) }, answer.0 ∙ sym stays, breaks, refl)

-- by a broken one
refused_broken : (first es left failed : List Entry) (count : ℕ) (broken_now : Option ℕ) (len faults_before faults_now : ℕ) (error : StoreError) → error ≡ store_error.Broken count → left ≡ first
    → broken_now ≡ Some count → IsStop (IsOnly first es) first (first ++ es) left failed (Some count) broken_now len faults_before faults_now error
refused_broken first es left failed count broken_now len faults_before faults_now error is same stays =
    subst (IsStop (IsOnly first es) first (first ++ es) left failed (Some count) broken_now len faults_before faults_now) (sym is)
    (record { next = es; frame = (same, refl); part = whole_next first es left same }, refl, stays)

error_is : (error told : StoreError) → ◌≡◌ {A = Result ℕ StoreError} (Err error) (Err told) → error ≡ told
error_is error told same = cc

pub stop_of_commit : (first es left failed failed_now : List Entry) (broken broken_now : Option ℕ) (len len_now number faults_before faults_now : ℕ) (error : StoreError)
    → CommitAnswers broken len (frame_size es) number faults_before faults_now (Err error) → left ≡ history_after first es (Err error) → broken_now ≡ broken_after broken (Err error)
    → failed_now ≡ failed_after failed es (Err error) → len_now ≡ len
    → IsStop (IsOnly first es) first (first ++ es) left failed_now broken broken_now len_now faults_before faults_now error
stop_of_commit first es left failed failed_now None broken_now len len_now number faults_before faults_now error answers same breaks fails stays =
    refused first es left failed failed_now broken_now len len_now number faults_before faults_now error answers same breaks fails stays
stop_of_commit first es left failed failed_now (Some count) broken_now len len_now number faults_before faults_now error answers same breaks fails stays =
    let is = error_is error (store_error.Broken count) answers in
    refused_broken first es left failed_now count broken_now len_now faults_before faults_now error is same (breaks ∙ ap (λ (e : StoreError). broken_after (Some count) (Err e)) is)

-- the same where there may be no entries, and memory may be wanted first
by_entries : (first es left failed failed_now : List Entry) (broken broken_now : Option ℕ) (len len_now number faults_before faults_now : ℕ) (error : StoreError)
    → SubmitAnswers es broken len number faults_before faults_now (Err error) → left ≡ history_after first es (Err error) → broken_now ≡ broken_after broken (Err error)
    → failed_now ≡ failed_after failed es (Err error) → len_now ≡ len
    → IsStop (IsOnly first es) first (first ++ es) left failed_now broken broken_now len_now faults_before faults_now error
by_entries first [] left failed failed_now broken broken_now len len_now number faults_before faults_now error answers same breaks fails stays =
    subst (IsStop (IsOnly first []) first (first ++ []) left failed_now broken broken_now len_now faults_before faults_now) (sym answers)
    (none_next first [] left same, breaks ∙ ap (λ (e : StoreError). broken_after broken (Err e)) answers)
by_entries first (e ∷ es) left failed failed_now broken broken_now len len_now number faults_before faults_now store_error.Memory answers same breaks fails stays =
    (none_next first (e ∷ es) left same, breaks)
by_entries first (e ∷ es) left failed failed_now broken broken_now len len_now number faults_before faults_now (store_error.Disk count) answers same breaks fails stays =
    stop_of_commit first (e ∷ es) left failed failed_now broken broken_now len len_now number faults_before faults_now (store_error.Disk count) answers same breaks fails stays
by_entries first (e ∷ es) left failed failed_now broken broken_now len len_now number faults_before faults_now (store_error.Broken count) answers same breaks fails stays =
    stop_of_commit first (e ∷ es) left failed failed_now broken broken_now len len_now number faults_before faults_now (store_error.Broken count) answers same breaks fails stays
by_entries first (e ∷ es) left failed failed_now broken broken_now len len_now number faults_before faults_now (store_error.Full told) answers same breaks fails stays =
    stop_of_commit first (e ∷ es) left failed failed_now broken broken_now len len_now number faults_before faults_now (store_error.Full told) answers same breaks fails stays

pub stop_of_submit : {X : Type 0} (r : Result X StoreError) (first es left failed failed_now : List Entry) (broken broken_now : Option ℕ) (len len_now number faults_before faults_now : ℕ)
    → SubmitAnswers es broken len number faults_before faults_now (counted number r) → left ≡ history_after first es (counted number r) → broken_now ≡ broken_after broken (counted number r)
    → failed_now ≡ failed_after failed es (counted number r) → OnErr r (len_now ≡ len)
    → IfErr r (IsStop (IsOnly first es) first (first ++ es) left failed_now broken broken_now len_now faults_before faults_now)
stop_of_submit (Ok x) first es left failed failed_now broken broken_now len len_now number faults_before faults_now answers same breaks fails stays = tt
stop_of_submit (Err e) first es left failed failed_now broken broken_now len len_now number faults_before faults_now answers same breaks fails stays =
    by_entries first es left failed failed_now broken broken_now len len_now number faults_before faults_now e answers same breaks fails stays

-- where it is not refused
pub submit_grows : {X : Type 0} (r : Result X StoreError) (number : ℕ) (first es left : List Entry) → left ≡ history_after first es (counted number r) → OnOk r (left ≡ first ++ es)
submit_grows (Ok x) number first es left is = is
submit_grows (Err e) number first es left is = tt

pub submit_keeps : {X : Type 0} (r : Result X StoreError) (number : ℕ) (broken broken_now : Option ℕ) → broken_now ≡ broken_after broken (counted number r) → OnOk r (broken_now ≡ broken)
submit_keeps (Ok x) number broken broken_now is = is
submit_keeps (Err e) number broken broken_now is = tt

-- ---- a broken store stays as it is
pub stuck_commit : (r : Result ℕ StoreError) (first es now : List Entry) (broken broken_now : Option ℕ) (len size number faults_before faults_now : ℕ)
    → CommitAnswers broken len size number faults_before faults_now r → now ≡ history_after first es r → broken_now ≡ broken_after broken r → StaysBroken broken first broken_now now
stuck_commit r first es now broken broken_now len size number faults_before faults_now answers same breaks count is =
    let told : r ≡ Err (store_error.Broken count) = subst (λ b. CommitAnswers b len size number faults_before faults_now r) is answers in
    (breaks ∙ (ap (broken_after broken) told ∙ is), same ∙ ap (history_after first es) told)

-- a submit that was refused
stuck_refused : (error : StoreError) (first es now : List Entry) (broken broken_now : Option ℕ) (len number faults_before faults_now : ℕ)
    → SubmitAnswers es broken len number faults_before faults_now (Err error) → now ≡ first → broken_now ≡ broken_after broken (Err error) → StaysBroken broken first broken_now now
stuck_refused store_error.Memory first es now broken broken_now len number faults_before faults_now answers same breaks count is = (breaks ∙ is, same)
stuck_refused (store_error.Disk told) first [] now broken broken_now len number faults_before faults_now answers same breaks count is = absurd (let no_entries : store_error.Disk told ≡ store_error.Memory = answers in cc)
stuck_refused (store_error.Disk told) first (e ∷ es) now broken broken_now len number faults_before faults_now answers same breaks count is =
    stuck_commit (Err (store_error.Disk told)) first (e ∷ es) now broken broken_now len (frame_size (e ∷ es)) number faults_before faults_now answers same breaks count is
stuck_refused (store_error.Broken told) first es now broken broken_now len number faults_before faults_now answers same breaks count is = (breaks ∙ is, same)
stuck_refused (store_error.Full told) first es now broken broken_now len number faults_before faults_now answers same breaks count is = (breaks ∙ is, same)

pub stuck_submit : {X : Type 0} (r : Result X StoreError) (first es now : List Entry) (broken broken_now : Option ℕ) (len number faults_before faults_now : ℕ)
    → SubmitAnswers es broken len number faults_before faults_now (counted number r) → now ≡ history_after first es (counted number r) → broken_now ≡ broken_after broken (counted number r)
    → StaysBroken broken first broken_now now
stuck_submit (Ok x) first [] now broken broken_now len number faults_before faults_now answers same breaks count is = (breaks ∙ is, same ∙ append-nil first)
stuck_submit (Ok x) first (e ∷ es) now broken broken_now len number faults_before faults_now answers same breaks count is =
    stuck_commit (Ok number) first (e ∷ es) now broken broken_now len (frame_size (e ∷ es)) number faults_before faults_now answers same breaks count is
stuck_submit (Err error) first es now broken broken_now len number faults_before faults_now answers same breaks count is =
    stuck_refused error first es now broken broken_now len number faults_before faults_now answers same breaks count is
