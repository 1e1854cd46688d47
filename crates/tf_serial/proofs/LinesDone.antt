-- One line more is done.
use Rattle.std.proofs.Common.{inl, inr, subst, ◌≡◌, ℕ, ◌+◌, ◌<◌, List, ◌∷◌, ◌++◌, drop, get_or, length, [], sym, ap, ◌∙◌, append_assoc}
use Rattle.std.proofs.lemmas.List.{drop_more}
use Rattle.tf_model.specs.declared.entry.Entry.{Entry}
use Rattle.tf_serial.specs.Frames.{Frames, IsOfLine, IsOfLines}
use Rattle.tf_serial.specs.Script.{after, after_line, output, reply_to}

-- the next line is the first of those that are left
pub next_line : (lines : List (List ℕ)) (line : List ℕ) (i : ℕ) → i < length lines → line ≡ get_or lines i [] → drop i lines ≡ line ∷ drop (i + 1) lines
next_line lines line i within is = drop_more lines i [] within ∙ ap (λ (l : List ℕ). l ∷ drop (i + 1) lines) (sym is)

-- its reply comes behind those before
pub output_more : (past now : List Entry) (number : ℕ) (line : List ℕ) (lines rest : List (List ℕ)) (text more all : List ℕ) → lines ≡ line ∷ rest → more ≡ text ++ reply_to past number line → now ≡ after_line past number line
    → text ++ output past number lines ≡ all → more ++ output now (number + 1) rest ≡ all
output_more past now number line lines rest text more all first grown later so_far =
    (λ i. grown i ++ output (later i) (number + 1) rest)
    ∙ (append_assoc text (reply_to past number line) (output (after_line past number line) (number + 1) rest)
    ∙ (ap (λ (ls : List (List ℕ)). text ++ output past number ls) (sym first) ∙ so_far))

-- the lines behind it lead to where all lead
pub after_more : (past now : List Entry) (number : ℕ) (line : List ℕ) (lines rest : List (List ℕ)) (all : List Entry) → lines ≡ line ∷ rest → now ≡ after_line past number line → after past number lines ≡ all
    → after now (number + 1) rest ≡ all
after_more past now number line lines rest all first later so_far =
    ap (λ (p : List Entry). after p (number + 1) rest) later ∙ (ap (after past number) (sym first) ∙ so_far)

-- the frames of the lines behind it are among those of all
pub frames_more : (frames : Frames) (past now : List Entry) (number : ℕ) (line : List ℕ) (lines rest : List (List ℕ)) → lines ≡ line ∷ rest → now ≡ after_line past number line
    → ((left next : List Entry) → IsOfLines past number lines left next → frames left next) → (left next : List Entry) → IsOfLines now (number + 1) rest left next → frames left next
frames_more frames past now number line lines rest first later so_far left next is =
    so_far left next (subst (λ (ls : List (List ℕ)). IsOfLines past number ls left next) (sym first) (inr (subst (λ (p : List Entry). IsOfLines p (number + 1) rest left next) later is)))

-- and its own
pub frames_here : (frames : Frames) (past : List Entry) (number : ℕ) (line : List ℕ) (lines rest : List (List ℕ)) → lines ≡ line ∷ rest
    → ((left next : List Entry) → IsOfLines past number lines left next → frames left next) → (left next : List Entry) → IsOfLine past number line left next → frames left next
frames_here frames past number line lines rest first so_far left next is = so_far left next (subst (λ (ls : List (List ℕ)). IsOfLines past number ls left next) (sym first) (inl is))
