-- How a text is cut into its lines from the front.
use Rattle.std.proofs.Common.{◌≡◌, ◌≢◌, inl, inr, ℕ, zero, suc, ◌+◌, ◌-◌, ◌<◌, ◌≤◌, List, [], ◌∷◌, ◌++◌, length, get_or, take, drop, refl, sym, ap, ◌∙◌, arith, subst, append_assoc, append-nil, eqb, true, false, length-drop, get_or-drop}
use Rattle.std.proofs.lemmas.Bool.{cases_eq}
use Rattle.std.proofs.lemmas.Bool.Decides.{nat_tests}
use Rattle.std.proofs.lemmas.List.{drop-drop, drop_more, drop_all}
use Rattle.std.proofs.lemmas.List.Sums.{position_or_len_is}
use Rattle.std.specs.List.{onto_first, slice_range}
use Rattle.tf_io.specs.Lines.{script_lines, line_length, parts_from, start_after, ArePlaces}

-- no newline stands from start up to place
abbrev pub IsOpenLine : List ℕ → ℕ → ℕ → Type 0
IsOpenLine text start place = (start ≤ place) × ((k : ℕ) → start ≤ k → k < place → eqb (get_or text k 0) 10 ≡ false)

-- the text is cut at each newline before place, and start is where the open line begins
abbrev pub IsCutTo : List ℕ → List ℕ → ℕ → ℕ → Type 0
IsCutTo text ends start place = (start ≡ start_after 0 ends) × IsOpenLine text start place × ArePlaces (length text) 0 ends × (parts_from text 0 ends ++ script_lines (drop start text) ≡ script_lines text)

-- the parts that end at these places are the lines of the text
abbrev pub IsCut : List ℕ → List ℕ → Type 0
IsCut text ends = ArePlaces (length text) 0 ends × (parts_from text 0 ends ≡ script_lines text)

-- where part i begins
abbrev pub start_of : ℕ → List ℕ → ℕ → ℕ
start_of start ends zero = start
start_of start ends (suc i) = get_or ends i 0 + 1

at_newline : (byte : ℕ) (bytes : List ℕ) → byte ≡ 10 → script_lines (byte ∷ bytes) ≡ [] ∷ script_lines bytes
at_newline byte bytes is = grind (arith, nat_tests)

at_other : (byte : ℕ) (bytes : List ℕ) → byte ≢ 10 → script_lines (byte ∷ bytes) ≡ onto_first byte (script_lines bytes)
at_other byte bytes is_not = grind (arith, nat_tests)

length_at_newline : (byte : ℕ) (bytes : List ℕ) → byte ≡ 10 → line_length (byte ∷ bytes) ≡ 0
length_at_newline byte bytes is = grind (arith, nat_tests)

length_at_other : (byte : ℕ) (bytes : List ℕ) → byte ≢ 10 → line_length (byte ∷ bytes) ≡ suc (line_length bytes)
length_at_other byte bytes is_not = grind (arith, nat_tests)

-- a text with a byte begins with its first line
pub first_line : (byte : ℕ) (bytes : List ℕ) → script_lines (byte ∷ bytes) ≡ take (line_length (byte ∷ bytes)) (byte ∷ bytes) ∷ script_lines (drop (suc (line_length (byte ∷ bytes))) (byte ∷ bytes))
first_line byte [] = elim (cases_eq byte 10) [
  | inl is ↦ rw (at_newline byte [] is, length_at_newline byte [] is) refl
  | inr is_not ↦ rw (at_other byte [] is_not, length_at_other byte [] is_not) refl
]
first_line byte (next ∷ bytes) = elim (cases_eq byte 10) [
  | inl is ↦ rw (at_newline byte (next ∷ bytes) is, length_at_newline byte (next ∷ bytes) is) refl
  | inr is_not ↦ rw (at_other byte (next ∷ bytes) is_not, length_at_other byte (next ∷ bytes) is_not) (ap (onto_first byte) (first_line next bytes))
]

-- the same of the rest of a text
pub next_line : (text : List ℕ) (start : ℕ) → start < length text → script_lines (drop start text) ≡ slice_range text start (start + line_length (drop start text)) ∷ script_lines (drop (start + line_length (drop start text) + 1) text)
next_line text start within =
    let rest : drop start text ≡ get_or text start 0 ∷ drop (start + 1) text = drop_more text start 0 within in
    let first = first_line (get_or text start 0) (drop (start + 1) text) in
    let step : script_lines (drop start text) ≡ take (line_length (drop start text)) (drop start text) ∷ script_lines (drop (suc (line_length (drop start text))) (drop start text)) =
    subst (λ (bytes : List ℕ). script_lines bytes ≡ take (line_length bytes) bytes ∷ script_lines (drop (suc (line_length bytes)) bytes)) (sym rest) first in
    let size : start + line_length (drop start text) - start ≡ line_length (drop start text) = omega arith in
    let place : start + suc (line_length (drop start text)) ≡ start + line_length (drop start text) + 1 = omega arith in
    step
    ∙ ap (λ (n : ℕ). take n (drop start text) ∷ script_lines (drop (suc (line_length (drop start text))) (drop start text))) (sym size)
    ∙ ap (λ (bytes : List ℕ). slice_range text start (start + line_length (drop start text)) ∷ script_lines bytes) (drop-drop (suc (line_length (drop start text))) start text ∙ ap (λ (n : ℕ). drop n text) place)

-- the first line ends within the text
pub line_fits : (bytes : List ℕ) → line_length bytes ≤ length bytes
line_fits [] = omega arith
line_fits (byte ∷ bytes) = elim (cases_eq byte 10) [
  | inl is ↦ omega (arith, length_at_newline byte bytes is)
  | inr is_not ↦ omega (arith, length_at_other byte bytes is_not, line_fits bytes)
]

pub get_or-parts_from : (text : List ℕ) (start : ℕ) (ends : List ℕ) (i : ℕ) → i < length ends → get_or (parts_from text start ends) i [] ≡ slice_range text (start_of start ends i) (get_or ends i 0)
get_or-parts_from text start [] i within = absurd (omega arith)
get_or-parts_from text start (end ∷ ends) zero within = refl
get_or-parts_from text start (end ∷ ends) (suc zero) within = get_or-parts_from text (end + 1) ends zero (omega arith)
get_or-parts_from text start (end ∷ ends) (suc (suc i)) within = get_or-parts_from text (end + 1) ends (suc i) (omega arith)

pub place_within : (size start : ℕ) (ends : List ℕ) (i : ℕ) → ArePlaces size start ends → i < length ends → (start_of start ends i ≤ get_or ends i 0) × (get_or ends i 0 ≤ size)
place_within size start [] i places within = absurd (omega arith)
place_within size start (end ∷ ends) zero places within = (places.0, places.1)
place_within size start (end ∷ ends) (suc zero) places within = place_within size (end + 1) ends zero places.2 (omega arith)
place_within size start (end ∷ ends) (suc (suc i)) places within = place_within size (end + 1) ends (suc i) places.2 (omega arith)

pub length-parts_from : (text : List ℕ) (start : ℕ) (ends : List ℕ) → length (parts_from text start ends) ≡ length ends
length-parts_from text start [] = refl
length-parts_from text start (end ∷ ends) = ap suc (length-parts_from text (end + 1) ends)

pub parts_push : (text : List ℕ) (start : ℕ) (ends : List ℕ) (last : ℕ) → parts_from text start (ends ++ last ∷ []) ≡ parts_from text start ends ++ slice_range text (start_after start ends) last ∷ []
parts_push text start [] last = refl
parts_push text start (end ∷ ends) last = ap (λ (parts : List (List ℕ)). slice_range text start end ∷ parts) (parts_push text (end + 1) ends last)

pub start_push : (start : ℕ) (ends : List ℕ) (last : ℕ) → start_after start (ends ++ last ∷ []) ≡ last + 1
start_push start [] last = refl
start_push start (end ∷ ends) last = start_push (end + 1) ends last

pub places_push : (size start : ℕ) (ends : List ℕ) (last : ℕ) → ArePlaces size start ends → start_after start ends ≤ last → last ≤ size → ArePlaces size start (ends ++ last ∷ [])
places_push size start [] last places from to = (from, to, tt)
places_push size start (end ∷ ends) last places from to = (places.0, places.1, places_push size (end + 1) ends last places.2 from to)

-- one step of the cutting
pub cut_more : (text ends : List ℕ) (start last : ℕ) → start ≡ start_after 0 ends → start < length text → last ≡ start + line_length (drop start text) → parts_from text 0 ends ++ script_lines (drop start text) ≡ script_lines text
    → parts_from text 0 (ends ++ last ∷ []) ++ script_lines (drop (last + 1) text) ≡ script_lines text
cut_more text ends start last from within is so_far =
    let step : script_lines (drop start text) ≡ slice_range text start last ∷ script_lines (drop (last + 1) text) =
    subst (λ (n : ℕ). script_lines (drop start text) ≡ slice_range text start n ∷ script_lines (drop (n + 1) text)) (sym is) (next_line text start within) in
    ap (λ (parts : List (List ℕ)). parts ++ script_lines (drop (last + 1) text)) (parts_push text 0 ends last)
    ∙ append_assoc (parts_from text 0 ends) (slice_range text (start_after 0 ends) last ∷ []) (script_lines (drop (last + 1) text))
    ∙ ap (λ (n : ℕ). parts_from text 0 ends ++ slice_range text n last ∷ script_lines (drop (last + 1) text)) (sym from)
    ∙ ap (λ (parts : List (List ℕ)). parts_from text 0 ends ++ parts) (sym step)
    ∙ so_far

-- a line that is open up to a newline, or up to the end of the text, ends there
open_line_ends : (text : List ℕ) (start place : ℕ) → IsOpenLine text start place → place ≤ length text → (place < length text → eqb (get_or text place 0) 10 ≡ true)
    → place ≡ start + line_length (drop start text)
open_line_ends text start place line within here =
    let size : place - start ≤ length (drop start text) = omega (arith, line.0, within, length-drop start text) in
    let before : (k : ℕ) → k < place - start → eqb (get_or (drop start text) k 0) 10 ≡ false =
    λ k below. ap (λ byte. eqb byte 10) (get_or-drop start text k 0) ∙ line.1 (start + k) (omega arith) (omega (arith, below)) in
    let same : start + (place - start) ≡ place = omega (arith, line.0) in
    let at : place - start < length (drop start text) → eqb (get_or (drop start text) (place - start) 0) 10 ≡ true =
    λ below. ap (λ byte. eqb byte 10) (get_or-drop start text (place - start) 0) ∙ ap (λ n. eqb (get_or text n 0) 10) same ∙ here (omega (arith, below, length-drop start text)) in
    let is : line_length (drop start text) ≡ place - start = position_or_len_is (λ byte. eqb byte 10) (drop start text) (place - start) 0 size before at in
    omega (arith, is, line.0)

-- the byte at place is a newline
pub cut_at_newline : (text ends : List ℕ) (start place : ℕ) → IsCutTo text ends start place → place < length text → eqb (get_or text place 0) 10 ≡ true
    → IsCutTo text (ends ++ place ∷ []) (place + 1) (place + 1)
cut_at_newline text ends start place so_far within here =
    let last : place ≡ start + line_length (drop start text) = open_line_ends text start place so_far.1 (omega arith) (λ _. here) in (
      sym (start_push 0 ends place),
      (omega arith, λ k from below. absurd (omega (arith, from, below))),
      places_push (length text) 0 ends place so_far.2 (omega (arith, so_far.0, so_far.1.0)) (omega arith),
      cut_more text ends start place so_far.0 (omega (arith, so_far.1.0, within)) last so_far.3,
    )

-- the byte at place is none
pub cut_past_byte : (text ends : List ℕ) (start place : ℕ) → IsCutTo text ends start place → eqb (get_or text place 0) 10 ≡ false → IsCutTo text ends start (place + 1)
cut_past_byte text ends start place so_far here = (
  so_far.0,
  (
    omega (arith, so_far.1.0),
    λ k from below. elim (cases_eq k place) [
      | inl is ↦ subst (λ (n : ℕ). eqb (get_or text n 0) 10 ≡ false) (sym is) here
      | inr is_not ↦ so_far.1.1 k from (omega (arith, below, is_not))
    ],
  ),
  so_far.2,
  so_far.3,
)

-- nothing is left to cut
cut_whole : (text : List ℕ) (parts : List (List ℕ)) (start : ℕ) → length text ≤ start → parts ++ script_lines (drop start text) ≡ script_lines text → parts ≡ script_lines text
cut_whole text parts start past so_far =
    let none : drop start text ≡ [] = drop_all start text past in
    sym (append-nil parts) ∙ ap (λ (bytes : List ℕ). parts ++ script_lines bytes) (sym none) ∙ so_far

-- the text ends with a line that is open
pub cut_last : (text ends : List ℕ) (start place : ℕ) → IsCutTo text ends start place → place ≡ length text → start < length text → IsCut text (ends ++ place ∷ [])
cut_last text ends start place so_far all open_line =
    let last : place ≡ start + line_length (drop start text) = open_line_ends text start place so_far.1 (omega (arith, all)) (λ below. absurd (omega (arith, all, below))) in (
      places_push (length text) 0 ends place so_far.2 (omega (arith, so_far.0, so_far.1.0)) (omega (arith, all)),
      cut_whole text (parts_from text 0 (ends ++ place ∷ [])) (place + 1) (omega (arith, all)) (cut_more text ends start place so_far.0 open_line last so_far.3),
    )

-- the text ends with a newline, or is empty
pub cut_none : (text ends : List ℕ) (start place : ℕ) → IsCutTo text ends start place → length text ≤ start → IsCut text ends
cut_none text ends start place so_far past = (so_far.2, cut_whole text (parts_from text 0 ends) start past so_far.3)

-- the places round the end of one part and the start of the next
pub place_after : (size start : ℕ) (ends : List ℕ) (before i : ℕ) → i ≡ suc before → ArePlaces size start ends → i < length ends → (get_or ends before 0 + 1 ≤ get_or ends i 0) × (get_or ends i 0 ≤ size)
place_after size start ends before i is places within =
    let bound : suc before < length ends = omega arith in
    subst (λ (n : ℕ). (get_or ends before 0 + 1 ≤ get_or ends n 0) × (get_or ends n 0 ≤ size)) (sym is) (place_within size start ends (suc before) places bound)

pub part_after : (text : List ℕ) (start : ℕ) (ends : List ℕ) (before i : ℕ) → i ≡ suc before → i < length ends → get_or (parts_from text start ends) i [] ≡ slice_range text (get_or ends before 0 + 1) (get_or ends i 0)
part_after text start ends before i is within =
    let bound : suc before < length ends = omega arith in
    subst (λ (n : ℕ). get_or (parts_from text start ends) n [] ≡ slice_range text (get_or ends before 0 + 1) (get_or ends n 0)) (sym is) (get_or-parts_from text start ends (suc before) bound)
