-- Fronts of lists, and how the past behind lines goes on.
use Rattle.std.proofs.Common.{◌≡◌, ℕ, ℤ, Bool, true, false, Ok, Err, ◌+◌, List, [], ◌∷◌, ◌++◌, Some, length, take, refl, sym, ap, subst, ◌∙◌, append_assoc}
use Rattle.std.specs.Prelude.{Result, if◌then◌else◌, reverse}
use Rattle.std.proofs.Math.Seq.{take-append_seam}
use Rattle.std.proofs.lemmas.List.{append-nil, reverse-append, reverse-reverse}
use mathlib.Core.List.{IsPrefix}
use Rattle.tf_model.specs.declared.entry.Entry.{Entry}
use Rattle.tf_command.specs.Commands.{command_of}
use Rattle.tf_command.specs.Lines.{is_blank}
use Rattle.tf_command.specs.declared.command.Parts.{Parts}
use Rattle.tf_command.specs.declared.command.LineError.{LineError}
use Rattle.tf_serial.specs.Moves.{next_move, moves, pass, settled}
use Rattle.tf_serial.specs.Following.{Following, Nothing, Step, Settling, followed, following}
use Rattle.tf_serial.specs.Script.{after, after_command, after_line, after_reading, asked, given}
use Rattle.tf_serial.proofs.MoveByMove.{moves_keep, moves_on, pass_keeps, settling_keeps}

pub prefix_self : {A : Type 0} (xs : List A) → IsPrefix xs xs
prefix_self xs = ([], append-nil xs)

pub prefix_more : {A : Type 0} (xs zs : List A) → IsPrefix xs (xs ++ zs)
prefix_more xs zs = (zs, refl)

pub prefix_through : {A : Type 0} (xs ys zs : List A) → IsPrefix xs ys → IsPrefix ys zs → IsPrefix xs zs
prefix_through xs ys zs p q = (p.0 ++ q.0, sym (append_assoc xs p.0 q.0) ∙ (ap (λ l. l ++ q.0) p.1 ∙ q.1))

pub prefix_same : {A : Type 0} (xs ys : List A) → xs ≡ ys → IsPrefix xs ys
prefix_same xs ys same = ([], append-nil xs ∙ same)

pub prefix_taken : {A : Type 0} (xs ys : List A) → IsPrefix xs ys → take (length xs) ys ≡ xs
prefix_taken xs ys p = ap (take (length xs)) (sym p.1) ∙ take-append_seam xs p.0

-- a past told as a history
pub history_is : {A : Type 0} (history past : List A) → reverse history ≡ past → history ≡ reverse past
history_is history past is = sym (reverse-reverse history) ∙ ap reverse is

-- a past with one entry more is a history with it at its end
pub reverse_more : {A : Type 0} (x : A) (past : List A) → reverse (x ∷ past) ≡ reverse past ++ x ∷ []
reverse_more x past = reverse-append (x ∷ []) past

pub entry_begins : {A : Type 0} (x : A) (past : List A) → IsPrefix (reverse past) (reverse (x ∷ past))
entry_begins x past = (x ∷ [], sym (reverse_more x past))

pub entry_goes_on : {A : Type 0} (x : A) (history : List A) → reverse (x ∷ reverse history) ≡ history ++ x ∷ []
entry_goes_on x history = reverse_more x (reverse history) ∙ ap (λ l. l ++ x ∷ []) (reverse-reverse history)

-- ---- moves go on
module _ (given : ℤ) (past : List Entry) where
  abbrev GoesOn : List Entry → Type 0
  GoesOn now = IsPrefix (reverse past) (reverse now)

  goes_on : (id : List ℕ) (now : List Entry) (e : Entry) → next_move given id now ≡ Some e → GoesOn now → GoesOn (e ∷ now)
  goes_on id now e is begins = prefix_through (reverse past) (reverse now) (reverse (e ∷ now)) begins (entry_begins e now)

  pub moves_begin : (n : ℕ) (id : List ℕ) → IsPrefix (reverse past) (reverse (moves given n id past))
  moves_begin n id = moves_keep given GoesOn goes_on n id past (prefix_self (reverse past))

  pub pass_begins : (ids : List (List ℕ)) → IsPrefix (reverse past) (reverse (pass given ids past))
  pass_begins ids = pass_keeps given GoesOn goes_on ids past (prefix_self (reverse past))

  pub settling_begins : IsPrefix (reverse past) (reverse (settled given past))
  settling_begins = settling_keeps given GoesOn goes_on past (prefix_self (reverse past))

-- the same for a history
pub history_begins : (history now : List Entry) → IsPrefix (reverse (reverse history)) now → IsPrefix history now
history_begins history now begins = subst (λ h. IsPrefix h now) (reverse-reverse history) begins

-- one move makes the history longer by its entry
pub one_move : (given : ℤ) (history : List Entry) (id : List ℕ) (e : Entry) → next_move given id (reverse history) ≡ Some e → reverse (moves given 1 id (reverse history)) ≡ history ++ e ∷ []
one_move given history id e is = ap reverse (moves_on given 1 0 id (reverse history) e refl is) ∙ entry_goes_on e history

-- ---- lines go on
pub settled_goes_on : (given : ℤ) (history : List Entry) → IsPrefix history (reverse (settled given (reverse history)))
settled_goes_on given history = history_begins history (reverse (settled given (reverse history))) (settling_begins given (reverse history))

-- a past with entries behind it is a history with them
pub entries_go_on : (history entries : List Entry) → reverse (reverse entries ++ reverse history) ≡ history ++ entries
entries_go_on history entries = reverse-append (reverse entries) (reverse history) ∙ (λ i. reverse-reverse history i ++ reverse-reverse entries i)

pub moves_follow : (past now : List Entry) (given : ℤ) (f : Following) → IsPrefix (reverse past) (reverse now) → IsPrefix (reverse past) (reverse (followed given f now))
moves_follow past now given Nothing p = p
moves_follow past now given (Step id) p = prefix_through (reverse past) (reverse now) (reverse (moves given 1 id now)) p (moves_begin given now 1 id)
moves_follow past now given Settling p = prefix_through (reverse past) (reverse now) (reverse (settled given now)) p (settling_begins given now)

command_begins : (past : List Entry) (command : Parts) → IsPrefix (reverse past) (reverse (after_command past command))
command_begins past command =
    let es : List Entry = (asked past command).entries in
    moves_follow past (reverse es ++ past) (given past command) (following (asked past command).answer command.op) (es, sym (reverse-append (reverse es) past ∙ ap (λ l. reverse past ++ l) (reverse-reverse es)))

reading_begins : (past : List Entry) (r : Result Parts LineError) → IsPrefix (reverse past) (reverse (after_reading past r))
reading_begins past (Ok command) = command_begins past command
reading_begins past (Err error) = prefix_self (reverse past)

line_by : (past now : List Entry) (b : Bool) → IsPrefix (reverse past) (reverse now) → IsPrefix (reverse past) (reverse (if b then past else now))
line_by past now true p = prefix_self (reverse past)
line_by past now false p = p

-- what a line makes goes on from a history
pub line_goes_on : (past : List Entry) (number : ℕ) (line : List ℕ) → IsPrefix (reverse past) (reverse (after_line past number line))
line_goes_on past number line = line_by past (after_reading past (command_of number line)) (is_blank line) (reading_begins past (command_of number line))

pub command_goes_on : (history : List Entry) (command : Parts) → IsPrefix history (reverse (after_command (reverse history) command))
command_goes_on history command = history_begins history (reverse (after_command (reverse history) command)) (command_begins (reverse history) command)

pub reading_goes_on : (history : List Entry) (r : Result Parts LineError) → IsPrefix history (reverse (after_reading (reverse history) r))
reading_goes_on history r = history_begins history (reverse (after_reading (reverse history) r)) (reading_begins (reverse history) r)

-- a past begins the one behind lines
pub after_begins : (past : List Entry) (number : ℕ) (lines : List (List ℕ)) → IsPrefix (reverse past) (reverse (after past number lines))
after_begins past number [] = prefix_self (reverse past)
after_begins past number (line ∷ lines) =
    prefix_through (reverse past) (reverse (after_line past number line)) (reverse (after past number (line ∷ lines)))
    (line_goes_on past number line) (after_begins (after_line past number line) (number + 1) lines)

-- one line of some begins what all of them make
pub line_begins : (past : List Entry) (number : ℕ) (line : List ℕ) (lines rest : List (List ℕ)) (all : List Entry) → lines ≡ line ∷ rest → after past number lines ≡ all
    → IsPrefix (reverse (after_line past number line)) (reverse all)
line_begins past number line lines rest all first made =
    subst (λ now. IsPrefix (reverse (after_line past number line)) (reverse now)) (ap (after past number) (sym first) ∙ made) (after_begins (after_line past number line) (number + 1) rest)
