-- What a command does: its entries where no move follows it, else the moves.
use Rattle.std.proofs.Common.{◌≡◌, ℕ, ℤ, ◌++◌, Bool, true, false, cond, ◌&&◌, List, OnOk, Ok, Err, refl, sym, ap, subst, ◌∙◌}
use Rattle.std.proofs.lemmas.List.{reverse-append, reverse-reverse}
use Rattle.std.specs.Prelude.{Result, if◌then◌else◌, is_some, reverse}
use Rattle.tf_model.specs.declared.entry.Entry.{Entry}
use Rattle.tf_model.specs.Names.{is_transform_id}
use Rattle.tf_command.specs.declared.command.Parts.{Parts}
use Rattle.tf_command.specs.declared.command.Op.{Op}
use Rattle.tf_command.specs.declared.command.Op.TheVariants as op
use Rattle.tf_history.specs.Transforms.{transform_of}
use Rattle.tf_reply.specs.declared.replies.Reply.{Reply}
use Rattle.tf_reply.specs.declared.faults.Refusal.TheVariants as refusal
use Rattle.tf_decide.specs.Asking as decide
use Rattle.tf_decide.specs.Replying.{IsAccepted, is_refused, past_after, replied, reply_by, told_alone}
use Rattle.tf_decide.specs.declared.asked.Answer.{Answer}
use Rattle.tf_decide.specs.declared.asked.Answer.TheVariants as answer
use Rattle.tf_decide.specs.declared.asked.Asked.{Asked}
use Rattle.tf_decide.proofs.ToldAlone.{settling_accepted, step_accepted, step_asks}
use Rattle.tf_serial.specs.Following.{Following, Nothing, Step, Settling, followed, following, is_followed, moves_of}
use Rattle.tf_serial.specs.Frames.{IsFollowing, IsOfCommand, IsOfCommandBy, IsOnly}
use Rattle.tf_serial.specs.Script.{after_command, asked, given, reply_of}

-- ---- a command that no move follows
abbrev pub IsAlone : List Entry → Parts → Type 0
IsAlone past command = following (asked past command).answer command.op ≡ Nothing

nothing_either : (b : Bool) → (if b then Nothing else Nothing) ≡ Nothing
nothing_either true = refl
nothing_either false = refl

-- a step that is refused
step_refused : (past : List Entry) (id : List ℕ) (named there : Bool) → (named && there) ≡ false
    → is_refused (cond named (decide.step_of id there) (decide.refuses (refusal.BadName id))).answer ≡ true
step_refused past id true true e = absurd (let no : true ≡ false = e in cc)
step_refused past id true false e = refl
step_refused past id false there e = refl

alone_by : (past : List Entry) (moment : ℤ) (o : Op) → is_followed past o ≡ false → following (decide.asked past 0 moment o).answer o ≡ Nothing
alone_by past moment op.Settle e = absurd (let no : true ≡ false = e in cc)
alone_by past moment (op.Step id) e = ap (λ b. if b then Nothing else Step id) (step_refused past id (is_transform_id id) (is_some (transform_of id past)) e)
alone_by past moment o e = nothing_either (is_refused (decide.asked past 0 moment o).answer)

pub is_alone : (past : List Entry) (command : Parts) → is_followed past command.op ≡ false → IsAlone past command
is_alone past command e = alone_by past (given past command) command.op e

-- it makes its entries alone
alone_after : (past : List Entry) (command : Parts) → IsAlone past command → after_command past command ≡ past_after past (asked past command)
alone_after past command alone = ap (λ f. followed (given past command) f (past_after past (asked past command))) alone

pub alone_reply : (past : List Entry) (command : Parts) → IsAlone past command → replied past 0 (given past command) command ≡ reply_of past command
alone_reply past command alone = ap (λ (now : List Entry). reply_by command.line past now (asked past command).answer) (sym (alone_after past command alone))

alone_behind : (history now : List Entry) (command : Parts) → IsAlone (reverse history) command → now ≡ history ++ (asked (reverse history) command).entries → reverse now ≡ after_command (reverse history) command
alone_behind history now command alone made =
    ap reverse made ∙ (reverse-append history (asked (reverse history) command).entries ∙ sym (alone_after (reverse history) command alone))

pub alone_done : {E : Type 0} (result : Result Reply E) (history now : List Entry) (command : Parts) → IsAlone (reverse history) command → OnOk result (now ≡ history ++ (asked (reverse history) command).entries)
    → OnOk result (reverse now ≡ after_command (reverse history) command)
alone_done (Ok r) history now command alone made = alone_behind history now command alone made
alone_done (Err e) history now command alone made = tt

pub alone_whole : (history : List Entry) (command : Parts) → IsAlone (reverse history) command → history ++ (asked (reverse history) command).entries ≡ reverse (after_command (reverse history) command)
alone_whole history command alone =
    sym (reverse-reverse (history ++ (asked (reverse history) command).entries)) ∙ ap reverse (alone_behind history (history ++ (asked (reverse history) command).entries) command alone refl)

-- its frame
pub alone_frame : (history : List Entry) (command : Parts) → IsAlone (reverse history) command → (left next : List Entry) → IsOnly history (asked (reverse history) command).entries left next
    → IsOfCommand (reverse history) command left next
alone_frame history command alone left next only =
    subst (λ f. IsOfCommandBy f (reverse history) command left next) (sym alone)
    (subst (λ (h : List Entry). IsOnly h (asked (reverse history) command).entries left next) (sym (reverse-reverse history)) only)

-- ---- a command that moves follow
-- it is not refused, asks for no entry, and alone tells what is told
pub record IsMoving (past : List Entry) (moment : ℤ) (o : Op) : Type 0 where
  pub told : Answer
  pub asks : decide.asked past 0 moment o ≡ decide.tells told
  pub accepted : IsAccepted past o
  pub alone : is_some (told_alone o) ≡ true

pub moving : (past : List Entry) (moment : ℤ) (o : Op) → is_followed past o ≡ true → IsMoving past moment o
moving past moment op.Settle e = record { told = answer.Settled; asks = refl; accepted = settling_accepted past op.Settle refl; alone = refl }
moving past moment (op.Step id) e =
    record { told = answer.Stepped id; asks = step_asks past 0 moment (op.Step id) id refl e; accepted = step_accepted past (op.Step id) id refl e; alone = refl }
moving past moment o e = absurd (let no : false ≡ true = e in cc)

module _ (past : List Entry) (command : Parts) (followed_is : is_followed past command.op ≡ true) where
  is_moving : IsMoving past (given past command) command.op
  is_moving = moving past (given past command) command.op followed_is

  following_is : following (asked past command).answer command.op ≡ moves_of command.op
  following_is = ap (λ b. if b then Nothing else moves_of command.op) (is_moving.accepted 0 (given past command))

  -- it makes the moves alone
  pub moves_after : after_command past command ≡ followed (given past command) (moves_of command.op) past
  moves_after =
      ap (λ f. followed (given past command) f (past_after past (asked past command))) following_is
      ∙ ap (λ (a : Asked). followed (given past command) (moves_of command.op) (past_after past a)) is_moving.asks

  frames_by : (f : Following) (left next : List Entry) → IsFollowing (given past command) f past left next → IsOfCommandBy f past command left next
  frames_by Nothing left next h = absurd h
  frames_by (Step id) left next h = h
  frames_by Settling left next h = h

  -- its frames
  pub moves_frame : (left next : List Entry) → IsFollowing (given past command) (moves_of command.op) past left next → IsOfCommand past command left next
  moves_frame left next h = subst (λ f. IsOfCommandBy f past command left next) (sym following_is) (frames_by (moves_of command.op) left next h)
