-- A history that goes on, and the Pages in it.
use Rattle.std.proofs.Common.{◌≡◌, ℕ, ◌≤◌, List, [], ◌∷◌, ◌++◌, refl, sym, ap, subst, ◌∙◌, arith, length-append}
use Rattle.std.specs.List.{AllByRecursion}
use Rattle.std.specs.Prelude.{Result, Ok, Err, length, reverse}
use Rattle.std.proofs.lemmas.List.{length-reverse, reverse-append}
use mathlib.Core.List.{IsPrefix}
use Rattle.tf_model.specs.declared.entry.Entry.{Entry}
use Rattle.tf_disk.specs.Disk.{Meaning}
use Rattle.tf_disk.specs.declared.device.Disk.{Ghosts}
use Rattle.tf_history.specs.Events.{Event}
use Rattle.tf_history.specs.Histories.{AllRight}
use Rattle.tf_core.specs.Legal.{read}
use Rattle.tf_store.specs.Answers.{counted, history_after}
use Rattle.tf_store.specs.declared.error.StoreError.{StoreError}
use Rattle.tf_store.specs.Words.{broken_at, disk_of, found_of, history_of, opened_at, opened_with}
use Rattle.tf_store.specs.declared.state.Store.{Store}
use Rattle.tf_serial.specs.Parts.{GoesOn, IsRightEntry, Runs, StaysBroken}
use Rattle.tf_serial.proofs.RightLines.{IsQuietEntry, quiet_kind}
use Rattle.tf_serial.proofs.SpelledPasts.{all_reverse}
use Rattle.tf_serial.proofs.Prefixes.{prefix_self, prefix_through}

length_read : (past : List Entry) → length (read past) ≡ length past
length_read [] = refl
length_read (e ∷ past) = let rest = length_read past in omega (arith, rest)

-- no place is past the end
none_behind : (m : ℕ) (events : List Event) → length events ≤ m → AllRight m events
none_behind m [] short = tt
none_behind m (e ∷ events) short = (none_behind m events (omega arith), λ le. absurd (omega (arith, short, le)))

-- a past whose older part has right Pages from a place on, and whose newer part has right ones
pub right_read : (m : ℕ) (past more : List Entry) → m ≤ length past → AllRight m (read past) → AllRight (length past) (read (more ++ past)) → AllRight m (read (more ++ past))
right_read m past [] le old new = old
right_read m past (e ∷ more) le old new =
    (right_read m past more le old new.0, λ at. new.1 (omega (arith, length_read (more ++ past), length-append more past)))

-- a history that goes on as another one has a past behind which the other's stands
pub behind : (first now : List Entry) (p : IsPrefix first now) → reverse now ≡ reverse p.0 ++ reverse first
behind first now p = ap reverse (sym p.1) ∙ reverse-append first p.0

pub goes_itself : (first : List Entry) → GoesOn first first
goes_itself first = record { begun = prefix_self first; right = none_behind (length first) (read (reverse first)) (omega (arith, length_read (reverse first), length-reverse first)) }

pub goes_through : (first mid now : List Entry) → GoesOn first mid → GoesOn mid now → GoesOn first now
goes_through first mid now p q =
    let same : length (reverse mid) ≡ length mid = length-reverse mid in
    record {
      begun = prefix_through first mid now p.begun q.begun;
      right = subst (λ past. AllRight (length first) (read past)) (sym (behind mid now q.begun))
          (right_read (length first) (reverse mid) (reverse q.begun.0) (omega (arith, same, ap length p.begun.1, length-append first p.begun.0)) p.right
          (subst (λ n. AllRight n (read (reverse q.begun.0 ++ reverse mid))) (sym same)
          (subst (λ past. AllRight (length mid) (read past)) (behind mid now q.begun) q.right)));
    }

pub goes_entry : (first : List Entry) (e : Entry) → IsRightEntry (reverse first) e → GoesOn first (first ++ e ∷ [])
goes_entry first e right =
    let last : reverse (first ++ e ∷ []) ≡ e ∷ reverse first = reverse-append first (e ∷ []) in
    record {
      begun = (e ∷ [], refl);
      right = subst (λ past. AllRight (length first) (read past)) (sym last) ((goes_itself first).right, λ at. right);
    }

-- a past behind which no Page comes
quiet_right : (n : ℕ) (past more : List Entry) → AllByRecursion IsQuietEntry more → AllRight n (read past) → AllRight n (read (more ++ past))
quiet_right n past [] quiet right = right
quiet_right n past (e ∷ more) quiet right = (quiet_right n past more quiet.1 right, λ at. quiet_kind (more ++ past) e.kind quiet.0)

pub goes_quietly : (first es : List Entry) → AllByRecursion IsQuietEntry es → GoesOn first (first ++ es)
goes_quietly first es quiet = record {
  begun = (es, refl);
  right = subst (λ past. AllRight (length first) (read past)) (sym (reverse-append first es)) (quiet_right (length first) (reverse first) (reverse es) (all_reverse IsQuietEntry es quiet) (goes_itself first).right);
}

-- entries more among which no Page is, or the same history
goes_by : {X : Type 0} (r : Result X StoreError) (number : ℕ) (first es now : List Entry) → now ≡ history_after first es (counted number r) → AllByRecursion IsQuietEntry es → GoesOn first now
goes_by (Ok x) number first es now is quiet = subst (λ now. GoesOn first now) (sym is) (goes_quietly first es quiet)
goes_by (Err e) number first es now is quiet = subst (λ now. GoesOn first now) (sym is) (goes_itself first)

module _ {D : Type 0} {g : Ghosts D} (m : Meaning D) where
  pub runs_through : (old mid new : Store D g) → Runs m old mid → Runs m mid new → Runs m old new
  runs_through old mid new p q = record {
    history = goes_through (history_of old) (history_of mid) (history_of new) p.history q.history;
    opened = q.opened ∙ p.opened;
    opened_count = q.opened_count ∙ p.opened_count;
    found = q.found ∙ p.found;
    later = omega (arith, p.later, q.later);
    stuck = λ count is. let here = p.stuck count is in let there = q.stuck count here.0 in (there.0, there.1 ∙ here.1);
  }

  -- the history goes on, and all else is as it was
  runs_on : (old new : Store D g) → GoesOn (history_of old) (history_of new) → (opened_at new ≡ opened_at old) × (opened_with new ≡ opened_with old) → found_of new ≡ found_of old
      → m.faults (disk_of old) ≤ m.faults (disk_of new) → StaysBroken (broken_at old) (history_of old) (broken_at new) (history_of new) → Runs m old new
  runs_on old new history opened found later stuck = record { history = history; opened = opened.0; opened_count = opened.1; found = found; later = later; stuck = stuck }

  pub runs_itself : (old : Store D g) → Runs m old old
  runs_itself old = runs_on old old (goes_itself (history_of old)) (refl, refl) refl (omega arith) (λ count is. (is, refl))

  -- one entry more, where it is right
  pub runs_entry : (old new : Store D g) (e : Entry) → history_of new ≡ history_of old ++ e ∷ [] → IsRightEntry (reverse (history_of old)) e → (opened_at new ≡ opened_at old) × (opened_with new ≡ opened_with old)
      → found_of new ≡ found_of old → m.faults (disk_of old) ≤ m.faults (disk_of new) → StaysBroken (broken_at old) (history_of old) (broken_at new) (history_of new) → Runs m old new
  runs_entry old new e grown right = runs_on old new (subst (λ now. GoesOn (history_of old) now) (sym grown) (goes_entry (history_of old) e right))

  -- the same history
  pub runs_same : (old new : Store D g) → history_of new ≡ history_of old → (opened_at new ≡ opened_at old) × (opened_with new ≡ opened_with old) → found_of new ≡ found_of old
      → m.faults (disk_of old) ≤ m.faults (disk_of new) → StaysBroken (broken_at old) (history_of old) (broken_at new) (history_of new) → Runs m old new
  runs_same old new same = runs_on old new (subst (λ now. GoesOn (history_of old) now) (sym same) (goes_itself (history_of old)))

  pub runs_submit : {X : Type 0} (r : Result X StoreError) (old new : Store D g) (number : ℕ) (es : List Entry) → history_of new ≡ history_after (history_of old) es (counted number r) → AllByRecursion IsQuietEntry es
      → (opened_at new ≡ opened_at old) × (opened_with new ≡ opened_with old) → found_of new ≡ found_of old → m.faults (disk_of old) ≤ m.faults (disk_of new)
      → StaysBroken (broken_at old) (history_of old) (broken_at new) (history_of new) → Runs m old new
  runs_submit r old new number es is quiet = runs_on old new (goes_by r number (history_of old) es (history_of new) is quiet)
