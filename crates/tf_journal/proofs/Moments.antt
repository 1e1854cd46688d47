-- How a run of disk calls goes on.
use Rattle.std.proofs.Common.{◌≡◌, inl, inr, ⊎_elim, ℕ, ◌≤◌, List, [], take, refl, sym, ◌∙◌, ap, subst, arith, Some, None, Option, is_some}
use Rattle.tf_disk.specs.Disk.{Meaning, Tells, Makes, Kept, IsDurable, IsUntouched, Writes, Cuts, written}
use Rattle.tf_journal.specs.Crashes.{LeavesOnly, LeavesNothingNew, StepsFrom}

-- what a disk tells is some list
pub some_bytes : (told : Option (List ℕ)) → (bytes : List ℕ) × Tells told bytes
some_bytes None = ([], tt)
some_bytes (Some bytes) = (bytes, refl)

pub tells_same : (told : Option (List ℕ)) (bytes from : List ℕ) → Tells told bytes → told ≡ Some from → from ≡ bytes
tells_same told bytes from tells is = subst (λ (o : Option (List ℕ)). Tells o bytes) is tells

pub tells_written : (before now : Option (List ℕ)) (place : ℕ) (bytes file : List ℕ) → is_some now ≡ is_some before → Writes place bytes before now → Tells before file → Tells now (written file place bytes)
tells_written None None place bytes file same writes tells = tt
tells_written None (Some x) place bytes file same writes tells = absurd (cc)
tells_written (Some x) now place bytes file same writes tells =
    subst (λ (o : Option (List ℕ)). Tells o (written file place bytes)) (sym (writes x refl)) (ap (λ (l : List ℕ). written l place bytes) tells)

pub tells_cut : (before now : Option (List ℕ)) (len : ℕ) (file : List ℕ) → is_some now ≡ is_some before → Cuts len before now → Tells before file → Tells now (take len file)
tells_cut None None len file same cuts tells = tt
tells_cut None (Some x) len file same cuts tells = absurd (cc)
tells_cut (Some x) now len file same cuts tells = subst (λ (o : Option (List ℕ)). Tells o (take len file)) (sym (cuts x refl)) (ap (λ (l : List ℕ). take len l) tells)

module _ {D : Type 0} (m : Meaning D) where
  abbrev pub CountsNow : Type 0
  CountsNow = (disk : D) (t : ℕ) (image : List ℕ) → t ≤ m.moment disk → m.may_leave disk image → m.left_since disk t image

  abbrev pub OnlyNow : Type 0
  OnlyNow = (disk : D) (image : List ℕ) → m.left_since disk (m.moment disk) image → m.may_leave disk image

  -- before the first call
  pub started : OnlyNow → (old : D) (P : List ℕ → Type 0) → ((image : List ℕ) → m.may_leave old image → P image) → LeavesOnly m old old P
  started only_now old P here = record {
    tells = refl;
    later = omega arith;
    each = λ image left. here image (only_now old image left);
    before = λ t image le left. inl left;
    keeps = λ t image le left. left;
  }

  -- one call more, after which a crash leaves what has P
  pub goes_on : (old mid new : D) (P : List ℕ → Type 0) (step : List ℕ → List ℕ → Type 0) → LeavesOnly m old mid P → Makes m step mid new → ((image : List ℕ) → m.may_leave new image → P image) → LeavesOnly m old new P
  goes_on old mid new P step so_far makes here = record {
    tells = makes.tells ∙ so_far.tells;
    later = omega (arith, so_far.later, makes.later);
    each = λ image left. ⊎_elim (so_far.each image) (here image) (makes.nothing_else (m.moment old) image so_far.later left);
    before = λ t image le left. ⊎_elim (so_far.before t image le) (λ now. inr (here image now)) (makes.nothing_else t image (omega (arith, le, so_far.later)) left);
    keeps = λ t image le left. makes.keeps t image (omega (arith, le, so_far.later)) (so_far.keeps t image le left);
  }

  -- one run after another
  pub then_leaves : (old mid new : D) (P Q : List ℕ → Type 0) → LeavesOnly m old mid P → LeavesOnly m mid new Q → ((image : List ℕ) → Q image → P image) → LeavesOnly m old new P
  then_leaves old mid new P Q first second wider = record {
    tells = second.tells ∙ first.tells;
    later = omega (arith, first.later, second.later);
    each = λ image left. ⊎_elim (first.each image) (wider image) (second.before (m.moment old) image first.later left);
    before = λ t image le left. ⊎_elim (first.before t image le) (λ now. inr (wider image now)) (second.before t image (omega (arith, le, first.later)) left);
    keeps = λ t image le left. second.keeps t image (omega (arith, le, first.later)) (first.keeps t image le left);
  }

  pub leaves_wider : (old new : D) (P Q : List ℕ → Type 0) → LeavesOnly m old new P → ((image : List ℕ) → P image → Q image) → LeavesOnly m old new Q
  leaves_wider old new P Q run wider = record {
    tells = run.tells;
    later = run.later;
    each = λ image left. wider image (run.each image left);
    before = λ t image le left. ⊎_elim (λ was. inl was) (λ now. inr (wider image now)) (run.before t image le left);
    keeps = run.keeps;
  }

  -- so it does now
  pub leaves_now : CountsNow → (old new : D) (P : List ℕ → Type 0) → LeavesOnly m old new P → (image : List ℕ) → m.may_leave new image → P image
  leaves_now counts_now old new P run image now = run.each image (counts_now new (m.moment old) image run.later now)

  -- a change from what is on the disk
  pub stepped : OnlyNow → (old new : D) (step : List ℕ → List ℕ → Type 0) → ((bytes : List ℕ) → step bytes bytes) → IsDurable m old → Makes m step old new → LeavesOnly m old new (StepsFrom (m.seen old) step)
  stepped only_now old new step same durable makes =
      goes_on old old new (StepsFrom (m.seen old) step) step (started only_now old (StepsFrom (m.seen old) step) (λ image is. (image, durable image is, same image))) makes
      (λ image is. let from = makes.images image is in (from.0, durable from.0 from.1, from.2))

  -- the same, and a sync
  pub stepped_through : OnlyNow → (old mid new : D) (step : List ℕ → List ℕ → Type 0) → ((bytes : List ℕ) → step bytes bytes) → IsDurable m old → Makes m step old mid → Makes m Kept mid new → LeavesOnly m old new (StepsFrom (m.seen old) step)
  stepped_through only_now old mid new step same durable makes synced =
      goes_on old mid new (StepsFrom (m.seen old) step) Kept (stepped only_now old mid step same durable makes) synced
      (λ image is.
      let was = synced.images image is in
      let from = makes.images was.0 was.1 in
      (from.0, durable from.0 from.1, subst (step from.0) (sym was.2) from.2))

  pub untouched_durable : (old new : D) → IsUntouched m old new → IsDurable m old → IsDurable m new
  untouched_durable old new same durable image is = same.seen ∙ durable image ((same.images image).0 is)

  -- a run after a reading
  pub looked_then : (old looked new : D) (P : List ℕ → Type 0) → IsUntouched m old looked → LeavesOnly m looked new P → LeavesOnly m old new P
  looked_then old looked new P same run = record {
    tells = run.tells ∙ ap is_some same.seen;
    later = omega (arith, same.moment, run.later);
    each = λ image left. run.each image (subst (λ (t : ℕ). m.left_since new t image) (sym same.moment) left);
    before = λ t image le left. ⊎_elim (λ was. inl ((same.since t image).0 was)) (λ now. inr now) (run.before t image (omega (arith, le, same.moment)) left);
    keeps = λ t image le left. run.keeps t image (omega (arith, le, same.moment)) ((same.since t image).1 left);
  }

  pub synced_only : CountsNow → (old synced : D) → Makes m Kept old synced → LeavesNothingNew m old synced
  synced_only counts_now old synced makes = record {
    later = makes.later;
    before = λ t image le left.
        ⊎_elim (λ was. was) (λ now. let was = makes.images image now in counts_now old t image le (subst (m.may_leave old) (sym was.2) was.1)) (makes.nothing_else t image le left);
  }

  pub nothing_then : (old mid new : D) → LeavesNothingNew m old mid → IsUntouched m mid new → LeavesNothingNew m old new
  nothing_then old mid new first same = record {
    later = omega (arith, first.later, same.moment);
    before = λ t image le left. first.before t image le ((same.since t image).0 left);
  }
