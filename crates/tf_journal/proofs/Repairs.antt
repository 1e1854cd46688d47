-- What a repair leaves of a file that was read.
use Rattle.std.proofs.Common.{◌≡◌, ℕ, ◌+◌, ◌^◌, ◌<◌, ◌≤◌, List, [], ◌∷◌, ◌++◌, length, take, sym, ◌∙◌, ap, subst, arith, length-append, is_some}
use Rattle.std.proofs.lemmas.List.{nil_from_length}
use Rattle.tf_disk.specs.Disk.{Meaning, Tells, Cut, Writes, Cuts, IsDurable}
use Rattle.tf_journal.specs.Frames.{magic, reading, whole, opened, AreBodies}
use Rattle.tf_journal.specs.Crashes.{LeavesOnly, StepsFrom}
use Rattle.tf_journal.specs.Standing.{EndsAt, IsReadAs}
use Rattle.tf_journal.proofs.Moments.{leaves_wider, tells_same, tells_written, tells_cut}
use Rattle.tf_journal.proofs.Files.{IsFile, file_is, reading_short}
use Rattle.tf_journal.proofs.Torn.{written_header, cut_keeps, cut_done}

module _ {D : Type 0} (m : Meaning D) (old : D) (bytes : List ℕ) (frames : List (List ℕ)) (is : IsReadAs m bytes frames old) where
  abbrev read_so : List ℕ → Type 0
  read_so image = reading image ≡ whole frames

  module _ (short : length bytes ≤ 9) where
    none : [] ≡ frames
    none = let same : whole [] ≡ whole frames = sym (reading_short bytes short) ∙ is.read in cc

    pub header_ends : (new : D) → Writes 0 (magic ++ 0 ∷ []) (m.seen old) (m.seen new) → is_some (m.seen new) ≡ is_some (m.seen old) → IsDurable m new → EndsAt m frames 9 new
    header_ends new writes tells durable = record {
      bodies = subst AreBodies none tt;
      gate = 0;
      closed = λ (e : 0 ≡ 1). omega arith;
      file = subst (λ (l : List (List ℕ)). Tells (m.seen new) (opened l ++ 0 ∷ [])) none
          (subst (Tells (m.seen new)) (written_header bytes short) (tells_written (m.seen old) (m.seen new) 0 (magic ++ 0 ∷ []) bytes tells writes is.told));
      place = ap (λ (l : List (List ℕ)). length (opened l) + 1) none;
      durable = durable;
    }

  module _ (long : 9 < length bytes) (fits : length bytes < 2 ^ 64) (end : ℕ) (place : end ≡ length (opened frames) + 1) where
    file : IsFile bytes frames
    file = file_is bytes frames long fits is.small is.read

    pub cut_leaves : (new : D) → LeavesOnly m old new (StepsFrom (m.seen old) (Cut end)) → LeavesOnly m old new (λ image. reading image ≡ whole frames)
    cut_leaves new run = leaves_wider m old new (StepsFrom (m.seen old) (Cut end)) read_so run (λ image step.
        let from : step.0 ≡ opened frames ++ file.gate ∷ file.rest = tells_same (m.seen old) bytes step.0 is.told step.1 ∙ file.file in
        cut_keeps frames file.gate file.are file.closed file.rest image (subst (λ (l : List ℕ). Cut (length (opened frames) + 1) l image) from (subst (λ (n : ℕ). Cut n step.0 image) place step.2)))

    pub cut_ends : (new : D) → Cuts end (m.seen old) (m.seen new) → is_some (m.seen new) ≡ is_some (m.seen old) → IsDurable m new → EndsAt m frames end new
    cut_ends new cuts tells durable = record {
      bodies = file.are;
      gate = file.gate;
      closed = file.closed;
      file = subst (Tells (m.seen new)) (ap (λ (n : ℕ). take n bytes) place ∙ ap (λ (l : List ℕ). take (length (opened frames) + 1) l) file.file ∙ cut_done frames file.gate file.are file.closed file.rest)
          (tells_cut (m.seen old) (m.seen new) end bytes tells cuts is.told);
      place = place;
      durable = durable;
    }

    -- nothing stands behind the last gate
    pub ends_whole : length bytes ≤ end → EndsAt m frames end old
    ends_whole all =
        let none : file.rest ≡ [] = nil_from_length file.rest (omega (arith, place, ap length file.file, length-append (opened frames) (file.gate ∷ file.rest))) in
        record {
          bodies = file.are;
          gate = file.gate;
          closed = file.closed;
          file = subst (Tells (m.seen old)) (file.file ∙ ap (λ (l : List ℕ). opened frames ++ file.gate ∷ l) none) is.told;
          place = place;
          durable = is.durable;
        }
