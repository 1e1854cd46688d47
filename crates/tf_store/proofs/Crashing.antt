-- What a crash may leave, from frames to histories.
use Rattle.std.proofs.Common.{◌≡◌, inl, inr, ℕ, List, [], ◌∷◌, ◌++◌, sym, ◌∙◌, Some, None, Option, IfSome}
use mathlib.Core.List.{IsPrefix}
use Rattle.tf_model.specs.declared.entry.Entry.{Entry}
use Rattle.tf_disk.specs.Disk.{Meaning}
use Rattle.tf_journal.specs.Frames.{Reading, reading, whole}
use Rattle.tf_journal.specs.Crashes as frames
use Rattle.tf_journal.specs.Standing.{HasFrames}
use Rattle.tf_journal.proofs.Moments.{then_leaves, leaves_wider}
use Rattle.tf_core.specs.Legal.{AreTakenAfter}
use Rattle.tf_store.specs.Histories.{Spells, Holds, history, HasHistory}
use Rattle.tf_store.specs.Crashes.{IsBeforeOrAfter, IsBetween, HasTheSame, IsOpened, Keeps}
use Rattle.tf_store.specs.Standing.{StandsFor}
use Rattle.tf_store.proofs.Lists.{prefix_self, prefix_more}
use Rattle.tf_store.proofs.Contents.{leads_more, has_what, has_same}

-- frames with one more or without it are a history with its entries or without them
pub before_or_after : (bodies : List (List ℕ)) (body : List ℕ) (held es : List Entry) → Holds bodies held → Spells body es → AreTakenAfter held es → (image : List ℕ) → frames.IsBeforeOrAfter bodies body image → IsBeforeOrAfter held es image
before_or_after bodies body held es holds spells taken image (inl old) = inl (has_what (whole bodies) image (history held) old holds)
before_or_after bodies body held es holds spells taken image (inr new) = inr (has_what (whole (bodies ++ body ∷ [])) image (history (held ++ es)) new (leads_more [] bodies body held es holds spells taken))

between : (first held es : List Entry) (image : List ℕ) → IsPrefix first held → IsBeforeOrAfter held es image → IsBetween first (held ++ es) image
between first held es image begins (inl old) = record { history = held; has = old; begun = begins; begins = prefix_more held held es (prefix_self held) }
between first held es image begins (inr new) = record { history = held ++ es; has = new; begun = prefix_more first held es begins; begins = prefix_self (held ++ es) }

longer : (first held es : List Entry) (image : List ℕ) → IsBetween first held image → IsBetween first (held ++ es) image
longer first held es image is = record { history = is.history; has = is.has; begun = is.begun; begins = prefix_more is.history held es is.begins }

reads_so : (told : Option (List ℕ)) (bodies : List (List ℕ)) (held : List Entry) → Holds bodies held → IfSome told (λ bytes. reading bytes ≡ whole bodies) → IfSome told (λ bytes. HasHistory bytes held)
reads_so None bodies held holds is = tt
reads_so (Some bytes) bodies held holds is = has_what (whole bodies) bytes (history held) is holds

module _ {D : Type 0} (m : Meaning D) where
  -- a file that ends behind frames stands for their history
  pub stands_for : (bodies : List (List ℕ)) (held : List Entry) (len : ℕ) (disk : D) → Holds bodies held → HasFrames m bodies len disk → StandsFor m held len disk
  stands_for bodies held len disk holds file = record {
    frames = bodies;
    holds = holds;
    file = file;
    reads = reads_so (m.seen disk) bodies held holds file.reads;
    images = λ image left. has_what (whole bodies) image (history held) (file.images image left) holds;
  }

  -- what is known of each image stays over a run that leaves the history with more entries or without them
  pub keeps_more : (synced : D) (first held es : List Entry) (old new : D) → Keeps m synced first held old → frames.LeavesOnly m old new (IsBeforeOrAfter held es) → Keeps m synced first (held ++ es) new
  keeps_more synced first held es old new kept run = record {
    begins = prefix_more first held es kept.begins;
    since = then_leaves m synced old new (IsBetween first (held ++ es)) (IsBeforeOrAfter held es) (leaves_wider m synced old (IsBetween first held) (IsBetween first (held ++ es)) kept.since (longer first held es)) run
        (λ image now. between first held es image kept.begins now);
  }

  -- an opening, told by what the bytes have
  pub opened_same : (old synced new : D) (bytes : List ℕ) (read : Reading) → reading bytes ≡ read → frames.IsOpened m old synced new read → IsOpened m old synced new bytes
  opened_same old synced new bytes read is run = record {
    first_sync = run.first_sync;
    since = leaves_wider m synced new (λ image. reading image ≡ read) (HasTheSame bytes) run.since (λ image now content. has_same bytes image content (now ∙ sym is));
  }

  -- just after an opening
  pub keeps_opened : (old synced new : D) (bytes : List ℕ) (held : List Entry) → HasHistory bytes held → IsOpened m old synced new bytes → Keeps m synced held held new
  keeps_opened old synced new bytes held has is = record {
    begins = prefix_self held;
    since = leaves_wider m synced new (HasTheSame bytes) (IsBetween held held) is.since (λ image same. record { history = held; has = same (history held) has; begun = prefix_self held; begins = prefix_self held });
  }
