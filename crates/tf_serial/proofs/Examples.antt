-- Settlings and steps of transforms over an index without documents.
use Rattle.std.proofs.Common.{◌≡◌, ℕ, List, [], ◌∷◌, None, Some, true, false, refl}
use Rattle.std.specs.Prelude.{pos, codes}
use Rattle.tf_model.specs.declared.config.AggKind.TheVariants.{Sum}
use Rattle.tf_model.specs.declared.config.Config.{Config}
use Rattle.tf_model.specs.declared.config.GroupKind.TheVariants.{Terms}
use Rattle.tf_model.specs.declared.config.Shape.TheVariants as shape
use Rattle.tf_model.specs.declared.entry.Entry.{Entry}
use Rattle.tf_model.specs.declared.entry.Kind.{Kind}
use Rattle.tf_model.specs.declared.entry.Kind.TheVariants as kind
use Rattle.tf_model.specs.declared.query.Query.TheVariants as query
use Rattle.tf_model.specs.Bounds.{aligned}
use Rattle.tf_core.specs.Listing.{ids_after}
use Rattle.tf_core.specs.Moves.{moved}
use Rattle.tf_serial.specs.Following.{Step, followed}
use Rattle.tf_serial.specs.Moves.{settled}

-- a batch pivot into a destination
abbrev into : List ℕ → Config
into dest = record {
  sources = codes "s" ∷ [];
  query = query.MatchAll;
  dest = dest;
  shape = shape.Pivot (record { name = codes "k"; field = codes "k"; kind = Terms; missing_bucket = false } ∷ []) (record { name = codes "n"; field = codes "v"; kind = Sum } ∷ []);
  sync = None;
  retention = None;
  frequency_ms = pos 60000;
  page_size = 500;
  align = true;
  epoch_millis = false;
  description = [];
}

abbrev asked : Kind → Entry
asked kind = record { at_ms = pos 5; actor = 0; kind = kind }

-- two transforms that are put and started; the newest entry stands first
abbrev two : List Entry
two =
    asked (kind.Start (codes "b"))
    ∷ asked (kind.Start (codes "a"))
    ∷ asked (kind.Put (codes "b") (into (codes "d")))
    ∷ asked (kind.Put (codes "a") (into (codes "e")))
    ∷ asked (kind.Index (codes "s") 1 (record { fields = [] }) None false)
    ∷ []

-- their ids in order
in_order : ids_after two ≡ codes "a" ∷ codes "b" ∷ []
in_order = refl

-- all moves of the one, and then those of the other
abbrev done : List Entry
done =
    moved (pos 9) (kind.Stopped (codes "b"))
    ∷ moved (pos 9) (kind.Finish (codes "b") 1)
    ∷ moved (pos 9) (kind.Begin (codes "b") 1 None)
    ∷ moved (pos 9) (kind.Stopped (codes "a"))
    ∷ moved (pos 9) (kind.Finish (codes "a") 1)
    ∷ moved (pos 9) (kind.Begin (codes "a") 1 None)
    ∷ two

both_move : settled (pos 9) two ≡ done
both_move = refl

-- a moment before the newest entry's is that entry's
earlier : settled (pos 3) (asked (kind.Start (codes "b")) ∷ asked (kind.Put (codes "b") (into (codes "d"))) ∷ []) ≡
    moved (pos 5) (kind.Stopped (codes "b"))
    ∷ moved (pos 5) (kind.Finish (codes "b") 1)
    ∷ moved (pos 5) (kind.Begin (codes "b") 1 None)
    ∷ asked (kind.Start (codes "b"))
    ∷ asked (kind.Put (codes "b") (into (codes "d")))
    ∷ []
earlier = refl

-- a further settling moves nothing
settled_again : settled (pos 9) done ≡ done
settled_again = refl

-- nor does one where no transform is there
none_there : settled (pos 9) [] ≡ []
none_there = refl

-- ---- steps
-- a step makes one move of its transform, and of one that is not there none
one_step : followed (pos 9) (Step (codes "b")) two ≡ moved (pos 9) (kind.Begin (codes "b") 1 None) ∷ two
one_step = refl

no_step : followed (pos 9) (Step (codes "c")) two ≡ two
no_step = refl

-- ---- a continuous transform, which is started
abbrev continuous : List Entry
continuous =
    asked (kind.Start (codes "b"))
    ∷ asked (kind.Put (codes "b") (record (into (codes "d")) { sync = Some (record { field = codes "ts"; delay_ms = pos 1 }) }))
    ∷ asked (kind.Index (codes "s") 1 (record { fields = [] }) None false)
    ∷ []

-- its first checkpoint, over no document
abbrev first_done : List Entry
first_done = moved (pos 9) (kind.Finish (codes "b") 1) ∷ moved (pos 9) (kind.Begin (codes "b") 1 (Some (pos 8))) ∷ continuous

first_settling : settled (pos 9) continuous ≡ first_done
unfolding aligned
first_settling = refl

-- it stays started, and no later one is due while its window has no document
later_settling : settled (pos 70000) first_done ≡ first_done
unfolding aligned
later_settling = refl
