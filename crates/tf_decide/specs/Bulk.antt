-- Documents of a bulk, as they are tried one after the other.
use Rattle.std.specs.Prelude.{◌≡◌, ℕ, ℤ, ◌<◌, ◌+◌, ◌^◌, List, [], ◌∷◌, ◌++◌, drop, length, reverse, slice_get, Option, Some, None, Result, Ok, Err, if◌then◌else◌, slice_set}
use Rattle.std.specs.BTreeMap.{BTreeMap, get}
use Rattle.std.specs.Cmp.Lexicographic.{slice_cmp}
use Rattle.std.specs.List.{find}
use Rattle.std.specs.Option.{option_map}
use Rattle.std.specs.Ordering.{nat_cmp}
use Rattle.std.specs.Str.{bytes_eq}
use Rattle.tf_model.specs.declared.doc.Doc.{Doc}
use Rattle.tf_model.specs.declared.entry.Entry.{Entry}
use Rattle.tf_model.specs.declared.tree.Tree.{Tree}
use Rattle.tf_reply.specs.declared.faults.Refusal.{Refusal}
use Rattle.tf_history.specs.Catalogue.{SourceIndex, catalogue}
use Rattle.tf_history.specs.LegalEntries.{has_id}
use Rattle.tf_history.specs.Lives.{documents as written}
use Rattle.tf_core.specs.Legal.{read}
use Rattle.tf_core.specs.Moves.{moment_after}
use Rattle.tf_decide.specs.declared.batch.Batch.{Batch}
use Rattle.tf_decide.specs.Asking.{accepted, asked_document, item_of, next_seq, place_of, placed_by}

-- the past after these entries
abbrev pub past_with : List Entry → List Entry → List Entry
past_with past entries = reverse entries ++ past

-- the documents that a past has behind those of another one
abbrev pub added : List Entry → List Entry → List Doc
added past now = drop (length (written (read past))) (written (read now))

-- A past comes to be another one by documents alone.
pub record Grows (past now : List Entry) (given : ℤ) : Type 0 where
  pub indices : catalogue now ≡ catalogue past
  pub moment : moment_after now given ≡ moment_after past given
  pub docs : written (read now) ≡ written (read past) ++ added past now

-- each shard below a number has its count
abbrev pub AreCounts : List Entry → ℕ → ℕ → List ℕ → Type 0
AreCounts now index n counts = (shard : ℕ) → shard < n → slice_get counts shard ≡ Some (next_seq now index shard)

-- the places tell the ids of these documents
abbrev pub place_among : List Doc → ℕ → List ℕ → Option (ℕ × ℕ)
place_among docs index id = option_map place_of (find (has_id index id) docs)

-- entries, places and counts that stand for the entries of a bulk that are accepted
pub record AreOf (past : List Entry) (given : ℤ) (index : ℕ) (s : SourceIndex) (entries : List Entry) (places : BTreeMap (List ℕ) (ℕ × ℕ)) (counts : List ℕ) : Type 0 where
  pub grows : Grows past (past_with past entries) given
  pub placed : (id : List ℕ) → get (slice_cmp nat_cmp) places id ≡ place_among (added past (past_with past entries)) index id
  pub counted : AreCounts (past_with past entries) index s.shards counts

abbrev pub IsBatch : List Entry → ℤ → ℕ → SourceIndex → Batch → Type 0
IsBatch past given index s b = AreOf past given index s b.entries b.places b.counts

-- one document more is tried
pub record IsTried (r : Result Entry Refusal) (old new : Batch) : Type 0 where
  pub entries : new.entries ≡ old.entries ++ accepted (r ∷ [])
  pub items : new.items ≡ old.items ++ item_of r ∷ []

-- an accepted document stands at a place, where there is a count for its shard
abbrev pub IsPlaced : Result Entry Refusal → ℕ → ℕ → Batch → Type 0
IsPlaced (Ok e) shard seq b = (shard < length b.counts) × (seq < 2 ^ 31) × (placed_by e.kind ≡ (seq, shard))
IsPlaced (Err r) shard seq b = Unit {0}

-- an accepted document's place is kept beside its id, and its shard has one document more
abbrev pub IsAdded : Result Entry Refusal → List ℕ → ℕ → ℕ → Batch → Batch → Type 0
IsAdded (Ok e) name shard seq old new =
    ((q : List ℕ) → get (slice_cmp nat_cmp) new.places q ≡ (if bytes_eq name q then Some (seq, shard) else get (slice_cmp nat_cmp) old.places q))
    × (new.counts ≡ slice_set old.counts shard (seq + 1))
IsAdded (Err r) name shard seq old new = (new.places ≡ old.places) × (new.counts ≡ old.counts)

-- what becomes of the next document
abbrev pub next_tried : List Entry → ℕ → ℤ → ℕ → SourceIndex → Batch → List ℕ → Tree → Result Entry Refusal
next_tried past actor given index s b id tree = asked_document (past_with past b.entries) actor given index s id tree

-- a place among some documents, or among others
abbrev pub place_or : Option (ℕ × ℕ) → Option (ℕ × ℕ) → Option (ℕ × ℕ)
place_or None other = other
place_or (Some place) other = Some place

abbrev pub count_or : Option ℕ → ℕ
count_or None = 0
count_or (Some count) = count
