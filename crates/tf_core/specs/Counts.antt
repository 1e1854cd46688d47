-- How many documents shards have, and how many entries name transforms, as they are counted.
use Rattle.std.specs.Prelude.{◌≡◌, ℕ, ⊤, ◌+◌, ◌<◌, ◌^◌, if◌then◌else◌, List, count_by, Option, IsSome}
use Rattle.std.specs.Arc.{arc_value}
use Rattle.std.specs.BTreeMap.{get}
use Rattle.std.specs.Cmp.Lexicographic.{slice_cmp}
use Rattle.std.specs.List.{AllByRecursion}
use Rattle.std.specs.Option.{unwrap_or}
use Rattle.std.specs.Ordering.{nat_cmp, ordering_then}
use Rattle.std.specs.declared.cmp.Ordering.{Ordering}
use Rattle.tf_model.specs.declared.doc.Doc.{Doc}
use Rattle.tf_model.specs.declared.entry.Entry.{Entry}
use Rattle.tf_history.specs.Events.{Event}
use Rattle.tf_history.specs.Legality.{names}
use Rattle.tf_history.specs.LegalEntries.{is_in_shard}
use Rattle.tf_core.specs.declared.counts.Counts.{Counts}
use Rattle.tf_core.specs.declared.ready.Prepared.{Prepared}
use Rattle.tf_core.specs.declared.ready.Step.{Step}
use Rattle.tf_core.specs.declared.ready.Step.TheVariants as step
use Rattle.tf_core.specs.Legal.{read}
use Rattle.tf_core.specs.Steps.{docs_of, is_about}

-- the number of all entries of a past that name a transform, over all its lives
abbrev pub mentions : List ℕ → List Entry → ℕ
mentions id past = count_by (λ (e : Event). names id e.deed) (read past)

-- shards by their index, and in it by their number
abbrev pub shard_cmp : ℕ × ℕ → ℕ × ℕ → Ordering
shard_cmp x y = ordering_then (nat_cmp x.0 y.0) (nat_cmp x.1 y.1)

-- the count of a shard of an index, none where none was made
abbrev pub entered : Counts → ℕ → ℕ → Option ℕ
entered counts index shard = get shard_cmp counts.by_shard (index, shard)

abbrev pub count_at : Counts → ℕ → ℕ → ℕ
count_at counts index shard = unwrap_or (entered counts index shard) 0

-- the count of a transform, none where none was made
abbrev pub entered_for : Counts → List ℕ → Option ℕ
entered_for counts id = get (slice_cmp nat_cmp) counts.by_transform id

abbrev pub count_for : Counts → List ℕ → ℕ
count_for counts id = unwrap_or (entered_for counts id) 0

-- each shard has as many of the documents as are counted
abbrev pub AreCounted : Counts → List Doc → Type 0
AreCounted counts docs = (index shard : ℕ) → count_at counts index shard ≡ count_by (is_in_shard index shard) docs

-- each transform is named by as many entries of a past as are counted
abbrev pub AreMentioned : Counts → List Entry → Type 0
AreMentioned counts past = (id : List ℕ) → count_for counts id ≡ mentions id past

-- counts that one more does not overflow
pub record AreFew (counts : Counts) : Type 0 where
  pub shards : (index shard : ℕ) → count_at counts index shard < 2 ^ 63
  pub transforms : (id : List ℕ) → count_for counts id < 2 ^ 63

-- as many documents in each shard, and as many entries for each transform
pub record SameCounts (old new : Counts) : Type 0 where
  pub shards : (index shard : ℕ) → count_at new index shard ≡ count_at old index shard
  pub transforms : (id : List ℕ) → count_for new id ≡ count_for old id

-- each shard and each transform that had a count has one
pub record KeepsCounts (old new : Counts) : Type 0 where
  pub shards : (index shard : ℕ) → IsSome (entered old index shard) → IsSome (entered new index shard)
  pub transforms : (id : List ℕ) → IsSome (entered_for old id) → IsSome (entered_for new id)

-- the shard that a step writes to has a count, and the transform that it names
abbrev pub HasCount : Counts → Step → Type 0
HasCount counts (step.Index index) = ⊤
HasCount counts (step.Write doc) = IsSome (entered counts (arc_value doc).index (arc_value doc).shard)
HasCount counts (step.Put t) = IsSome (entered_for counts t.id)
HasCount counts (step.Delete id) = IsSome (entered_for counts id)
HasCount counts (step.Change id by) = IsSome (entered_for counts id)

abbrev pub HaveCounts : Counts → List Prepared → Type 0
HaveCounts counts steps = AllByRecursion (λ (p : Prepared). HasCount counts p.step) steps

-- the document that a step adds is counted, and the transform that it names
pub record IsCounted (s : Step) (old new : Counts) : Type 0 where
  pub adds : (index shard : ℕ) → count_at new index shard ≡ count_at old index shard + count_by (is_in_shard index shard) (docs_of s)
  pub mentioned : (id : List ℕ) → count_for new id ≡ count_for old id + (if is_about id s then 1 else 0)
  pub kept : KeepsCounts old new
