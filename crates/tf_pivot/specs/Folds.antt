-- A fold for each key.
use Rattle.std.specs.Prelude.{◌≡◌, ◌+◌, ◌<◌, ◌≤◌, ◌^◌, false, List, [], ◌∷◌, ◌++◌, length, Option, Some, None, is_some, IfSome, MatchOption}
use Rattle.std.specs.BTreeMap.{BTreeMap, get}
use Rattle.std.specs.Ordering.{eq_by_cmp}
use Rattle.tf_model.specs.declared.value.Key.{Key}
use Rattle.tf_model.specs.declared.doc.Doc.{Doc}
use Rattle.tf_model.specs.declared.config.Config.{Config}
use Rattle.tf_model.specs.Order.{key_cmp}
use Rattle.tf_model.specs.Keys.{is_among}
use Rattle.tf_model.specs.Rows.{aggs_of, with_key}
use Rattle.tf_fold.specs.Fold.{Kept, StandsFor}

-- a fold of these aggregations that can take a document more
abbrev pub IsReady : Config → Kept → Type 0
IsReady c kept = (length kept.parts ≡ length (aggs_of c.shape)) × (kept.weight < 2 ^ 42)

-- one fold is the other with a document more
abbrev pub IsGrown : Config → Doc → Kept → Kept → Type 0
IsGrown c d old new = (new.weight ≡ old.weight + 1) × ((docs : List Doc) → StandsFor c docs old → StandsFor c (docs ++ d ∷ []) new)

-- each of the keys, and no other, has a fold, which is over those of the documents that have the key
pub record AreFolds (c : Config) (keys : List Key) (docs : List Doc) (folds : BTreeMap Key Kept) : Type 0 where
  pub present : (k : Key) → is_some (get key_cmp folds k) ≡ is_among keys k
  pub over : (k : Key) → IfSome (get key_cmp folds k) (λ kept. StandsFor c (with_key c k docs) kept × (kept.weight ≤ length docs))

-- the fold at a key has grown by a document, where there is one, and the others are as they were
abbrev pub GrowsAt : Config → Doc → Key → BTreeMap Key Kept → BTreeMap Key Kept → Type 0
GrowsAt c d k old new = ((q : Key) → eq_by_cmp key_cmp k q ≡ false → get key_cmp new q ≡ get key_cmp old q)
    × MatchOption (get key_cmp old k) (get key_cmp new k ≡ None) (λ kept. MatchOption (get key_cmp new k) ⊥ (IsGrown c d kept))

-- the same for the key of a document, where it has one: with no key all are as they were
abbrev pub GrowsWith : Config → Doc → Option Key → BTreeMap Key Kept → BTreeMap Key Kept → Type 0
GrowsWith c d None old new = (q : Key) → get key_cmp new q ≡ get key_cmp old q
GrowsWith c d (Some k) old new = GrowsAt c d k old new
