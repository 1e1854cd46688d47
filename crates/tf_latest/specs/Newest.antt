-- The newest document of each of some keys.
use Rattle.std.specs.Prelude.{◌≡◌, ◌<◌, ℕ, false, List, [], ◌∷◌, length, map, slice_get, Option, Some, None, All}
use Rattle.std.specs.List.{cons_option}
use Rattle.std.specs.Option.{option_map}
use Rattle.tf_model.specs.declared.value.Key.{Key}
use Rattle.tf_model.specs.declared.doc.Doc.{Doc}
use Rattle.tf_model.specs.declared.config.Config.{Config}
use Rattle.tf_model.specs.declared.entry.Row.{Row}
use Rattle.tf_model.specs.Keys.{has_key, key_of}
use Rattle.tf_model.specs.Latest.{age_cmp, newest, row_named}
use Rattle.tf_model.specs.Rows.{with_key}

-- the newest of the documents that have a key, by source list and sort field
abbrev pub newest_of : List ℕ → List ℕ → Config → List Doc → Key → Option Doc
newest_of sources sort c docs k = newest (age_cmp sources sort) (with_key c k docs)

-- for each of the keys the newest of the documents that have it, none where no document has it
abbrev pub AreNewest : List ℕ → List ℕ → Config → List Doc → List Key → List (Option Doc) → Type 0
AreNewest sources sort c docs keys found = found ≡ map (newest_of sources sort c docs) keys

-- the key of a document stands at this place of the keys, or it is none of them
abbrev pub IsPlaceAmong : Config → Doc → List Key → Option ℕ → Type 0
IsPlaceAmong c d keys (Some at) = (at < length keys) × (slice_get keys at ≡ key_of c d)
IsPlaceAmong c d keys None = All (λ k. has_key c k d ≡ false) keys

-- the rows of those keys that have a document
abbrev pub named : List Key → List (Option Doc) → List Row
named [] found = []
named (k ∷ ks) [] = []
named (k ∷ ks) (d ∷ found) = cons_option (option_map (row_named k) d) (named ks found)
