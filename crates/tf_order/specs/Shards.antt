-- Documents shard by shard.
use Rattle.std.specs.Prelude.{ℕ, Bool, nat_eq, List, [], ◌∷◌, filter, map, take}
use Rattle.std.specs.List.{flat_map, list_any, range_with_len}
use Rattle.tf_model.specs.declared.doc.Doc.{Doc}
use Rattle.tf_history.specs.LegalEntries.{is_in_shard}

-- whether a document is in one of these indices
abbrev pub is_among : List ℕ → Doc → Bool
is_among sources d = list_any (nat_eq d.index) sources

-- the documents of each of the first so many shards of an index
abbrev pub shards_of : ℕ → ℕ → List Doc → List (List Doc)
shards_of count index docs = map (λ shard. filter (is_in_shard index shard) docs) (range_with_len 0 count)

-- the documents of each shard of these indices, in the order of the indices and then by shard, where an index has so many shards
abbrev pub runs_of : (ℕ → ℕ) → List ℕ → List Doc → List (List Doc)
runs_of count sources docs = flat_map (λ index. shards_of (count index) index docs) sources

-- the first documents of each run, so many as its length says
abbrev pub cut_to : List ℕ → List (List Doc) → List (List Doc)
cut_to [] runs = []
cut_to (len ∷ lens) [] = []
cut_to (len ∷ lens) (run ∷ runs) = take len run ∷ cut_to lens runs
