-- Documents shard by shard, by computation. Index 0 has two shards and index 1 has one, and index 2 is no source.
use Rattle.std.proofs.Common.{◌≡◌, ℕ, zero, suc, List, [], ◌∷◌, filter, length, map, take, refl}
use Rattle.tf_model.specs.declared.doc.Doc.{Doc}
use Rattle.tf_model.specs.declared.tree.Tree.TheVariants as tree
use Rattle.tf_order.specs.Shards.{cut_to, is_among, runs_of}

doc : ℕ → ℕ → ℕ → Doc
doc index shard seq = record { index = index; shard = shard; seq = seq; id = []; tree = tree.Null; values = [] }

-- in the order of writing
docs : List Doc
unfolding doc
docs = doc 0 1 0 ∷ doc 1 0 0 ∷ doc 0 0 0 ∷ doc 2 0 0 ∷ doc 0 1 1 ∷ doc 1 0 1 ∷ []

shards : ℕ → ℕ
shards zero = 2
shards (suc index) = 1

-- the source list names index 1 first
sources : List ℕ
sources = 1 ∷ 0 ∷ []

in_the_order_of_writing : filter (is_among sources) docs ≡ doc 0 1 0 ∷ doc 1 0 0 ∷ doc 0 0 0 ∷ doc 0 1 1 ∷ doc 1 0 1 ∷ []
unfolding doc docs sources
in_the_order_of_writing = refl

shard_by_shard : runs_of shards sources docs ≡ (doc 1 0 0 ∷ doc 1 0 1 ∷ []) ∷ (doc 0 0 0 ∷ []) ∷ (doc 0 1 0 ∷ doc 0 1 1 ∷ []) ∷ []
unfolding doc docs sources shards
shard_by_shard = refl

-- what the runs were when three documents were written
cut : cut_to (map length (runs_of shards sources (take 3 docs))) (runs_of shards sources docs) ≡ (doc 1 0 0 ∷ []) ∷ (doc 0 0 0 ∷ []) ∷ (doc 0 1 0 ∷ []) ∷ []
unfolding doc docs sources shards
cut = refl
