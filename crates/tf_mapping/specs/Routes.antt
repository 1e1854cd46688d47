-- The shard of a document, by the bytes of its `_id`.
use Rattle.std.specs.Prelude.{ℕ, ◌+◌, ◌*◌, ◌%◌, ◌^◌, List}
use Rattle.std.specs.List.{fold}

-- one byte more
abbrev pub hash_step : ℕ → ℕ → ℕ
hash_step h byte = (h * 31 + byte) % 2 ^ 32

abbrev pub hash_of : List ℕ → ℕ
hash_of id = fold hash_step 0 id

-- the shard that a document goes to
unfoldable pub shard_of : List ℕ → ℕ → ℕ
shard_of id shards = hash_of id % shards
