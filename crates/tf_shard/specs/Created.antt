-- What a shard answers to a document.
use Rattle.std.specs.Prelude.{◌≡◌, ℕ, ◌<◌, ◌≤◌, ◌^◌, Bool, false, if◌then◌else◌, List, [], ◌∷◌, ◌++◌, length, Some, None}
use Rattle.std.specs.declared.result.Result.{Result}
use Rattle.std.specs.declared.result.Result.TheVariants.{Ok, Err}
use Rattle.tf_model.specs.declared.doc.Doc.{Doc}
use Rattle.tf_shard.specs.Ids.{number_of, same_id}
use Rattle.tf_shard.specs.declared.error.ShardError.{ShardError}
use Rattle.tf_shard.specs.declared.error.ShardError.TheVariants as error

-- how many documents a shard has at most
abbrev pub most : ℕ
most = 2 ^ 31

-- the answer to a document, and the documents after it
abbrev pub IsCreated : List Doc → Doc → List Doc → Result ℕ ShardError → Type 0
IsCreated old d new (Ok seq) = (number_of d.id old ≡ None) × (length old < most) × (seq ≡ length old) × (new ≡ old ++ d ∷ [])
IsCreated old d new (Err (error.VersionConflict seq)) = (number_of d.id old ≡ Some seq) × (new ≡ old)
IsCreated old d new (Err error.Full) = (number_of d.id old ≡ None) × (most ≤ length old) × (new ≡ old)
IsCreated old d new (Err error.Memory) = (number_of d.id old ≡ None) × (length old < most) × (new ≡ old)

-- whether an id is the next for which there is room
abbrev pub is_next : List ℕ → List (List ℕ) → Bool
is_next id [] = false
is_next id (next ∷ rest) = same_id next id

-- the ids for which there is room once a document with this id has come: those behind it, none where it was not the next
abbrev pub left_after : List ℕ → List (List ℕ) → List (List ℕ)
left_after id [] = []
left_after id (next ∷ rest) = if same_id next id then rest else []
