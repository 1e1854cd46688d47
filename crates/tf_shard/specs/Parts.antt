-- What stands in a shard.
use Rattle.std.specs.Prelude.{◌≡◌, ℕ, ◌+◌, ◌≤◌, List, length, All, take, drop, vec_len, vec_capacity}
use Rattle.tf_model.specs.declared.doc.Doc.{Doc}
use Rattle.tf_segment.specs.Segments.{IsFull, all_of, shared}
use Rattle.tf_shard.specs.Created.{most}
use Rattle.tf_shard.specs.Ids.{ids_of}
use Rattle.tf_shard.specs.declared.parts.Parts.{Parts}

-- the documents
abbrev pub docs_of : Parts → List Doc
docs_of parts = all_of (shared parts.segments.items) (shared parts.tail.items)

-- the ids that are entered ahead of their documents
abbrev pub spare_of : Parts → List (List ℕ)
spare_of parts = drop parts.count parts.ids.keys

-- the ids of the documents are entered in their order, and the tail has room for those that are entered ahead
pub record IsWhole (parts : Parts) : Type 0 where
  pub entered : take parts.count parts.ids.keys ≡ ids_of (docs_of parts)
  pub counted : parts.count ≡ length (docs_of parts)
  pub few : parts.count ≤ most
  pub full : All IsFull (shared parts.segments.items)
  pub room : length parts.ids.keys + vec_len parts.tail ≤ parts.count + vec_capacity parts.tail

-- the same documents, as many of them counted
pub record HasTheSame (old new : Parts) : Type 0 where
  pub docs : docs_of new ≡ docs_of old
  pub count : new.count ≡ old.count
