-- What a history leaves, as look-ups name it.
use Rattle.std.specs.Prelude.{ℕ, Bool, false, if◌then◌else◌, count_by, List, [], ◌∷◌, reverse, Option, Some, None}
use Rattle.std.specs.List.{find, position}
use Rattle.std.specs.Str.{bytes_eq}
use Rattle.tf_model.specs.declared.doc.Doc.{Doc}
use Rattle.tf_model.specs.declared.entry.Entry.{Entry}
use Rattle.tf_history.specs.Catalogue.{SourceIndex, catalogue}
use Rattle.tf_history.specs.LegalEntries.{has_id, is_in_shard}
use Rattle.tf_history.specs.Lives.{documents}
use Rattle.tf_history.specs.Transforms.{PutTransform, transforms}
use Rattle.tf_core.specs.declared.transform.Transform.{Transform}
use Rattle.tf_core.specs.Legal.{read}
use Rattle.tf_core.specs.Counts.{mentions}

-- the indices of a history, in the order of their numbers
abbrev pub indices_in : List Entry → List SourceIndex
indices_in history = catalogue (reverse history)

-- the documents of all indices, in the order of writing
abbrev pub docs_in : List Entry → List Doc
docs_in history = documents (read (reverse history))

-- the transforms, newest first
abbrev pub transforms_in : List Entry → List PutTransform
transforms_in history = transforms (reverse history)

-- whether a transform's destination has a name
abbrev pub is_into : List ℕ → PutTransform → Bool
is_into name p = bytes_eq name p.config.dest

-- the transform whose destination has a name
abbrev pub transform_into : List ℕ → List Entry → Option PutTransform
transform_into name history = find (is_into name) (transforms_in history)

abbrev pub into_at : List ℕ → List Transform → Option Transform
into_at name [] = None
into_at name (t ∷ ts) = if bytes_eq name t.config.dest then Some t else into_at name ts

-- the place of the document with an id in an index
abbrev pub document_place : ℕ → List ℕ → List Entry → Option ℕ
document_place index id history = position (has_id index id) (docs_in history)

abbrev pub some_has : (Doc → Bool) → Option Doc → Bool
some_has p None = false
some_has p (Some d) = p d

-- how many documents a shard of an index has
abbrev pub shard_count : ℕ → ℕ → List Entry → ℕ
shard_count index shard history = count_by (is_in_shard index shard) (docs_in history)

-- how many entries name a transform, over all its lives
abbrev pub mentions_in : List ℕ → List Entry → ℕ
mentions_in id history = mentions id (reverse history)
