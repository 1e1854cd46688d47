-- The source indices that a history makes, and the documents that its Writes write.
use Rattle.std.specs.Prelude.{ℕ, Bool, List, [], ◌∷◌, ◌++◌, slice_get, Option, Some, None, filter_map}
use Rattle.std.specs.List.{position}
use Rattle.std.specs.Str.{bytes_eq}
use Rattle.tf_model.specs.declared.doc.Doc.{Doc}
use Rattle.tf_model.specs.declared.tree.Tree.{Tree}
use Rattle.tf_model.specs.declared.value.Value.{Value}
use Rattle.tf_model.specs.declared.query.Mapping.{Mapping}
use Rattle.tf_model.specs.declared.entry.Entry.{Entry}
use Rattle.tf_model.specs.declared.entry.Kind.{Kind}
use Rattle.tf_model.specs.declared.entry.Kind.TheVariants as kind

-- a source index
pub record SourceIndex : Type 0 where
  pub name : List ℕ
  pub shards : ℕ  -- how many shards it has
  pub mapping : Mapping
  pub stamp : Option (List ℕ)  -- the date field that is set to each document's moment
  pub quick : Bool  -- whether its documents may be journalled after their reply

-- how the values of a document are read from its tree, by a mapping and the stamp's field
abbrev pub ValuesOf : Type 0
ValuesOf = Mapping → Option (List ℕ) → Tree → List (List ℕ × Value)

-- the index that an entry makes, none or one
abbrev pub makes : Kind → List SourceIndex
makes (kind.Index name shards mapping stamp quick) = record { name = name; shards = shards; mapping = mapping; stamp = stamp; quick = quick } ∷ []
makes _ = []

-- the indices in the order of creation, so that an index's number is its place from 0
abbrev pub catalogue : List Entry → List SourceIndex
catalogue [] = []
catalogue (e ∷ past) = catalogue past ++ makes e.kind

-- the number of the index with a name, none where it is not there
abbrev pub number_of : List ℕ → List SourceIndex → Option ℕ
number_of name indices = position (λ (s : SourceIndex). bytes_eq name s.name) indices

-- the numbers of the sources, in the order of the configuration
abbrev pub source_numbers : List SourceIndex → List (List ℕ) → List ℕ
source_numbers indices names = filter_map (λ name. number_of name indices) names

-- the values that an index reads from a tree, none where there is no such index
abbrev pub values_in : ValuesOf → Option SourceIndex → Tree → List (List ℕ × Value)
values_in values_of None tree = []
values_in values_of (Some s) tree = values_of s.mapping s.stamp tree

-- the document that a Write writes
abbrev pub written_doc : ValuesOf → List SourceIndex → ℕ → ℕ → ℕ → List ℕ → Tree → Doc
written_doc values_of indices index shard seq id tree =
    record { index = index; shard = shard; seq = seq; id = id; tree = tree; values = values_in values_of (slice_get indices index) tree }
