-- What a past has whose entries are of the forms that are built: indices, their documents, and pivots over them.
use Rattle.std.specs.Prelude.{◌≡◌, ◌≤◌, true, List, length, slice_get, IsSomeAnd}
use Rattle.std.specs.List.{AllByRecursion}
use Rattle.tf_model.specs.declared.doc.Doc.{Doc}
use Rattle.tf_config.specs.Refusals.{passes}
use Rattle.tf_history.specs.Catalogue.{SourceIndex, source_numbers}
use Rattle.tf_history.specs.Transforms.{PutTransform}
use Rattle.tf_mapping.specs.Documents.{values_of}
use Rattle.tf_mapping.specs.Mappings.{IsMapping, IsStampOf}
use Rattle.tf_core.specs.Built.{is_built_config}
use Rattle.tf_core.specs.Sources.{AreNamedOnce, catalogued}

-- a document of an index that is there, with the values that the index reads from its tree
abbrev pub IsBuiltDoc : List SourceIndex → Doc → Type 0
IsBuiltDoc indices d = IsSomeAnd (slice_get indices d.index) (λ i. d.values ≡ values_of i.mapping i.stamp d.tree)

-- a pivot that passes its checks over indices that are there
pub record IsBuiltPut (indices : List SourceIndex) (p : PutTransform) : Type 0 where
  pub sources : p.sources ≡ source_numbers indices p.config.sources
  pub form : is_built_config p.config ≡ true
  pub checked : passes (catalogued indices) p.config ≡ true

-- an index with a shard at least
abbrev pub HasShard : SourceIndex → Type 0
HasShard s = 1 ≤ s.shards

-- the same, and a mapping of which the stamp is a date
pub record IsBuiltIndex (s : SourceIndex) : Type 0 where
  pub some_shard : HasShard s
  pub mapping : IsMapping s.mapping
  pub stamp : IsStampOf s.mapping s.stamp

pub record IsBuiltPast (indices : List SourceIndex) (docs : List Doc) (puts : List PutTransform) : Type 0 where
  pub few_indices : length indices ≤ 64
  pub named_once : AreNamedOnce indices
  pub each_index : AllByRecursion IsBuiltIndex indices
  pub each_doc : AllByRecursion (IsBuiltDoc indices) docs
  pub few_puts : length puts ≤ 64
  pub each_put : AllByRecursion (IsBuiltPut indices) puts
