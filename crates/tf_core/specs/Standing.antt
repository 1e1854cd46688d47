-- How a core stands for its history.
use Rattle.std.specs.Prelude.{◌≡◌, ◌++◌, ◌∷◌, List, [], length, map, IfSome, Option, vec_capacity, ◌≤◌}
use Rattle.std.specs.Arc.{arc_value}
use Rattle.std.specs.List.{AllByRecursion}
use Rattle.std.specs.Global.{Vec}
use Rattle.std.specs.declared.sync.Arc.{Arc}
use Rattle.std.specs.declared.alloc.Global.{Global}
use Rattle.tf_model.specs.declared.doc.Doc.{Doc}
use Rattle.tf_model.specs.declared.entry.Entry.{Entry}
use Rattle.tf_history.specs.Catalogue.{SourceIndex, catalogue}
use Rattle.tf_history.specs.Lives.{documents}
use Rattle.tf_history.specs.Transforms.{transforms}
use Rattle.tf_core.specs.declared.kept.Kept.{Kept}
use Rattle.tf_core.specs.declared.ready.Prepared.{Prepared}
use Rattle.tf_core.specs.declared.transform.Transform.{Transform}
use Rattle.tf_core.specs.Chain.{AreSteps, Batch, HasRoom, entries_in}
use Rattle.tf_core.specs.declared.counts.Counts.{Counts}
use Rattle.tf_core.specs.declared.ids.Ids.{Ids}
use Rattle.tf_core.specs.Counts.{AreCounted, AreMentioned, HaveCounts}
use Rattle.tf_core.specs.Ids.{AreIndexed, all_docs}
use Rattle.tf_core.specs.Kept.{past_in}
use Rattle.tf_core.specs.Legal.{AreTaken, IsTakenPast, read}
use Rattle.tf_core.specs.Steps.{Stepped, added, docs_of}
use Rattle.tf_core.specs.Summary.{IsFew, put_of}
use Rattle.tf_core.specs.Table.{Lives}

-- These indices, documents (both in the order of the history) and transforms (newest first) are what a past leaves, and
-- each entry of the past was taken after those before it.
pub record Stands (past : List Entry) (indices : List SourceIndex) (docs : List Doc) (ts : List Transform) : Type 0 where
  pub taken : IsTakenPast past
  pub indices_are : catalogue past ≡ indices
  pub docs_are : documents (read past) ≡ docs
  pub transforms_are : transforms past ≡ map put_of ts
  pub lives : Lives docs ts past
  pub few : AllByRecursion (IsFew (length past)) ts

-- shared documents, as they are
abbrev pub shared : List (Arc Doc Global) → List Doc
shared docs = map (λ doc. arc_value doc) docs

-- entries that can be applied one after the other with no more memory
pub record IsReady (entries : Vec Kept) (indices : Vec SourceIndex) (docs : Vec (Arc Doc Global)) (ts : Vec Transform) (steps : List Prepared) : Type 0 where
  pub taken : AreTaken (past_in entries.items) (entries_in steps)
  pub chain : AreSteps indices.items steps
  pub room : HasRoom steps entries indices docs ts

-- ready, and the documents that are to come have their places, and their shards and transforms counts
pub record IsReadyWith (ids : Ids) (counts : Counts) (entries : Vec Kept) (indices : Vec SourceIndex) (docs : Vec (Arc Doc Global)) (ts : Vec Transform) (b : Batch) : Type 0 where
  pub ready : IsReady entries indices docs ts b.steps
  pub indexed : AreIndexed ids (shared docs.items ++ all_docs b.steps)
  pub counted : HaveCounts counts b.steps

pub record IsCore (ids : Ids) (counts : Counts) (entries : Vec Kept) (indices : Vec SourceIndex) (docs : Vec (Arc Doc Global)) (ts : Vec Transform) (ready : Option Batch) : Type 0 where
  pub stands : Stands (past_in entries.items) indices.items (shared docs.items) ts.items
  pub indexed : AreIndexed ids (shared docs.items)
  pub counted : AreCounted counts (shared docs.items)
  pub mentioned : AreMentioned counts (past_in entries.items)
  pub prepared : IfSome ready (IsReadyWith ids counts entries indices docs ts)

-- what applying a prepared entry does: it is kept, and its step is made
pub record Applied (p : Prepared) (es es' : Vec Kept) (ss ss' : Vec SourceIndex) (ds ds' : Vec (Arc Doc Global)) (ts ts' : Vec Transform) : Type 0 where
  pub entries : es'.items ≡ es.items ++ p.kept ∷ []
  pub entry_room : vec_capacity es ≤ vec_capacity es'
  pub indices : ss'.items ≡ ss.items ++ added p.step
  pub index_room : vec_capacity ss ≤ vec_capacity ss'
  pub docs : shared ds'.items ≡ shared ds.items ++ docs_of p.step
  pub doc_room : vec_capacity ds ≤ vec_capacity ds'
  pub transforms : Stepped (length ds.items) p.step ts.items ts'.items
  pub transform_room : vec_capacity ts ≤ vec_capacity ts'
