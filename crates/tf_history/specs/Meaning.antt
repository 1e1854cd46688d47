-- What a configuration says of documents, keys and rows. The laws of checkpoints know no more of it than this.
use Rattle.std.specs.Prelude.{ℕ, ℤ, Bool, List, Option}
use Rattle.tf_model.specs.declared.doc.Doc.{Doc}
use Rattle.tf_model.specs.declared.value.Value.{Value}
use Rattle.tf_model.specs.declared.value.Key.{Key}
use Rattle.tf_model.specs.declared.entry.Row.{Row}
use Rattle.tf_model.specs.declared.entry.Row.TheVariants.{Pivot, Latest}
use Rattle.tf_model.specs.declared.entry.SumRange.{SumRange}

-- what a row has beside its key
pub data Content : Type 0 where
  Values : List Value → Content  -- the values of a pivot's aggregations
  Named : ℕ → ℕ → ℕ → Content  -- a latest's document: its index, shard and sequence number

pub record Meaning : Type 0 where
  pub is_source : ℕ → Bool  -- whether the index with a number is a source
  pub matches : Doc → Bool  -- whether a document matches the query
  pub sync : Doc → Option ℤ  -- the date in the sync field
  pub keys : Doc → List Key  -- the keys of a document
  pub content : List Doc → Option Content  -- what is written for a key over the documents that have it, none where a sum is outside i64
  pub wide_sum : Key → List Doc → Option SumRange  -- the first such sum over the documents that have the key
  pub retained : List Doc → Row → Option ℤ  -- a row's retention value, among the documents written into the sources
  pub max_age : Option ℤ  -- how old a row may be, none without a retention policy
  pub is_batch : Bool
  pub frequency : ℤ  -- how long after a Begin the next one is looked for
  pub includes_late : Bool  -- whether late documents are read at the next checkpoint
  pub aligned : ℤ → ℤ  -- the moment less the delay, aligned
  pub page_size : ℕ  -- how many rows a Page may have

-- the row of a key with a content
abbrev pub row_from : Key → Content → Row
row_from k (Values values) = Pivot k values
row_from k (Named index shard seq) = Latest k index shard seq

abbrev pub row_key : Row → Key
row_key (Pivot key values) = key
row_key (Latest key index shard seq) = key
