-- Which entries of a history are legal: what the laws use of legality, and beside it the rules for moments, actors,
-- indices, documents, configurations and rows.
use Rattle.std.specs.Prelude.{◌≡◌, ℕ, ℤ, ◌<◌, ◌≤◌, ◌^◌, pos, negsuc, ⊤, Bool, true, false, not, ◌&&◌, ◌||◌, nat_eq, List, [], ◌∷◌, length, IsSomeAnd, IfSome, slice_get, count_by, map}
use Rattle.std.specs.List.{list_any, list_all, AllByRecursion}
use Rattle.std.specs.List.Sorted.{IsStrictlySortedBy}
use Rattle.std.specs.Cmp.Lexicographic.{slice_cmp}
use Rattle.std.specs.Ordering.{nat_cmp}
use Rattle.std.specs.Str.{bytes_eq}
use Rattle.tf_model.specs.declared.doc.Doc.{Doc}
use Rattle.tf_model.specs.declared.tree.Tree.{Tree}
use Rattle.tf_model.specs.declared.value.Value.{Value}
use Rattle.tf_model.specs.declared.value.Value.TheVariants as value
use Rattle.tf_model.specs.declared.value.Key.{Key}
use Rattle.tf_model.specs.declared.query.Mapping.{Mapping}
use Rattle.tf_model.specs.declared.query.FieldType.{FieldType}
use Rattle.tf_model.specs.declared.query.FieldType.TheVariants as field_type
use Rattle.tf_model.specs.declared.config.Config.{Config}
use Rattle.tf_model.specs.declared.config.Shape.{Shape}
use Rattle.tf_model.specs.declared.config.Shape.TheVariants as shape
use Rattle.tf_model.specs.declared.config.Group.{Group}
use Rattle.tf_model.specs.declared.config.Agg.{Agg}
use Rattle.tf_model.specs.declared.entry.Row.{Row}
use Rattle.tf_model.specs.declared.entry.Row.TheVariants as row
use Rattle.tf_model.specs.declared.entry.Entry.{Entry}
use Rattle.tf_model.specs.declared.entry.Kind.{Kind}
use Rattle.tf_model.specs.declared.entry.Kind.TheVariants as kind
use Rattle.tf_model.specs.Conditions.{IsBetween, IsSpan, IsDate}
use Rattle.tf_model.specs.Retention.{is_named}
use Rattle.tf_history.specs.Catalogue.{SourceIndex, ValuesOf, catalogue}
use Rattle.tf_history.specs.Transforms.{PutTransform, transforms, transform_of}
use Rattle.tf_history.specs.Lives.{life, documents, read_last}
use Rattle.tf_history.specs.Legality.{IsAllowed, IsNotBefore, IsLegal}
use Rattle.tf_history.specs.Reading.{deed_of, events}

-- what is said elsewhere of names, ids, configurations and documents
pub record Reading : Type 0 where
  pub values_of : ValuesOf  -- how the values of a document are read
  pub is_id : List ℕ → Bool  -- whether the id of a transform is well formed
  pub is_name : List ℕ → Bool  -- whether the name of an index or a destination is well formed
  pub is_field : List ℕ → Bool  -- whether the path of a field is well formed
  pub shard_of : List ℕ → ℕ → ℕ  -- the shard of a document's id among so many
  pub is_config : List SourceIndex → Config → Bool  -- whether a configuration passes its checks over these indices
  pub is_read : SourceIndex → ℤ → Tree → Bool  -- whether a tree written at a moment is an object that the index reads

-- whether a name is in use neither by an index nor by a destination
abbrev pub is_free : List ℕ → List Entry → Bool
is_free name past =
    not (list_any (λ (s : SourceIndex). bytes_eq name s.name) (catalogue past) || list_any (λ (p : PutTransform). bytes_eq name p.config.dest) (transforms past))

-- ---- an index
abbrev pub is_date : FieldType → Bool
is_date field_type.Date = true
is_date _ = false

-- whether a mapping has a date field with a name
abbrev pub has_date : Mapping → List ℕ → Bool
has_date mapping field = list_any (λ (f : List ℕ × FieldType). bytes_eq field f.0 && is_date f.1) mapping.fields

pub record MayIndex (reading : Reading) (past : List Entry) (s : SourceIndex) : Type 0 where
  pub well_formed : reading.is_name s.name ≡ true
  pub free : is_free s.name past ≡ true
  pub few : length (catalogue past) < 64
  pub shards : (1 ≤ s.shards) × (s.shards ≤ 16)
  pub fields : length s.mapping.fields ≤ 64
  pub field_names : list_all (λ (f : List ℕ × FieldType). reading.is_field f.0) s.mapping.fields ≡ true
  pub ascending : IsStrictlySortedBy (slice_cmp nat_cmp) (map (λ (f : List ℕ × FieldType). f.0) s.mapping.fields)
  pub stamp : IfSome s.stamp (λ field. has_date s.mapping field ≡ true)
  pub slow : s.quick ≡ false

-- ---- a document
abbrev pub is_in_shard : ℕ → ℕ → Doc → Bool
is_in_shard index shard d = nat_eq index d.index && nat_eq shard d.shard

abbrev pub has_id : ℕ → List ℕ → Doc → Bool
has_id index id d = nat_eq index d.index && bytes_eq id d.id

-- a document that an index takes at a moment; docs are all documents written
pub record MayWrite (reading : Reading) (docs : List Doc) (moment : ℤ) (s : SourceIndex) (index shard seq : ℕ) (id : List ℕ) (tree : Tree) : Type 0 where
  pub routed : shard ≡ reading.shard_of id s.shards
  pub next : seq ≡ count_by (is_in_shard index shard) docs
  pub room : seq < 2 ^ 31
  pub id_size : (1 ≤ length id) × (length id ≤ 512)
  pub id_new : list_any (has_id index id) docs ≡ false
  pub read : reading.is_read s moment tree ≡ true

-- ---- a transform
pub record MayPut (reading : Reading) (past : List Entry) (id : List ℕ) (config : Config) : Type 0 where
  pub well_formed : reading.is_id id ≡ true
  pub few : length (transforms past) < 64
  pub checked : reading.is_config (catalogue past) config ≡ true
  pub dest_free : is_free config.dest past ≡ true

-- ---- rows
-- a part of a key: a date is in range
abbrev pub IsPart : Value → Type 0
IsPart (value.Date ms) = IsDate ms
IsPart _ = ⊤

-- a value of a pivot's row: nothing, a truth value, a date in range or a number in i64
abbrev pub IsRowValue : Value → Type 0
IsRowValue value.Null = ⊤
IsRowValue (value.Bool b) = ⊤
IsRowValue (value.Date ms) = IsDate ms
IsRowValue (value.Int n) = IsBetween (negsuc 9223372036854775807) (pos 9223372036854775807) n
IsRowValue (value.Str text) = ⊥

pub record IsPivotRow (groups : List Group) (aggs : List Agg) (k : Key) (values : List Value) : Type 0 where
  pub parts : length k.parts ≡ length groups
  pub part_dates : AllByRecursion IsPart k.parts
  pub values_are : length values ≡ length aggs
  pub fits : AllByRecursion IsRowValue values

pub record IsLatestRow (docs : List Doc) (k : Key) (index shard seq : ℕ) : Type 0 where
  pub part_dates : AllByRecursion IsPart k.parts
  pub names : list_any (is_named index shard seq) docs ≡ true

-- a row of a shape, where docs are the documents that the checkpoint's reader sees
abbrev pub IsRowOf : Shape → List Doc → Row → Type 0
IsRowOf (shape.Pivot groups aggs) docs (row.Pivot k values) = IsPivotRow groups aggs k values
IsRowOf (shape.Latest unique_key sort) docs (row.Latest k index shard seq) = IsLatestRow docs k index shard seq
IsRowOf _ docs _ = ⊥

-- ---- entries
-- what is asked of a kind of entry beside the states of transforms
abbrev pub FitsKind : Reading → List Entry → ℤ → Kind → Type 0
FitsKind reading past moment (kind.Index name shards mapping stamp quick) =
    MayIndex reading past (record { name = name; shards = shards; mapping = mapping; stamp = stamp; quick = quick })
FitsKind reading past moment (kind.Write index shard seq id tree) =
    IsSomeAnd (slice_get (catalogue past) index) (λ s. MayWrite reading (documents (events reading.values_of past)) moment s index shard seq id tree)
FitsKind reading past moment (kind.Put id config) = MayPut reading past id config
FitsKind reading past moment (kind.Page id n rows) =
    IsSomeAnd (transform_of id past) (λ p. IsSomeAnd (life id (events reading.values_of past)) (λ l. AllByRecursion (IsRowOf p.config.shape (read_last l.checkpoints)) rows))
FitsKind reading past moment _ = ⊤

-- a legal entry after a past
pub record IsLegalEntry (reading : Reading) (past : List Entry) (e : Entry) : Type 0 where
  pub moment : IsSpan e.at_ms
  pub later : IsNotBefore e.at_ms (events reading.values_of past)
  pub actor : e.actor ≤ 15
  pub fits : FitsKind reading past e.at_ms e.kind
  pub allowed : IsAllowed e.at_ms (deed_of reading.values_of (catalogue past) e.kind) (events reading.values_of past)

-- a past in which each entry is legal after those before it
abbrev pub IsLegalPast : Reading → List Entry → Type 0
IsLegalPast reading [] = ⊤
IsLegalPast reading (e ∷ past) = IsLegalPast reading past × IsLegalEntry reading past e

-- legal entries are legal events, so the laws of checkpoints hold of them
abbrev pub LegalEntriesAreLegal : Type 0
LegalEntriesAreLegal = (reading : Reading) (past : List Entry) → IsLegalPast reading past → IsLegal (events reading.values_of past)
