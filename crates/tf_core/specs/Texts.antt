-- The values of documents and of rows, and the texts among them.
use Rattle.std.specs.Prelude.{◌≡◌, ℕ, negsuc, pos, ⊤, ◌≤◌, ◌<◌, ◌^◌, List, length, Some, IsUtf8}
use Rattle.std.specs.List.{AllByRecursion}
use Rattle.tf_model.specs.declared.config.Agg.{Agg}
use Rattle.tf_model.specs.declared.config.Config.{Config}
use Rattle.tf_model.specs.declared.doc.Doc.{Doc}
use Rattle.tf_model.specs.declared.entry.Kind.{Kind}
use Rattle.tf_model.specs.declared.entry.Kind.TheVariants as kind
use Rattle.tf_model.specs.declared.entry.Row.{Row}
use Rattle.tf_model.specs.declared.entry.Row.TheVariants as row
use Rattle.tf_model.specs.declared.value.Key.{Key}
use Rattle.tf_model.specs.declared.value.Value.{Value}
use Rattle.tf_model.specs.declared.value.Value.TheVariants as value
use Rattle.tf_model.specs.Conditions.{IsBetween, IsDate}
use Rattle.tf_model.specs.Keys.{groups_of}
use Rattle.tf_model.specs.Rows.{aggs_of}
use Rattle.tf_model.specs.Values.{value_of}
use Rattle.tf_history.specs.LegalEntries.{IsRowValue}
use Rattle.tf_history.specs.Transforms.{PutTransform}

-- P is known of each text that is a value of a document
abbrev pub HasTexts : (List ℕ → Type 0) → Doc → Type 0
HasTexts P d = (field u : List ℕ) → value_of d field ≡ Some (value.Str u) → P u

-- a value of a type: a number in i64, a date in range, or a text of which P is known
abbrev pub IsValueOf : (List ℕ → Type 0) → Value → Type 0
IsValueOf P (value.Int n) = IsBetween (negsuc 9223372036854775807) (pos 9223372036854775807) n
IsValueOf P (value.Date ms) = IsDate ms
IsValueOf P (value.Str u) = P u
IsValueOf P _ = ⊤

-- each value of a document is such a value
abbrev pub HasValues : (List ℕ → Type 0) → Doc → Type 0
HasValues P d = (field : List ℕ) (v : Value) → value_of d field ≡ Some v → IsValueOf P v

-- a part of a key: a date in range, a number that a group makes of one in i64, or a text of which P is known
abbrev pub IsPartOf : (List ℕ → Type 0) → Value → Type 0
IsPartOf P (value.Int n) = IsBetween (negsuc 18446744073709551615) (pos 9223372036854775807) n
IsPartOf P (value.Date ms) = IsDate ms
IsPartOf P (value.Str u) = P u
IsPartOf P _ = ⊤

-- a key with so many parts
abbrev pub IsKeyOf : (List ℕ → Type 0) → ℕ → Key → Type 0
IsKeyOf P count k = (length k.parts ≡ count) × AllByRecursion (IsPartOf P) k.parts

-- a pivot's row with so many parts and values
abbrev pub IsRowWith : (List ℕ → Type 0) → ℕ → ℕ → Row → Type 0
IsRowWith P parts aggs (row.Pivot k values) = IsKeyOf P parts k × (length values ≡ aggs) × AllByRecursion IsRowValue values
IsRowWith P parts aggs (row.Latest k index shard seq) = ⊥

-- a row of a configuration
abbrev pub IsRowFor : (List ℕ → Type 0) → Config → Row → Type 0
IsRowFor P c = IsRowWith P (length (groups_of c.shape)) (length (aggs_of c.shape))

-- a text whose length fits four bytes
abbrev pub IsShort : List ℕ → Type 0
IsShort text = (length text < 2 ^ 32) × IsUtf8 text

-- a configuration whose groups and aggregations can be counted in four bytes, with short names of aggregations
pub record IsShortConfig (c : Config) : Type 0 where
  pub groups : length (groups_of c.shape) < 2 ^ 32
  pub aggs : length (aggs_of c.shape) < 2 ^ 32
  pub names : AllByRecursion (λ (a : Agg). IsShort a.name) (aggs_of c.shape)

abbrev pub IsShortPut : PutTransform → Type 0
IsShortPut p = IsShortConfig p.config

-- a row of short texts, whose parts and values can be counted in four bytes
abbrev pub IsShortRow : Row → Type 0
IsShortRow (row.Pivot k values) = (length k.parts < 2 ^ 32) × AllByRecursion (IsPartOf IsShort) k.parts × (length values < 2 ^ 32) × AllByRecursion IsRowValue values
IsShortRow (row.Latest k index shard seq) = ⊥

-- at most 65,536 rows of such texts, where an entry has rows; where it tells a sum, short texts and 128 bits
abbrev pub IsShortKind : Kind → Type 0
IsShortKind (kind.Page id n rows) = (length rows ≤ 65536) × AllByRecursion IsShortRow rows
IsShortKind (kind.Fail id n k name value) =
    (length k.parts < 2 ^ 32) × AllByRecursion (IsPartOf IsShort) k.parts × IsShort name
    × IsBetween (negsuc 170141183460469231731687303715884105727) (pos 170141183460469231731687303715884105727) value
IsShortKind _ = ⊤
