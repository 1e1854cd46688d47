-- How far the first documents are behind the windows of a transform.
use Rattle.std.specs.Prelude.{◌≡◌, ℕ, ℤ, ◌≤◌, ◌≤ℤ◌, ◌+◌, ⊤, Bool, true, not, List, drop, filter, take, Option, Some, None}
use Rattle.std.specs.List.{AllByRecursion, prefix_len}
use Rattle.tf_model.specs.declared.config.Config.{Config}
use Rattle.tf_model.specs.declared.doc.Doc.{Doc}
use Rattle.tf_model.specs.Counted.{is_in_window}
use Rattle.tf_core.specs.declared.transform.Transform.{Transform}
use Rattle.tf_core.specs.Sources.{is_among}

-- a bound is not below the one before it; none is below every other
abbrev pub IsRisen : Option ℤ → Option ℤ → Type 0
IsRisen None bound = ⊤
IsRisen (Some low) None = ⊥
IsRisen (Some low) (Some bound) = low ≤ℤ bound

-- whether a document is in no window that begins at a bound, or later
abbrev pub is_passed : Config → Option ℤ → Doc → Bool
is_passed c low d = not (is_in_window c low None d)

abbrev pub IsPassed : Config → Option ℤ → Doc → Type 0
IsPassed c low d = is_passed c low d ≡ true

-- The first documents are in no window that begins at the low bound of the newest checkpoint, or later. It reads them, and its
-- own bound is not below its low one.
pub record IsMarked (c : Config) (low bound : Option ℤ) (read mark : ℕ) (docs : List Doc) : Type 0 where
  pub risen : IsRisen low bound
  pub behind : mark ≤ read
  pub passed : AllByRecursion (IsPassed c low) (take mark docs)

-- the mark of a transform, where these are all documents
abbrev pub HasMark : Transform → List Doc → Type 0
HasMark t docs = IsMarked t.config t.low t.bound t.read t.passed docs

-- the documents of the newest checkpoint that its mark has not passed
abbrev pub unpassed : Transform → List Doc → List Doc
unpassed t docs = filter (is_among t.sources) (drop t.passed (take t.read docs))

-- a transform whose mark has passed the next documents that are in no window
abbrev pub marked : List Doc → Transform → Transform
marked docs t = record t { passed = t.passed + prefix_len (is_passed t.config t.low) (drop t.passed (take t.read docs)) }
