-- Documents in segments and a tail.
use Rattle.std.specs.Prelude.{◌≡◌, ℕ, List, ◌++◌, length, map}
use Rattle.std.specs.Arc.{arc_value}
use Rattle.std.specs.List.{flat_map}
use Rattle.std.specs.declared.sync.Arc.{Arc}
use Rattle.std.specs.declared.alloc.Global.{Global}
use Rattle.tf_model.specs.declared.doc.Doc.{Doc}

-- what is shared, as it is
abbrev pub shared : {A : Type 0} → List (Arc A Global) → List A
shared items = map (λ item. arc_value item) items

-- how many documents a segment has
abbrev pub segment_len : ℕ
segment_len = 1024

-- a segment with all its documents
abbrev pub IsFull : List Doc → Type 0
IsFull segment = length segment ≡ segment_len

-- the documents of segments, one segment after the other, and then those of a tail
abbrev pub all_of : List (List Doc) → List Doc → List Doc
all_of segments tail = flat_map (λ segment. segment) segments ++ tail
