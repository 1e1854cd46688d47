-- The transforms that are there, newest first, and whose lives they stand for.
use Rattle.std.specs.Prelude.{ℕ, ◌+◌, ⊤, Bool, not, if◌then◌else◌, List, [], ◌∷◌, Option, Some, None}
use Rattle.tf_model.specs.declared.doc.Doc.{Doc}
use Rattle.tf_model.specs.declared.entry.Entry.{Entry}
use Rattle.tf_history.specs.Lives.{Life, life, is_same}
use Rattle.tf_core.specs.declared.transform.Transform.{Transform}
use Rattle.tf_core.specs.Legal.{read}
use Rattle.tf_core.specs.Summary.{IsSummary}

-- the place of an id, or the length
abbrev pub place_in : List ℕ → List Transform → ℕ
place_in id [] = 0
place_in id (t ∷ ts) = if is_same id t.id then 0 else place_in id ts + 1

-- of another id
abbrev pub is_other : List ℕ → Transform → Bool
is_other id t = not (is_same id t.id)

abbrev pub transform_at : List ℕ → List Transform → Option Transform
transform_at id [] = None
transform_at id (t ∷ ts) = if is_same id t.id then Some t else transform_at id ts

abbrev pub Tells : List Doc → Option Transform → Option Life → Type 0
Tells docs None None = ⊤
Tells docs None (Some l) = ⊥
Tells docs (Some t) None = ⊥
Tells docs (Some t) (Some l) = IsSummary docs t l

-- each id's transform is a summary of its life
abbrev pub Lives : List Doc → List Transform → List Entry → Type 0
Lives docs ts past = (id : List ℕ) → Tells docs (transform_at id ts) (life id (read past))
