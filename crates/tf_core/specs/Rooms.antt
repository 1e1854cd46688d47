-- Room for what a step adds.
use Rattle.std.specs.Prelude.{◌≡◌, ◌<◌, ⊤, List, [], ◌∷◌, length, get_or, vec_len, vec_capacity}
use Rattle.std.specs.Global.{Vec}
use Rattle.tf_dest.specs.Tables.{HavePlaces, held_keys}
use Rattle.tf_history.specs.Catalogue.{SourceIndex}
use Rattle.tf_core.specs.declared.ready.Change.{Change}
use Rattle.tf_core.specs.declared.ready.Change.TheVariants as change
use Rattle.tf_core.specs.declared.ready.Step.{Step}
use Rattle.tf_core.specs.declared.ready.Step.TheVariants as step
use Rattle.tf_core.specs.declared.transform.Transform.{Transform}
use Rattle.tf_core.specs.Table.{place_in}

-- a place for each row of a Page
abbrev pub CanChange : Change → Transform → Type 0
CanChange (change.Page n rows position) t = HavePlaces t.rows.places (held_keys rows.items)
CanChange _ t = ⊤

-- room for what a step adds; the transform that it changes is there
abbrev pub CanStep : {D : Type 0} → Step → Vec SourceIndex → Vec D → Vec Transform → Type 0
CanStep (step.Index index) indices docs ts = vec_len indices < vec_capacity indices
CanStep (step.Write doc) indices docs ts = vec_len docs < vec_capacity docs
CanStep (step.Put t) indices docs ts = vec_len ts < vec_capacity ts
CanStep (step.Delete id) indices docs ts = ⊤
CanStep (step.Change id by) indices docs ts = (place_in id ts.items < length ts.items) × ((d : Transform) → CanChange by (get_or ts.items (place_in id ts.items) d))

-- a transform that differs by the places of its rows alone
pub record SameButRoom (old new : Transform) : Type 0 where
  pub same : new ≡ record old { rows = new.rows }
  pub held : new.rows.held ≡ old.rows.held

-- transforms that differ by the places of their rows alone
abbrev pub SameTables : List Transform → List Transform → Type 0
SameTables [] [] = ⊤
SameTables [] (u ∷ us) = ⊥
SameTables (t ∷ ts) [] = ⊥
SameTables (t ∷ ts) (u ∷ us) = SameButRoom t u × SameTables ts us
