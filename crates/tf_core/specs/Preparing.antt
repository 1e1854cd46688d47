-- What is prepared for entries.
use Rattle.std.specs.Prelude.{◌≡◌, ⊤, List, [], ◌∷◌, ◌++◌}
use Rattle.tf_model.specs.declared.entry.Entry.{Entry}
use Rattle.tf_history.specs.Catalogue.{SourceIndex, makes}
use Rattle.tf_core.specs.declared.ready.Prepared.{Prepared}
use Rattle.tf_core.specs.Chain.{AreSteps, PutsHave, entries_in}
use Rattle.tf_core.specs.Made.{IsFit}

-- each of the entries is fit to be prepared, where these indices are there before the first
abbrev pub AllFit : List SourceIndex → List Entry → Type 0
AllFit indices [] = ⊤
AllFit indices (e ∷ entries) = IsFit indices e.kind × AllFit (indices ++ makes e.kind) entries

-- entries that are prepared, where these indices are there before the first; each transform that is put has room for the
-- Pages behind it
pub record ArePrepared (indices : List SourceIndex) (entries : List Entry) (steps : List Prepared) : Type 0 where
  pub same : entries_in steps ≡ entries
  pub chain : AreSteps indices steps
  pub put_rows : PutsHave steps []
