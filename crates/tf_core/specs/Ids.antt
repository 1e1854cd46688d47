-- Where documents stand, by their indices and ids.
use Rattle.std.specs.Prelude.{◌≡◌, ℕ, ⊤, false, ◌&&◌, if◌then◌else◌, nat_eq, slice_get, List, [], ◌∷◌, ◌++◌, Option, Some}
use Rattle.std.specs.Arc.{arc_value}
use Rattle.std.specs.BTreeMap.{BTreeMap, get}
use Rattle.std.specs.Cmp.Lexicographic.{slice_cmp}
use Rattle.std.specs.List.{list_any}
use Rattle.std.specs.Option.{option_and_then}
use Rattle.std.specs.Ordering.{nat_cmp}
use Rattle.std.specs.Str.{bytes_eq}
use Rattle.tf_model.specs.declared.doc.Doc.{Doc}
use Rattle.tf_history.specs.LegalEntries.{has_id}
use Rattle.tf_core.specs.declared.ids.Ids.{Ids}
use Rattle.tf_core.specs.declared.ready.Prepared.{Prepared}
use Rattle.tf_core.specs.declared.ready.Step.{Step}
use Rattle.tf_core.specs.declared.ready.Step.TheVariants as step
use Rattle.tf_core.specs.Steps.{docs_of}

-- the place that is entered for an id of an index, none where nothing is
abbrev pub place_among : List (BTreeMap (List ℕ) ℕ) → ℕ → List ℕ → Option ℕ
place_among maps index id = option_and_then (λ m. get (slice_cmp nat_cmp) m id) (slice_get maps index)

abbrev pub place_at : Ids → ℕ → List ℕ → Option ℕ
place_at ids = place_among ids.maps.items

-- maps with the same places
abbrev pub SameMaps : List (BTreeMap (List ℕ) ℕ) → List (BTreeMap (List ℕ) ℕ) → Type 0
SameMaps old new = (i : ℕ) (name : List ℕ) → place_among new i name ≡ place_among old i name

-- the same places
abbrev pub SamePlaces : Ids → Ids → Type 0
SamePlaces old new = (i : ℕ) (name : List ℕ) → place_at new i name ≡ place_at old i name

-- a place more
abbrev pub EntersAt : ℕ → List ℕ → ℕ → Ids → Ids → Type 0
EntersAt index id place old new = (i : ℕ) (name : List ℕ) → place_at new i name ≡ (if nat_eq index i && bytes_eq id name then Some place else place_at old i name)

-- the place of the document that a step adds, where it adds one
abbrev pub Enters : Step → ℕ → Ids → Ids → Type 0
Enters (step.Write doc) place old new = EntersAt (arc_value doc).index (arc_value doc).id place old new
Enters _ place old new = SamePlaces old new

-- each of the documents has its place
abbrev pub AreIndexed : Ids → List Doc → Type 0
AreIndexed ids docs = (place : ℕ) (d : Doc) → slice_get docs place ≡ Some d → place_at ids d.index d.id ≡ Some place

-- the documents that steps add
abbrev pub all_docs : List Prepared → List Doc
all_docs [] = []
all_docs (p ∷ steps) = docs_of p.step ++ all_docs steps

-- a step adds no document with the index and the id of one that is there
abbrev pub IsNew : List Doc → Step → Type 0
IsNew docs (step.Write doc) = list_any (has_id (arc_value doc).index (arc_value doc).id) docs ≡ false
IsNew docs _ = ⊤

abbrev pub AreNew : List Doc → List Prepared → Type 0
AreNew docs [] = ⊤
AreNew docs (p ∷ steps) = IsNew docs p.step × AreNew (docs ++ docs_of p.step) steps
