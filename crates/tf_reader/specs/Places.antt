-- The documents of a reader, and their places.
use Rattle.std.specs.Prelude.{ℕ, ◌+◌, ◌<◌, ◌≤◌, ◌^◌, Bool, if◌then◌else◌, List, [], ◌∷◌, ◌++◌, length, Option, slice_get, All, IsSome}
use Rattle.std.specs.Option.{option_and_then}
use Rattle.std.specs.List.{flat_map}
use Rattle.tf_model.specs.declared.doc.Doc.{Doc}
use Rattle.tf_reader.specs.declared.place.Place.{Place}

-- the documents of the runs, one run after the other
abbrev pub documents : List (List Doc) → List Doc
documents runs = flat_map (λ run. run) runs

-- the document at a place, none where there is none
abbrev pub doc_at : List (List Doc) → Place → Option Doc
doc_at runs place = option_and_then (λ run. slice_get run place.doc) (slice_get runs place.run)

-- there is a document at the place
abbrev pub IsPlaceOf : List (List Doc) → Place → Type 0
IsPlaceOf runs place = IsSome (doc_at runs place)

-- the place with this number of a run and this place in it
abbrev pub place : ℕ → ℕ → Place
place run doc = record { run = run; doc = doc }

-- the place of a document, where it passes a test
abbrev pub place_if : Bool → ℕ → ℕ → List Place
place_if passes run at = if passes then place run at ∷ [] else []

-- the places of the documents that pass a test, in a run with this number of which these are the documents from a place on
abbrev pub places_in : (Doc → Bool) → ℕ → ℕ → List Doc → List Place
places_in test run at [] = []
places_in test run at (d ∷ ds) = place_if (test d) run at ++ places_in test run (at + 1) ds

-- the places of the documents that pass a test, in runs of which the first has this number
abbrev pub places_of : (Doc → Bool) → ℕ → List (List Doc) → List Place
places_of test number [] = []
places_of test number (run ∷ runs) = places_in test number 0 run ++ places_of test (number + 1) runs

-- so few that a run's number and a place in it fit in 32 bits, and at most 2^40 documents in all
abbrev pub IsShort : List (List Doc) → Type 0
IsShort runs = (length runs < 2 ^ 32) × All (λ run. length run < 2 ^ 32) runs × (length (documents runs) ≤ 2 ^ 40)
