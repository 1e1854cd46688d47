-- The sources of transforms.
use Rattle.std.specs.Prelude.{◌≡◌, ⊤, ℕ, nat_eq, Bool, false, List, [], ◌∷◌, map}
use Rattle.std.specs.List.{AllByRecursion, list_any}
use Rattle.std.specs.Str.{bytes_eq}
use Rattle.tf_model.specs.declared.doc.Doc.{Doc}
use Rattle.tf_model.specs.declared.query.Mapping.{Mapping}
use Rattle.tf_history.specs.Catalogue.{SourceIndex}

-- whether a document is in one of the indices with these numbers
abbrev pub is_among : List ℕ → Doc → Bool
is_among sources d = list_any (nat_eq d.index) sources

-- what a configuration sees of an index: its name and its mapping
abbrev pub named : SourceIndex → List ℕ × Mapping
named s = (s.name, s.mapping)

-- what a configuration sees of indices
abbrev pub catalogued : List SourceIndex → List (List ℕ × Mapping)
catalogued indices = map named indices

-- no index has the name of one before it
abbrev pub AreNamedOnce : List SourceIndex → Type 0
AreNamedOnce [] = ⊤
AreNamedOnce (s ∷ later) = AllByRecursion (λ (t : SourceIndex). bytes_eq t.name s.name ≡ false) later × AreNamedOnce later
