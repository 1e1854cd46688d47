-- The ids of documents.
use Rattle.std.specs.Prelude.{◌≡◌, ℕ, Bool, nat_eq, List, map, All, Option, None, position}
use Rattle.std.specs.Cmp.Lexicographic.{pointwise}
use Rattle.std.specs.List.{IsDistinct}
use Rattle.tf_model.specs.declared.doc.Doc.{Doc}

-- the ids of documents, in their order
abbrev pub ids_of : List Doc → List (List ℕ)
ids_of docs = map (λ d. d.id) docs

-- whether two ids are the same
abbrev pub same_id : List ℕ → List ℕ → Bool
same_id = pointwise nat_eq

-- the number of the document with an id, none where there is none
abbrev pub number_of : List ℕ → List Doc → Option ℕ
number_of id docs = position (same_id id) (ids_of docs)

-- ids that differ, and that no document has
pub record AreNew (docs : List Doc) (ids : List (List ℕ)) : Type 0 where
  pub differ : IsDistinct same_id ids
  pub free : All (λ id. number_of id docs ≡ None) ids
