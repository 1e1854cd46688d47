-- What contracts see of a shard.
use Rattle.std.specs.Prelude.{ℕ, List, refl}
use Rattle.std.specs.Coded.{Coded, code_by, coded×, coded_list, coded_ℕ}
use Rattle.tf_model.specs.contracts.doc.Doc as doc
use Rattle.tf_model.specs.declared.doc.Doc.{Doc}

-- its documents in the order of writing, and the ids for which there is room, in the order in which they are to come
pub record Seen : Type 0 where
  pub docs : List Doc
  pub spare : List (List ℕ)

abbrev pub seen_code : Coded Seen
seen_code =
    code_by (List Doc × List (List ℕ)) (coded× (coded_list doc.the_row.coded) (coded_list (coded_list coded_ℕ)))
    (λ s. (s.docs, s.spare)) (λ p. record { docs = p.0; spare = p.1 }) (λ _. refl)
