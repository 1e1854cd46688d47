-- The value of a field by what the code finds.
use Rattle.std.proofs.Common.{◌≡◌, ℕ, List, [], ◌∷◌, sym, ap, ◌∙◌, refl}
use Rattle.std.specs.List.{fold}
use Rattle.tf_model.specs.declared.tree.Tree.{Tree}
use Rattle.tf_model.specs.declared.query.FieldType.{FieldType}
use Rattle.tf_mapping.specs.Scalars.{nothing, many, with_one, seen_in, inside, found_in}
use Rattle.tf_mapping.specs.Findings.{seen_more}
use Rattle.tf_mapping.specs.Documents.{value_from, value_in}
use Rattle.tf_mapping.proofs.ScalarLaws.{scalars_found}

stays_many : (trees : List Tree) → fold with_one many trees ≡ many
stays_many [] = refl
stays_many (t ∷ trees) = stays_many trees

counted : (trees : List Tree) → fold with_one nothing trees ≡ seen_in trees
counted [] = refl
counted (t ∷ []) = refl
counted (t ∷ other ∷ more) = stays_many more

pub found_value : (field : List ℕ) (kind : FieldType) (t : Tree) → value_from kind field (seen_more nothing t (inside field)) ≡ value_in t (field, kind)
found_value field kind t = ap (value_from kind field) (counted (found_in t (inside field)) ∙ ap seen_in (sym (scalars_found field t)))
