-- What sources map, source by source.
use Rattle.std.proofs.Common.{◌≡◌, ℕ, true, false, ◌&&◌, List, [], ◌∷◌, Some, None, refl, sym, ap, ◌∙◌}
use Rattle.std.specs.Prelude.{not, is_none}
use Rattle.std.specs.List.{list_all}
use Rattle.tf_model.specs.declared.query.FieldType.{FieldType}
use Rattle.tf_model.specs.declared.query.FieldType.TheVariants.{Keyword, Long, Boolean, Date}
use Rattle.tf_model.specs.declared.query.Mapping.{Mapping}
use Rattle.tf_config.specs.Catalogue.{types_in, first, type_in}
use Rattle.tf_config.specs.Checks.{is_empty, is_same_type, differ, is_unmapped, is_mixed}

none_found : (types : List FieldType) → is_none (first types) ≡ is_empty types
none_found [] = refl
none_found (type ∷ types) = refl

pub unmapped_is : (mappings : List Mapping) (field : List ℕ) → is_unmapped mappings field ≡ is_none (type_in mappings field)
unmapped_is mappings field = sym (none_found (types_in mappings field))

self_same : (type : FieldType) → is_same_type type type ≡ true
self_same Keyword = refl
self_same Long = refl
self_same Boolean = refl
self_same Date = refl

no_type_by : (types : List FieldType) → first types ≡ None → differ types ≡ false
no_type_by [] none = refl
no_type_by (type ∷ types) none = absurd (cc)

pub no_type_mixed : (mappings : List Mapping) (field : List ℕ) → type_in mappings field ≡ None → is_mixed mappings field ≡ false
no_type_mixed mappings field none = no_type_by (types_in mappings field) none

with_first : (kind : FieldType) (types : List FieldType) → first types ≡ Some kind → differ types ≡ not (list_all (is_same_type kind) types)
with_first kind [] is = absurd (cc)
with_first kind (type ∷ types) is =
    let same : type ≡ kind = cc in
    ap (λ k. not (list_all (is_same_type k) types)) same ∙ ap (λ b. not (b && list_all (is_same_type kind) types)) (sym (ap (is_same_type kind) same ∙ self_same kind))

pub type_mixed : (mappings : List Mapping) (field : List ℕ) (kind : FieldType) → type_in mappings field ≡ Some kind → is_mixed mappings field ≡ not (list_all (is_same_type kind) (types_in mappings field))
type_mixed mappings field kind is = with_first kind (types_in mappings field) is

pub ruleset sources = (unmapped_is, no_type_mixed, type_mixed)
