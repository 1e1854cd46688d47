-- A configuration that passes has its sources, and passes still where there are more indices.
use Rattle.std.proofs.Common.{◌≡◌, ℕ, Bool, true, false, List, [], ◌∷◌, ◌++◌, Option, Some, refl, sym, ap, ◌∙◌}
use Rattle.std.specs.Prelude.{codes, filter, not, is_none, is_some, if◌then◌else◌}
use Rattle.std.specs.List.{AllByRecursion, cons_option}
use Rattle.std.specs.Str.{bytes_eq}
use Rattle.tf_model.specs.declared.config.Config.{Config}
use Rattle.tf_model.specs.declared.query.Mapping.{Mapping}
use Rattle.tf_query.specs.Types.{suits_fields}
use Rattle.tf_config.specs.declared.error.ConfigError.{ConfigError}
use Rattle.tf_config.specs.declared.error.ConfigError.TheVariants as error
use Rattle.tf_config.specs.Catalogue.{Indices, mapping_named, mappings_of, fields_in, fields_of}
use Rattle.tf_config.specs.Checks.{told_if, empty_lists, too_long, too_deep, ill_named, absent_sources, twice_named}
use Rattle.tf_config.specs.Refusals.{first_refusal, faults_of_fields, faults_of_numbers, refusal_by, refusal_of, passes, no_faults}
use Rattle.tf_config.proofs.EmptyLists.{is_true, none_pass, all_weaker}
use Rattle.tf_config.proofs.ClearLaws.{passes_clear}

abbrev pub AreThere : Indices → List (List ℕ) → Type 0
AreThere indices names = AllByRecursion (λ name. is_some (mapping_named indices name) ≡ true) names

-- ---- a configuration that passes has its sources
pub sources_there : (indices : Indices) (c : Config) → passes indices c ≡ true → AreThere indices c.sources
sources_there indices c h =
    all_weaker (λ name. not (is_some (mapping_named indices name)) ≡ false) (λ name. is_some (mapping_named indices name) ≡ true)
    (λ name is. is_true (is_some (mapping_named indices name)) is) c.sources
    (none_pass (λ name. not (is_some (mapping_named indices name))) c.sources (passes_clear indices c h).absent_sources)

-- ---- more indices
module _ (more : Indices) where
  found_still : (name : List ℕ) (indices : Indices) → is_some (mapping_named indices name) ≡ true → mapping_named (indices ++ more) name ≡ mapping_named indices name
  found_still name [] there = absurd (let z : false ≡ true = there in cc)
  found_still name (index ∷ indices) there = by (bytes_eq name index.0) (found_still name indices) there
    where
      by : (b : Bool) → (is_some (mapping_named indices name) ≡ true → mapping_named (indices ++ more) name ≡ mapping_named indices name)
          → is_some (if b then Some index.1 else mapping_named indices name) ≡ true
          → (if b then Some index.1 else mapping_named (indices ++ more) name) ≡ (if b then Some index.1 else mapping_named indices name)
      by true rest h = refl
      by false rest h = rest h

  same_mappings : (indices : Indices) (sources : List (List ℕ)) → AreThere indices sources → mappings_of (indices ++ more) sources ≡ mappings_of indices sources
  same_mappings indices [] there = refl
  same_mappings indices (name ∷ sources) there = λ i. cons_option (found_still name indices there.0 i) (same_mappings indices sources there.1 i)

  same_absent : (indices : Indices) (sources : List (List ℕ)) → AreThere indices sources
      → filter (λ name. not (is_some (mapping_named (indices ++ more) name))) sources ≡ filter (λ name. not (is_some (mapping_named indices name))) sources
  same_absent indices [] there = refl
  same_absent indices (name ∷ sources) there =
      λ i. if not (is_some (found_still name indices there.0 i)) then name ∷ same_absent indices sources there.1 i else same_absent indices sources there.1 i

-- the first refusal, by what indices have of the sources
refusal_over : List Mapping → List (List ℕ) → Config → Option ConfigError
refusal_over mappings absent c =
    first_refusal
    ((error.Missing, empty_lists c)
    ∷ (error.WrongKind, told_if (not (suits_fields (fields_in mappings) c.query)) (codes "source.query"))
    ∷ (error.TooMany, too_long c ++ too_deep c ++ [])
    ∷ (error.BadName, ill_named true c)
    ∷ (error.NoSuchIndex, absent)
    ∷ (error.TwiceName, twice_named c)
    ∷ (faults_of_fields mappings no_faults c ++ faults_of_numbers c))

is_over : (indices : Indices) (c : Config) → refusal_of indices c ≡ refusal_over (mappings_of indices c.sources) (absent_sources indices c) c
unfolding refusal_by fields_of refusal_over
is_over indices c = refl

pub passes_still : (indices more : Indices) (c : Config) → passes indices c ≡ true → passes (indices ++ more) c ≡ true
passes_still indices more c h =
    let there = sources_there indices c h in
    ap (λ o. is_none o) (is_over (indices ++ more) c
    ∙ ((λ i. refusal_over (same_mappings more indices c.sources there i) (same_absent more indices c.sources there i) c) ∙ sym (is_over indices c)))
    ∙ h
