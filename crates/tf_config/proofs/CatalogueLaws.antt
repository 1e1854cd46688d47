-- Look-ups among indices whose mappings are shared.
use Rattle.std.proofs.Common.{◌≡◌, Bool, true, false, cond, List, [], ◌∷◌, ◌++◌, map, Option, Some, None, sym, ap, ◌∙◌, refl}
use Rattle.std.specs.Arc.{arc_value}
use Rattle.std.specs.declared.sync.Arc.{Arc}
use Rattle.std.specs.Map.{lookup}
use Rattle.std.specs.Option.{option_map}
use Rattle.indexmap.specs.IndexMap.{IndexMap, insert_entry}
use Rattle.indexmap.proofs.CallerLemmas.{insert_entry-new}

by_test : {X Z : Type 0} (b : Bool) (entry : Arc X Z) (rest : Option (Arc X Z)) (others : Option X) → others ≡ option_map (λ a. arc_value a) rest
    → cond b (Some (arc_value entry)) others ≡ option_map (λ a. arc_value a) (cond b (Some entry) rest)
by_test true entry rest others same = refl
by_test false entry rest others same = same

none_before : {X Z : Type 0} (o : Option (Arc X Z)) → option_map (λ a. arc_value a) o ≡ None → o ≡ None
none_before None none = refl
none_before (Some a) none = absurd (cc)

module _ {K X Z : Type 0} where
  abbrev pub shared : K × Arc X Z → K × X
  shared entry = (entry.0, arc_value entry.1)

  pub lookup_shared : (test : K → Bool) (entries : List (K × Arc X Z)) → lookup test (map shared entries) ≡ option_map (λ a. arc_value a) (lookup test entries)
  lookup_shared test [] = refl
  lookup_shared test (entry ∷ entries) = by_test (test entry.0) entry.1 (lookup test entries) (lookup test (map shared entries)) (lookup_shared test entries)

  -- what is found among the entries themselves
  pub found_shared : (test : K → Bool) (entries : List (K × Arc X Z)) (seen : List (K × X)) (found : Option (Arc X Z)) → map shared entries ≡ seen → found ≡ lookup test entries
      → option_map (λ a. arc_value a) found ≡ lookup test seen
  found_shared test entries seen found is same = ap (option_map (λ a. arc_value a)) same ∙ sym (lookup_shared test entries) ∙ ap (lookup test) is

  shared_append : (entries : List (K × Arc X Z)) (entry : K × Arc X Z) → map shared (entries ++ entry ∷ []) ≡ map shared entries ++ shared entry ∷ []
  shared_append [] entry = refl
  shared_append (e ∷ entries) entry = ap (λ rest. shared e ∷ rest) (shared_append entries entry)

  -- a new name goes last
  pub added_last : {S : Type 0} (eq : K → K → Bool) (old : IndexMap K (Arc X Z) S) (seen : List (K × X)) (name : K) (mapping : Arc X Z) → map shared old.entries ≡ seen → lookup (eq name) seen ≡ None
      → map shared (insert_entry eq old.entries name mapping) ≡ seen ++ (name, arc_value mapping) ∷ []
  added_last eq old seen name mapping is none =
      let before : lookup (eq name) old.entries ≡ None = none_before (lookup (eq name) old.entries) (sym (lookup_shared (eq name) old.entries) ∙ ap (lookup (eq name)) is ∙ none) in
      ap (map shared) (insert_entry-new eq old name mapping before) ∙ shared_append old.entries (name, mapping) ∙ ap (λ front. front ++ (name, arc_value mapping) ∷ []) is
