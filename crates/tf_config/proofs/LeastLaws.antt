-- The least of several lists of texts, and names among those of groups and aggregations.
use Rattle.std.proofs.Common.{◌≡◌, ℕ, Bool, true, false, ◌||◌, List, [], ◌∷◌, ◌++◌, map, Option, refl, sym, ap, ◌∙◌}
use Rattle.std.specs.Prelude.{filter}
use Rattle.std.specs.List.{fold, flat_map, list_any}
use Rattle.std.specs.Str.{bytes_eq}
use Rattle.std.proofs.lemmas.List.Sums.{fold-append}
use Rattle.std.proofs.lemmas.List.Elements.{filter-append}
use Rattle.tf_model.specs.declared.config.Agg.{Agg}
use Rattle.tf_model.specs.declared.config.Group.{Group}
use Rattle.tf_model.specs.declared.query.Query.{Query}
use Rattle.tf_model.specs.declared.query.Query.TheVariants as query
use Rattle.tf_mapping.specs.Least.{lesser_text, is_one_of}
use Rattle.tf_query.specs.Reading.{fields_in}
use Rattle.tf_query.proofs.FieldLaws.{fields_all, fields_term, fields_exists, fields_range, fields_bool}
use Rattle.tf_config.specs.Checks.{column_names}

pub least_of_both : (least : Option (List ℕ)) (xs ys : List (List ℕ)) → fold lesser_text least (xs ++ ys) ≡ fold lesser_text (fold lesser_text least xs) ys
least_of_both least xs ys = fold-append lesser_text least xs ys

-- of those of two lists that are at fault
pub least_at_fault : (p : List ℕ → Bool) (least : Option (List ℕ)) (xs ys : List (List ℕ))
    → fold lesser_text least (filter p (xs ++ ys)) ≡ fold lesser_text (fold lesser_text least (filter p xs)) (filter p ys)
least_at_fault p least xs ys = ap (fold lesser_text least) (filter-append p xs ys) ∙ least_of_both least (filter p xs) (filter p ys)

-- of those of queries
pub least_of_bool : (p : List ℕ → Bool) (least : Option (List ℕ)) (met unmet : List Query)
    → fold lesser_text least (filter p (fields_in (query.Bool met unmet))) ≡ fold lesser_text (fold lesser_text least (filter p (flat_map fields_in met))) (filter p (flat_map fields_in unmet))
least_of_bool p least met unmet = ap (λ names. fold lesser_text least (filter p names)) (fields_bool met unmet) ∙ least_at_fault p least (flat_map fields_in met) (flat_map fields_in unmet)

pub ruleset leasts = (least_of_both, least_at_fault)

pub ruleset least_queries = (fields_all, fields_term, fields_exists, fields_range, least_of_bool)

-- ---- columns
or_assoc : (a b c : Bool) → ((a || b) || c) ≡ (a || (b || c))
or_assoc true b c = refl
or_assoc false b c = refl

any_agg : (aggs : List Agg) (name : List ℕ) → is_one_of (map (λ (agg : Agg). agg.name) aggs) name ≡ list_any (λ (agg : Agg). bytes_eq agg.name name) aggs
any_agg [] name = refl
any_agg (agg ∷ aggs) name = ap (λ rest. bytes_eq agg.name name || rest) (any_agg aggs name)

pub any_column : (groups : List Group) (aggs : List Agg) (name : List ℕ)
    → is_one_of (column_names groups aggs) name ≡ (list_any (λ (group : Group). bytes_eq group.name name) groups || list_any (λ (agg : Agg). bytes_eq agg.name name) aggs)
any_column [] aggs name = any_agg aggs name
any_column (group ∷ groups) aggs name =
    ap (λ rest. bytes_eq group.name name || rest) (any_column groups aggs name)
    ∙ sym (or_assoc (bytes_eq group.name name) (list_any (λ (g : Group). bytes_eq g.name name) groups) (list_any (λ (agg : Agg). bytes_eq agg.name name) aggs))

pub ruleset among_columns = (any_column)
