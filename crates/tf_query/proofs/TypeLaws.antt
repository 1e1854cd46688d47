-- The equations of `suits_fields`, one for each kind of query.
use Rattle.std.proofs.Common.{◌≡◌, ℕ, Bool, true, ◌&&◌, List, [], ◌∷◌, Option, map, sym, ap, ap₂, ◌∙◌, refl}
use Rattle.std.specs.List.{list_all}
use Rattle.tf_model.specs.declared.value.Value.{Value}
use Rattle.tf_model.specs.declared.query.Query.{Query}
use Rattle.tf_model.specs.declared.query.Query.TheOpen.{Query-F}
use Rattle.tf_model.specs.declared.query.Query.TheVariants as query
use Rattle.tf_model.specs.declared.query.Query.TheFolds.{fold-roll-Query}
use Rattle.tf_model.specs.declared.query.Mapping.{Mapping}
use Rattle.tf_model.specs.Query.{all_true}
use Rattle.tf_model.specs.Values.{type_of}
use Rattle.tf_query.specs.Types.{suits, end_suits, has_end, suits_step, suits_fields}

pub types_all : (fields : Mapping) → suits_fields fields query.MatchAll ≡ true
unfolding suits_fields
types_all fields = ap (suits_fields fields) (sym query.rolls-MatchAll) ∙ fold-roll-Query Bool (suits_step fields) Query-F.MatchAll

pub types_term : (fields : Mapping) (field : List ℕ) (v : Value) → suits_fields fields (query.Term field v) ≡ suits (type_of fields field) v
unfolding suits_fields
types_term fields field v = ap (suits_fields fields) (sym (query.rolls-Term field v)) ∙ fold-roll-Query Bool (suits_step fields) (Query-F.Term field v)

pub types_exists : (fields : Mapping) (field : List ℕ) → suits_fields fields (query.Exists field) ≡ true
unfolding suits_fields
types_exists fields field = ap (suits_fields fields) (sym (query.rolls-Exists field)) ∙ fold-roll-Query Bool (suits_step fields) (Query-F.Exists field)

pub types_range : (fields : Mapping) (field : List ℕ) (low : Option Value) (low_open : Bool) (high : Option Value) (high_open : Bool)
    → suits_fields fields (query.Range field low low_open high high_open) ≡ (has_end low high && end_suits (type_of fields field) low && end_suits (type_of fields field) high)
unfolding suits_fields
types_range fields field low low_open high high_open =
    ap (suits_fields fields) (sym (query.rolls-Range field low low_open high high_open)) ∙ fold-roll-Query Bool (suits_step fields) (Query-F.Range field low low_open high high_open)

all_of : (fields : Mapping) (queries : List Query) → all_true (map (suits_fields fields) queries) ≡ list_all (suits_fields fields) queries
all_of fields [] = refl
all_of fields (q ∷ queries) = ap (λ rest. suits_fields fields q && rest) (all_of fields queries)

pub types_bool : (fields : Mapping) (filter must_not : List Query) → suits_fields fields (query.Bool filter must_not) ≡ (list_all (suits_fields fields) filter && list_all (suits_fields fields) must_not)
unfolding suits_fields
types_bool fields filter must_not = ap (suits_fields fields) (sym (query.rolls-Bool filter must_not)) ∙ fold-roll-Query Bool (suits_step fields) (Query-F.Bool filter must_not)
    ∙ ap₂ (λ a b. a && b) (all_of fields filter) (all_of fields must_not)

pub ruleset types = (types_all, types_term, types_exists, types_range, types_bool)
