-- The equations of `fields_in`, one for each kind of query.
use Rattle.std.proofs.Common.{◌≡◌, ℕ, Bool, List, [], ◌∷◌, ◌++◌, Option, map, sym, ap, ap₂, ◌∙◌, refl}
use Rattle.std.specs.Prelude.{filter}
use Rattle.std.specs.List.{flat_map, fold}
use Rattle.std.proofs.lemmas.List.Sums.{fold-append}
use Rattle.std.proofs.lemmas.List.Elements.{filter-append}
use Rattle.tf_model.specs.declared.value.Value.{Value}
use Rattle.tf_model.specs.declared.query.Query.{Query}
use Rattle.tf_model.specs.declared.query.Query.TheOpen.{Query-F}
use Rattle.tf_model.specs.declared.query.Query.TheVariants as query
use Rattle.tf_model.specs.declared.query.Query.TheFolds.{fold-roll-Query}
use Rattle.tf_query.specs.Unknown.{lesser_text}
use Rattle.tf_query.specs.Reading.{fields_step, fields_in}

pub fields_all : fields_in query.MatchAll ≡ []
unfolding fields_in
fields_all = ap fields_in (sym query.rolls-MatchAll) ∙ fold-roll-Query (List (List ℕ)) fields_step Query-F.MatchAll

pub fields_term : (field : List ℕ) (v : Value) → fields_in (query.Term field v) ≡ field ∷ []
unfolding fields_in
fields_term field v = ap fields_in (sym (query.rolls-Term field v)) ∙ fold-roll-Query (List (List ℕ)) fields_step (Query-F.Term field v)

pub fields_exists : (field : List ℕ) → fields_in (query.Exists field) ≡ field ∷ []
unfolding fields_in
fields_exists field = ap fields_in (sym (query.rolls-Exists field)) ∙ fold-roll-Query (List (List ℕ)) fields_step (Query-F.Exists field)

pub fields_range : (field : List ℕ) (low : Option Value) (low_open : Bool) (high : Option Value) (high_open : Bool) → fields_in (query.Range field low low_open high high_open) ≡ field ∷ []
unfolding fields_in
fields_range field low low_open high high_open =
    ap fields_in (sym (query.rolls-Range field low low_open high high_open)) ∙ fold-roll-Query (List (List ℕ)) fields_step (Query-F.Range field low low_open high high_open)

joined : (qs : List Query) → flat_map (λ fields. fields) (map fields_in qs) ≡ flat_map fields_in qs
joined [] = refl
joined (q ∷ qs) = ap (λ rest. fields_in q ++ rest) (joined qs)

pub fields_bool : (filter must_not : List Query) → fields_in (query.Bool filter must_not) ≡ flat_map fields_in filter ++ flat_map fields_in must_not
unfolding fields_in
fields_bool filter must_not = ap fields_in (sym (query.rolls-Bool filter must_not)) ∙ fold-roll-Query (List (List ℕ)) fields_step (Query-F.Bool filter must_not)
    ∙ ap₂ (λ met unmet. met ++ unmet) (joined filter) (joined must_not)

least_of_both : (p : List ℕ → Bool) (least : Option (List ℕ)) (xs ys : List (List ℕ))
    → fold lesser_text least (filter p (xs ++ ys)) ≡ fold lesser_text (fold lesser_text least (filter p xs)) (filter p ys)
least_of_both p least xs ys = ap (fold lesser_text least) (filter-append p xs ys) ∙ fold-append lesser_text least (filter p xs) (filter p ys)

pub least_of_bool : (p : List ℕ → Bool) (least : Option (List ℕ)) (met unmet : List Query)
    → fold lesser_text least (filter p (fields_in (query.Bool met unmet))) ≡ fold lesser_text (fold lesser_text least (filter p (flat_map fields_in met))) (filter p (flat_map fields_in unmet))
least_of_bool p least met unmet = ap (λ names. fold lesser_text least (filter p names)) (fields_bool met unmet) ∙ least_of_both p least (flat_map fields_in met) (flat_map fields_in unmet)

pub ruleset fields = (fields_all, fields_term, fields_exists, fields_range, least_of_bool)
