-- The equations of `nesting`, one for each kind of query, as bounds.
use Rattle.std.proofs.Common.{◌≡◌, ℕ, ◌+◌, ◌-◌, ◌<◌, max, Bool, false, ◌&&◌, List, [], ◌∷◌, Option, map, sym, ap, ap₂, ◌∙◌, arith}
use Rattle.std.specs.Prelude.{nat_le}
use Rattle.std.specs.List.{list_all}
use Rattle.std.proofs.lemmas.Bool.Decides.{nat_tests}
use Rattle.tf_model.specs.declared.value.Value.{Value}
use Rattle.tf_model.specs.declared.query.Query.{Query}
use Rattle.tf_model.specs.declared.query.Query.TheOpen.{Query-F}
use Rattle.tf_model.specs.declared.query.Query.TheVariants as query
use Rattle.tf_model.specs.declared.query.Query.TheFolds.{fold-roll-Query}
use Rattle.tf_query.specs.Reading.{greatest, nesting_step, nesting}

pub nesting_all : nesting query.MatchAll ≡ 1
unfolding nesting
nesting_all = ap nesting (sym query.rolls-MatchAll) ∙ fold-roll-Query ℕ nesting_step Query-F.MatchAll

pub nesting_term : (field : List ℕ) (v : Value) → nesting (query.Term field v) ≡ 1
unfolding nesting
nesting_term field v = ap nesting (sym (query.rolls-Term field v)) ∙ fold-roll-Query ℕ nesting_step (Query-F.Term field v)

pub nesting_exists : (field : List ℕ) → nesting (query.Exists field) ≡ 1
unfolding nesting
nesting_exists field = ap nesting (sym (query.rolls-Exists field)) ∙ fold-roll-Query ℕ nesting_step (Query-F.Exists field)

pub nesting_range : (field : List ℕ) (low : Option Value) (low_open : Bool) (high : Option Value) (high_open : Bool) → nesting (query.Range field low low_open high high_open) ≡ 1
unfolding nesting
nesting_range field low low_open high high_open =
    ap nesting (sym (query.rolls-Range field low low_open high high_open)) ∙ fold-roll-Query ℕ nesting_step (Query-F.Range field low low_open high high_open)

pub nesting_bool : (filter must_not : List Query) → nesting (query.Bool filter must_not) ≡ 1 + max (greatest (map nesting filter)) (greatest (map nesting must_not))
unfolding nesting
nesting_bool filter must_not = ap nesting (sym (query.rolls-Bool filter must_not)) ∙ fold-roll-Query ℕ nesting_step (Query-F.Bool filter must_not)

max_within : (a b n : ℕ) → nat_le (max a b) n ≡ (nat_le a n && nat_le b n)
max_within a b n = grind (arith, nat_tests)

all_within : (qs : List Query) (n : ℕ) → nat_le (greatest (map nesting qs)) n ≡ list_all (λ q. nat_le (nesting q) n) qs
all_within [] n = grind (arith, nat_tests)
all_within (q ∷ qs) n = max_within (nesting q) (greatest (map nesting qs)) n ∙ ap (λ rest. nat_le (nesting q) n && rest) (all_within qs n)

one_less : (a n : ℕ) → 0 < n → nat_le (1 + a) n ≡ nat_le a (n - 1)
one_less a n some = grind (arith, nat_tests)

pub bool_within : (filter must_not : List Query) (n : ℕ) → 0 < n
    → nat_le (nesting (query.Bool filter must_not)) n ≡ (list_all (λ q. nat_le (nesting q) (n - 1)) filter && list_all (λ q. nat_le (nesting q) (n - 1)) must_not)
bool_within filter must_not n some =
    ap (λ a. nat_le a n) (nesting_bool filter must_not) ∙ one_less (max (greatest (map nesting filter)) (greatest (map nesting must_not))) n some
    ∙ max_within (greatest (map nesting filter)) (greatest (map nesting must_not)) (n - 1)
    ∙ ap₂ (λ a b. a && b) (all_within filter (n - 1)) (all_within must_not (n - 1))

pub bool_within_none : (filter must_not : List Query) → nat_le (nesting (query.Bool filter must_not)) 0 ≡ false
bool_within_none filter must_not = ap (λ a. nat_le a 0) (nesting_bool filter must_not) ∙ grind (arith, nat_tests)

pub ruleset nestings = (nesting_all, nesting_term, nesting_exists, nesting_range, bool_within, bool_within_none)
