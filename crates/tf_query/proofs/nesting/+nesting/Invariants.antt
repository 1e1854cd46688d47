use Rattle.std.proofs.Common.{◌≡◌, drop}
use Rattle.std.specs.Prelude.{nat_le}
use Rattle.std.specs.List.{list_all}
use Rattle.tf_query.specs.Reading.{nesting}
use Rattle.tf_query.proofs.nesting.+nesting.Given as goal

abbrev pub invariant-all_nest_within-loop-query : goal.invariant-all_nest_within-loop-query
invariant-all_nest_within-loop-query l = list_all (λ q. nat_le (nesting q) l.most) (drop l.query-index l.queries) ≡ list_all (λ q. nat_le (nesting q) l.most) l.queries
