use Rattle.std.proofs.Common.{◌≡◌, drop}
use Rattle.std.specs.List.{list_all}
use Rattle.tf_query.specs.Types.{suits_fields}
use Rattle.tf_query.proofs.typing.+typing.Given as goal

abbrev pub invariant-all_suit_fields-loop-query : goal.invariant-all_suit_fields-loop-query
invariant-all_suit_fields-loop-query l = list_all (suits_fields l.fields) (drop l.query-index l.queries) ≡ list_all (suits_fields l.fields) l.queries
