use Rattle.std.proofs.Common.{◌≡◌, ◌++◌, map, drop}
use Rattle.std.specs.Option.{option_map}
use Rattle.tf_query.specs.Queries.{clause, parts_of, part_of, all_queries}
use Rattle.tf_query.proofs.building.+build.Given as goal

abbrev pub invariant-build_clause-loop-member : goal.invariant-build_clause-loop-member
invariant-build_clause-loop-member l = clause l.name (parts_of l.fields (drop l.member-index l.members)) ≡ clause l.name (parts_of l.fields l.members)

-- the queries so far and those of the items that are left
abbrev pub invariant-build_items-loop-item : goal.invariant-build_items-loop-item
invariant-build_items-loop-item l =
    option_map (λ rest. l.queries ++ rest) (all_queries (map (part_of l.fields) (drop l.item-index l.items))) ≡ all_queries (map (part_of l.fields) l.items)
