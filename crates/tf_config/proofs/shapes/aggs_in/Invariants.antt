use Rattle.std.proofs.Common.{◌≡◌, ◌++◌, drop}
use Rattle.std.specs.List.{filter_map}
use Rattle.tf_config.specs.Drafts.{agg_of}
use Rattle.tf_config.proofs.shapes.aggs_in.Given as goal

abbrev pub invariant-loop-name : goal.invariant-loop-name
invariant-loop-name l = l.aggs ++ filter_map agg_of (drop l.name-index l.members) ≡ filter_map agg_of l.members
