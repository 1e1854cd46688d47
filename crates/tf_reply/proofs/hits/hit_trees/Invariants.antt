use Rattle.std.proofs.Common.{◌≡◌, map, take}
use Rattle.tf_reply.specs.Answers.{hit_tree}
use Rattle.tf_reply.proofs.hits.hit_trees.Given as goal

abbrev pub invariant-loop-hit : goal.invariant-loop-hit
invariant-loop-hit l = l.trees ≡ map hit_tree (take l.hit-index l.hits)
