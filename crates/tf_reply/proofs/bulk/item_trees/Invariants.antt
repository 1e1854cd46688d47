use Rattle.std.proofs.Common.{◌≡◌, map, take}
use Rattle.tf_reply.specs.Answers.{item_tree}
use Rattle.tf_reply.proofs.bulk.item_trees.Given as goal

abbrev pub invariant-loop-item : goal.invariant-loop-item
invariant-loop-item l = l.trees ≡ map item_tree (take l.item-index l.items)
