use Rattle.std.proofs.Common.{◌≡◌, ◌++◌}
use Rattle.std.specs.Option.{option_map}
use Rattle.std.specs.Vec.Iter.{into_iter_items}
use Rattle.tf_command.specs.Forms.{all_documents}
use Rattle.tf_command.proofs.documents.moved.Given as goal

abbrev pub invariant-loop-item : goal.invariant-loop-item
invariant-loop-item l = option_map (λ rest. l.docs ++ rest) (all_documents (into_iter_items l.item-iterator)) ≡ all_documents l.fn.items
