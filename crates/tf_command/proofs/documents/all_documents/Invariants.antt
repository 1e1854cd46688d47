use Rattle.std.proofs.Common.{◌≡◌, drop, is_some}
use Rattle.tf_command.specs.Forms.{all_documents}
use Rattle.tf_command.proofs.documents.all_documents.Given as goal

abbrev pub invariant-loop-item : goal.invariant-loop-item
invariant-loop-item l = is_some (all_documents (drop l.item-index l.items)) ≡ is_some (all_documents l.items)
