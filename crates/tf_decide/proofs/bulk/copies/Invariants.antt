use Rattle.std.proofs.Common.{◌≡◌, take}
use Rattle.tf_decide.proofs.bulk.copies.Given as goal

abbrev pub invariant-loop-document : goal.invariant-loop-document
invariant-loop-document l = l.copies ≡ take l.document-index l.docs
