use Rattle.std.proofs.Common.{◌≡◌, take, flat_map}
use Rattle.tf_model.specs.Print.{escaped}
use Rattle.tf_event.proofs.tree_text.plain_len.Given as goal

abbrev pub invariant-loop-place : goal.invariant-loop-place
invariant-loop-place l = flat_map escaped (take l.place l.text) ≡ take l.place l.text
