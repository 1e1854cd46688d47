use Rattle.std.proofs.Common.{◌≡◌, drop, map}
use Rattle.std.specs.Cmp.Lexicographic.{slice_cmp}
use Rattle.std.specs.Ordering.{ordering_then}
use Rattle.tf_model.specs.Keys as spec
use Rattle.tf_model.specs.Order.{value_cmp}
use Rattle.tf_group.proofs.comparing.compare_latest.Given as goal

-- the order of the parts so far, and then that of the parts that are left
abbrev pub invariant-loop-place : goal.invariant-loop-place
invariant-loop-place l = ordering_then l.so_far (slice_cmp value_cmp (map (spec.latest_part l.doc) (drop l.place l.fields)) (drop l.place l.others))
    ≡ slice_cmp value_cmp (map (spec.latest_part l.doc) l.fields) l.others
