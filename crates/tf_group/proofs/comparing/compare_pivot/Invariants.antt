use Rattle.std.proofs.Common.{◌≡◌, drop}
use Rattle.std.specs.Cmp.Lexicographic.{slice_cmp}
use Rattle.std.specs.Option.{option_map}
use Rattle.std.specs.Ordering.{ordering_then}
use Rattle.tf_model.specs.Keys as spec
use Rattle.tf_model.specs.Order.{value_cmp}
use Rattle.tf_group.proofs.comparing.compare_pivot.Given as goal

-- the order of the parts so far, and then that of the parts that are left
abbrev pub invariant-loop-place : goal.invariant-loop-place
invariant-loop-place l = option_map (λ parts. ordering_then l.so_far (slice_cmp value_cmp parts (drop l.place l.others))) (spec.parts_of l.doc (drop l.place l.groups))
    ≡ option_map (λ parts. slice_cmp value_cmp parts l.others) (spec.parts_of l.doc l.groups)
