use Rattle.std.proofs.Common.{◌≡◌, ◌++◌, drop}
use Rattle.std.specs.Option.{option_map}
use Rattle.tf_group.specs.Reading.{parts_in}
use Rattle.tf_group.proofs.reading.read_parts.Given as goal

-- the parts so far and those of the items that are left
abbrev pub invariant-loop-place : goal.invariant-loop-place
invariant-loop-place l = option_map (λ rest. l.parts ++ rest) (parts_in (drop l.place l.types) (drop l.place l.items)) ≡ parts_in l.types l.items
