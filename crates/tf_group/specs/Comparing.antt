-- Parts of keys as values, and how they compare with those of another key.
use Rattle.std.specs.Prelude.{Option, Some, None}
use Rattle.std.specs.declared.cmp.Ordering.{Ordering}
use Rattle.std.specs.declared.cmp.Ordering.TheVariants.{Greater}
use Rattle.tf_model.specs.declared.value.Value.{Value}
use Rattle.tf_model.specs.Order.{value_cmp}
use Rattle.tf_group.specs.declared.parts.Part.{Part}
use Rattle.tf_group.specs.declared.parts.Part.TheVariants.{Lent, Made}

-- the value that a part is
abbrev pub part_value : Part → Value
part_value (Lent value) = value.now
part_value (Made value) = value

-- a part against the part of another key at its place: above it where the other key has none there
abbrev pub part_cmp : Value → Option Value → Ordering
part_cmp part None = Greater
part_cmp part (Some other) = value_cmp part other
