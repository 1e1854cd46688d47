-- Rows that can be shown.
use Rattle.tf_model.specs.declared.entry.Row.{Row}
use Rattle.tf_model.specs.declared.entry.Row.TheVariants as row
use Rattle.tf_reply.specs.Sources.{AreShowable}

-- the dates in a pivot's row are of the years 0 to 9999
abbrev pub IsShown : Row → Type 0
IsShown (row.Pivot key values) = AreShowable key.parts × AreShowable values
IsShown (row.Latest key index shard seq) = Unit {0}
