-- The forms that are built: which entries the program takes beside what legality asks.
use Rattle.std.specs.Prelude.{Bool, true, false, ◌&&◌, is_none}
use Rattle.tf_model.specs.declared.config.Config.{Config}
use Rattle.tf_model.specs.declared.entry.Kind.{Kind}
use Rattle.tf_model.specs.declared.entry.Kind.TheVariants as kind
use Rattle.tf_model.specs.Scratch.{is_pivot}

-- a pivot that keeps all its rows, batch or continuous
abbrev pub is_built_config : Config → Bool
is_built_config c = is_pivot c.shape && is_none c.retention

-- Whether an entry is of a form that is built: any index, any document, pivots, which are started, and all their moves.
abbrev pub is_built : Kind → Bool
is_built (kind.Put id config) = is_built_config config
is_built (kind.Delete id) = false
is_built (kind.StopAsked id wait) = false
is_built (kind.Schedule id) = false
is_built (kind.Reset id) = false
is_built _ = true
