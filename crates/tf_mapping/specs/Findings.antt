-- What the code finds, as the definitions see it.
use Rattle.std.specs.List.{fold}
use Rattle.tf_model.specs.declared.tree.Tree.{Tree}
use Rattle.tf_mapping.specs.declared.found.Found.{Found}
use Rattle.tf_mapping.specs.declared.found.Found.TheVariants as found
use Rattle.tf_mapping.specs.Scalars.{Left, Seen, nothing, one, many, with_one, found_in}

abbrev pub shown : Found → Seen
shown found.Nothing = nothing
shown (found.One t) = one t.now
shown found.Many = many

-- what was seen before, and the scalars where what is left of a path leads from a tree
abbrev pub seen_more : Seen → Tree → Left → Seen
seen_more seen t left = fold with_one seen (found_in t left)
