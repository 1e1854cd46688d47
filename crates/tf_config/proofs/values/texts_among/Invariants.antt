use Rattle.std.proofs.Common.{◌≡◌, ◌++◌, drop}
use Rattle.std.specs.List.{filter_map}
use Rattle.tf_model.specs.Trees.{text_in}
use Rattle.tf_config.proofs.values.texts_among.Given as goal

abbrev pub invariant-loop-item : goal.invariant-loop-item
invariant-loop-item l = l.texts ++ filter_map text_in (drop l.item-index l.items) ≡ filter_map text_in l.items
