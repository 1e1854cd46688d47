use Rattle.std.proofs.Common.{refl, ◌∙◌}
use Rattle.std.proofs.lemmas.Option.{slice_get_read}
use Rattle.tf_config.specs.Catalogue.{mapping_named}
use Rattle.tf_core.proofs.NamedOnce.{name_is_new}
use Rattle.tf_core.proofs.catalogue.catalogue_of.Goals as goal

pub add-requires : goal.add-requires
add-requires c =
    (λ i. mapping_named (c.loop-index.invariant i) ((c.in_ok-copy.ensures ∙ c.name.ensures) i))
    ∙ name_is_new c.args.indices.now c.loop-index.index-index c.index-item.result c.requires
    (slice_get_read c.args.indices.now _ c.loop-index.index-index c.index-item.result refl c.loop-index-test.true c.index-item.is)
