use Rattle.std.proofs.Common.{◌≡◌, [], drop}
use Rattle.std.specs.List.{fold, flat_map}
use Rattle.tf_config.specs.Catalogue.{put_new, mappings_of}
use Rattle.tf_config.proofs.catalogue.Catalogue.fields.Given as goal

abbrev pub invariant-loop-source : goal.invariant-loop-source
invariant-loop-source l =
    fold put_new l.fields.entries (flat_map (λ mapping. mapping.fields) (mappings_of l.self (drop l.source-index l.sources)))
    ≡ fold put_new [] (flat_map (λ mapping. mapping.fields) (mappings_of l.self l.sources))
