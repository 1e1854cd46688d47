use Rattle.std.proofs.Common.{◌≡◌, drop}
use Rattle.std.specs.List.{fold}
use Rattle.tf_config.specs.Catalogue.{put_new}
use Rattle.tf_config.proofs.catalogue.put_fields.Given as goal

abbrev pub invariant-loop-name : goal.invariant-loop-name
invariant-loop-name l = fold put_new l.fields.entries (drop l.name-index l.more) ≡ fold put_new l.initial.fields.entries l.more
