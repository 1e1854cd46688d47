use Rattle.std.proofs.Common.{ap, ◌∙◌, map}
use Rattle.std.specs.Prelude.{nat_eq}
use Rattle.std.specs.Cmp.Lexicographic.{pointwise}
use Rattle.tf_config.proofs.CatalogueLaws.{shared, added_last}
use Rattle.tf_config.proofs.catalogue.Catalogue.add.Goals as goal

pub returns-clause-ok : goal.returns-clause-ok
returns-clause-ok c =
    ap (map shared) (c.in_ok-insert.ensures.entries) ∙ added_last (pointwise nat_eq) c.self.inside.indices c.args.self.now c.args.name c.args.mapping c.self.view_is c.requires
