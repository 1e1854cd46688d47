use Rattle.std.proofs.Common.{◌∙◌, Some, None, ap}
use Rattle.std.specs.Prelude.{nat_eq}
use Rattle.std.specs.Cmp.Lexicographic.{pointwise}
use Rattle.tf_config.proofs.CatalogueLaws.{found_shared}
use Rattle.tf_config.proofs.catalogue.Catalogue.mapping.Goals as goal

pub returns-in-Some : goal.returns-in-Some
returns-in-Some c =
    ap Some c.deref.ensures ∙ found_shared (pointwise nat_eq c.args.name.now) c.self.inside.indices.entries c.args.self.now (Some c.in-Some.mapping.now) c.self.view_is c.in-Some.ensures.value

pub returns-in-None : goal.returns-in-None
returns-in-None c = found_shared (pointwise nat_eq c.args.name.now) c.self.inside.indices.entries c.args.self.now None c.self.view_is c.in-None.ensures.value
