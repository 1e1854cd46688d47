use Rattle.std.proofs.Common.{ap, sym, ◌∙◌, rules, w64}
use Rattle.std.specs.Option.{option_copied}
use Rattle.std.proofs.lemmas.Int.{to_z-of_z}
use Rattle.tf_core.specs.Allowing.{if_stamped}
use Rattle.tf_core.proofs.Written.{kept}
use Rattle.tf_core.proofs.trees.written_values.Goals as goal

pub returns-in-Some : goal.returns-in-Some
returns-in-Some c =
    c.if_stamped.ensures
    ∙ (ap (λ ms. if_stamped (option_copied c.stamp.result) ms c.in-Some.values) (to_z-of_z w64 c.args.at_ms (search rules))
    ∙ (ap (λ stamp. if_stamped stamp c.args.at_ms c.in-Some.values) c.stamp.ensures
    ∙ kept c.args.index.now c.args.at_ms c.args.tree.now c.in-Some.values (sym c.is_object.ensures ∙ c.if-not-is_object.false)
    (sym c.in-Some.is ∙ c.in_ok-values.ensures)))
