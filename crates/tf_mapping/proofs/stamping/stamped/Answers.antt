use Rattle.std.proofs.Common.{◌≡◌, List, ℕ, subst, sym, ◌∙◌, rules}
use Rattle.tf_model.specs.declared.tree.Tree.{Tree}
use Rattle.tf_model.specs.declared.tree.Tree.TheVariants as t
use Rattle.tf_model.specs.Lines.{IsLine}
use Rattle.tf_mapping.specs.Stamps.{with_member}
use Rattle.tf_mapping.proofs.StampLaws.{line_stamped, whole_i64}
use Rattle.tf_mapping.proofs.stamping.stamped.Goals as goal

pub returns-clause-line : goal.returns-clause-line
returns-clause-line c = λ line.
    let number : c.number.result ≡ t.Num c.args.ms = search rules in
    subst (λ (members : List (List ℕ × Tree)). IsLine (t.Obj members)) (sym c.in_ok-with_member-in-Some.ensures)
    (subst (λ moment. IsLine (t.Obj (with_member c.in-Some.members c.as_str.result.now moment))) (sym number)
    (line_stamped c.args.tree c.in-Some.members c.as_str.result.now c.args.ms (sym c.into_object.ensures ∙ c.in-Some.is) c.as_str.utf8 (whole_i64 c.args.ms c.ranges.ms) line))
