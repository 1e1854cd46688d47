use Rattle.std.proofs.Common.{◌≡◌, subst, sym}
use Rattle.std.proofs.lemmas.Result.{IfOk-weaker}
use Rattle.tf_model.specs.Lines.{IsLine}
use Rattle.tf_reply.specs.Answers.{own_members}
use Rattle.tf_reply.specs.Objects.{AreLines, HasOrderedNames, placed}
use Rattle.tf_reply.proofs.LineLaws.{placed_is_ordered, placed_line}
use Rattle.tf_reply.proofs.answers.reply_tree.Goals as goal

pub returns-clause-names : goal.returns-clause-names
returns-clause-names c =
    IfOk-weaker c.placed.result (λ tree. tree ≡ placed c.line.result c.no.result c.in_ok-members.members) (λ tree. HasOrderedNames tree)
    (λ tree is. subst (λ t. HasOrderedNames t) (sym is) (placed_is_ordered c.line.result c.no.result c.in_ok-members.members)) c.placed.ensures

pub returns-clause-line : goal.returns-clause-line
returns-clause-line c =
    IfOk-weaker c.placed.result (λ tree. tree ≡ placed c.line.result c.no.result c.in_ok-members.members) (λ tree. AreLines 126 (own_members c.args.reply.now) → IsLine tree)
    (λ tree is all. subst IsLine (sym is)
    (placed_line c.line.result c.no.result c.in_ok-members.members c.line.type_inv c.no.type_inv (subst (λ members. AreLines 126 members) (sym c.in_ok-members.ensures) all))) c.placed.ensures
