use Rattle.std.proofs.Common.{◌≡◌, Some, Option, sym, ◌∙◌}
use Rattle.std.specs.Prelude.{reverse, take}
use Rattle.tf_reply.specs.declared.replies.Reply.{Reply}
use Rattle.tf_decide.specs.Replying.{reply_alone}
use Rattle.tf_decide.proofs.ToldAlone.{alone_replied, never_none}
use Rattle.tf_decide.proofs.moved.reply.Goals as goal

pub unreachable-requires : goal.unreachable-requires
unreachable-requires c =
    let now = reverse c.args.core.now.history in
    let parts = c.args.command.now in
    let is = c.parts-parts.ensures.parts in
    never_none parts.line now parts.op c.requires.alone (sym c.in-None.is ∙ (c.in_ok-told.ensures ∙ (λ i. reply_alone (is i).line now (is i).op)))

pub returns : goal.returns
returns c =
    let history = c.args.core.now.history in
    let parts = c.args.command.now in
    let is = c.parts-parts.ensures.parts in
    let some : ◌≡◌ {A = Option Reply} (Some c.in-Some.reply) (reply_alone parts.line (reverse history) parts.op)
    = sym c.in-Some.is ∙ (c.in_ok-told.ensures ∙ (λ i. reply_alone (is i).line (reverse history) (is i).op)) in
    alone_replied parts.line (reverse (take c.args.from history)) (reverse history) parts.op c.in-Some.reply some c.requires.accepted
