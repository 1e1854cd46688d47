use Rattle.std.proofs.Common.{◌≡◌, List, ap, subst, ◌∙◌}
use Rattle.tf_model.specs.declared.entry.Entry.{Entry}
use Rattle.tf_core.specs.Held.{Held}
use Rattle.tf_core.specs.Lookups.{mentions_in}
use Rattle.tf_core.proofs.state.Core.count_of.Goals as goal

pub returns : goal.returns
returns c =
    subst (λ (history : List Entry). c.mentions.result ≡ mentions_in c.args.id.now history) (ap (λ (h : Held). h.history) c.self.view_is)
    (c.mentions.ensures ∙ c.self.invariant.mentioned c.args.id.now)
